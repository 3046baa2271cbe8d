-- No list of moves from the identity to a permutation is shorter than its values away from their own position and its cycles of two or more together. From what a
-- permutation's values and cycles are, and the laws of counting: a move sets right at most one position or breaks at most one cycle, never both. Assumes nothing.
use mathlib.Core.Path.{◌≡◌, sym, ap, ◌∙◌}
use Prim.Native.Nat.{ℕ, suc, ◌+◌, ◌≤◌, ◌<◌}
use native.Mathlib.Decide.{ℕ_discrete}
use native.Mathlib.Omega.{arith}
use mathlib.Core.Bool.{Bool, true, false, not, ◌&&◌, true≢false}
use mathlib.Core.List.{List, [], ◌∷◌}
use lib.Dec.{T, eqb}
use lib.ListN.{length}
use borrow.Table.Steps.{cases}
use borrow.Author.Tests.{not-true, not-false, ltb-false, eqb-true, eqb-false, eq-eqb, ne_eqb}
use Rattle.stirling.specs.Refusal.{within}
use Rattle.stirling.proofs.Refusals.{and-true, within_holds, within-true}
use Rattle.perm.specs.Lists.{tally, some, range, positions}
use Rattle.perm.specs.Permutation.{IsPermutation, at}
use Rattle.perm.specs.Cycle.{follow, least}
use Rattle.perm.specs.Pairs.{Pair}
use Rattle.perm.proofs.Tally.{refuted, tally-range_cong, range_none_passes, range-tally_none}
use Rattle.perm.proofs.Values.{in_range}
use Rattle.perm.proofs.Cycles.{follow_add, follow-range, met-within, met-from, has_least, one_least}
use Rattle.moves.specs.State.{State, standing, placed, home, moved, after, IsPossible, LeadsTo}
use Rattle.moves.specs.Written.{begins, away, long_cycles}
use Rattle.perm.proofs.Counting.{tally-le, tally-le-one}
use Rattle.moves.proofs.Moving.{standing-placed, standing-home, moved-from, moved_to, moved_other, Each, Valid, each_of}
use Rattle.moves.proofs.Long.{begins_least, begins-away}

-- position i has another value than s wants there
unfoldable pub wrong_at : List ℕ → State → ℕ → Bool
wrong_at s t i = not (eqb (at s i) (standing t i))

-- how many positions do
unfoldable pub wrong : List ℕ → State → ℕ
wrong s t = tally (wrong_at s t) (positions (length s))

-- the position met from a after u steps has another value than its own
abbrev strays : List ℕ → State → ℕ → ℕ → Bool
strays s t a u = not (eqb (standing t (follow s u a)) (follow s u a))

-- a is the least position of a cycle of two or more, and on it each value stands at its own position
intact_at : List ℕ → State → ℕ → Bool
intact_at s t a = begins s a && not (some (strays s t a) (range 0 (suc (length s))))

-- how many such cycles there are
intact : List ℕ → State → ℕ
intact s t = tally (intact_at s t) (positions (length s))

-- a move lowers the two counts together by at most one
abbrev Falls : List ℕ → State → Pair → Type 0
Falls s t m = wrong s t + intact s t ≤ suc (wrong s (moved t m) + intact s (moved t m))

-- what the two tests say
pub wrong_holds : (s : List ℕ) (t : State) (i : ℕ) → (at s i ≡ standing t i → ⊥) → wrong_at s t i ≡ true
unfolding wrong_at
wrong_holds s t i d = rw (ne_eqb (at s i) (standing t i) d)

wrong_true : (s : List ℕ) (t : State) (i : ℕ) → wrong_at s t i ≡ true → at s i ≡ standing t i → ⊥
unfolding wrong_at
wrong_true s t i e = eqb-false (at s i) (standing t i) (not-true (eqb (at s i) (standing t i)) e)

-- on the cycle of a each value stands at its own position
abbrev Own : List ℕ → State → ℕ → Type 0
Own s t a = (u : ℕ) → standing t (follow s u a) ≡ follow s u a

intact_holds : (s : List ℕ) (t : State) (a : ℕ) → begins s a ≡ true → Own s t a → intact_at s t a ≡ true
unfolding intact_at
intact_holds s t a b own =
    rw (b, range-tally_none (strays s t a) 0 (suc (length s)) (λ u _ _. ap not (eq-eqb (standing t (follow s u a)) (follow s u a) (own u))))

intact_begins : (s : List ℕ) (t : State) (a : ℕ) → intact_at s t a ≡ true → begins s a ≡ true
unfolding intact_at
intact_begins s t a e = (and-true (begins s a) (not (some (strays s t a) (range 0 (suc (length s))))) e).0

intact_near : (s : List ℕ) (t : State) (a : ℕ) → intact_at s t a ≡ true → (u : ℕ) → u ≤ length s → standing t (follow s u a) ≡ follow s u a
unfolding intact_at
intact_near s t a e u l =
    let steps = range 0 (suc (length s)) in
    let b = (and-true (begins s a) (not (some (strays s t a) steps)) e).1 in
    let none : tally (strays s t a) steps ≤ 0 = ltb-false 0 (tally (strays s t a) steps) (not-true (some (strays s t a) steps) b) in
    let f = range_none_passes (strays s t a) 0 (suc (length s)) (omega arith) u (omega arith) (omega arith) in
    eqb-true (standing t (follow s u a)) (follow s u a) (not-false (eqb (standing t (follow s u a)) (follow s u a)) f)

module _ {s : List ℕ} (p : IsPermutation (length s) s) where
  -- a cycle closes within n steps, so it is met whole
  intact-own : (t : State) (a : ℕ) → 1 ≤ a → a ≤ length s → intact_at s t a ≡ true → Own s t a
  intact-own t a h k e u = let (v, l, q) = met-within p a h k u in rw q (intact_near s t a e v l)

  -- at the start each value that is away is wrong, and each cycle intact
  pub start-wrong : wrong s (home (length s)) ≡ away s
  unfolding wrong wrong_at away
  start-wrong =
      tally-range_cong
      (wrong_at s (home (length s)))
      (λ i. not (eqb (at s i) i))
      1
      (length s)
      (λ i h k. let l : i ≤ length s = omega arith in ap (λ v. not (eqb (at s i) v)) (standing-home (length s) i h l))

  start-intact : long_cycles s ≤ intact s (home (length s))
  unfolding intact long_cycles
  start-intact =
      tally-le
      (begins s)
      (intact_at s (home (length s)))
      1
      (length s)
      (λ a h k b. intact_holds s (home (length s)) a b (λ u. let r = follow-range p u a h (omega arith) in standing-home (length s) (follow s u a) r.0 r.1))

  -- at the end neither
  pub end-wrong : wrong s (placed s) ≡ 0
  unfolding wrong
  end-wrong =
      range-tally_none (wrong_at s (placed s)) 1 (length s) (λ i h k. refuted (wrong_at s (placed s) i) (λ e. wrong_true s (placed s) i e (sym (standing-placed s i h))))

  end-intact : intact s (placed s) ≡ 0
  unfolding intact follow
  end-intact =
      let own : (a : ℕ) → 1 ≤ a → intact_at s (placed s) a ≡ true → at s a ≡ a = λ a h e. sym (standing-placed s a h) ∙ intact_near s (placed s) a e 0 (omega arith) in
      range-tally_none
      (intact_at s (placed s))
      1
      (length s)
      (λ a h _. refuted (intact_at s (placed s) a) (λ e. begins-away s a (intact_begins s (placed s) a e) (own a h e)))

  -- where each value on the cycle of a stands at its own position, so does the value of each position that leads to a
  own_back : (t : State) (i k : ℕ) → 1 ≤ i → i ≤ length s → Own s t (follow s k i) → standing t i ≡ i
  unfolding follow
  own_back t i k h l own = let (v, e) = met-from p i h l k 0 in ap (standing t) e ∙ own v ∙ sym e

  -- a possible move
  module _ {t : State} {m : Pair} (h : IsPossible t m) where
    -- only the position that it fills can become right
    stays-wrong : (i : ℕ) → 1 ≤ i → i < 1 + length s → (i ≡ m.1 → ⊥) → wrong_at s t i ≡ true → wrong_at s (moved t m) i ≡ true
    stays-wrong i l k d w = wrong_holds s (moved t m) i (by_place (ℕ_discrete i m.0))
      where
        by_place : Dec (i ≡ m.0) → at s i ≡ standing (moved t m) i → ⊥
        by_place (yes e) q = omega (arith, in_range p i l (omega arith), moved-from t m, ap (standing (moved t m)) e)
        by_place (no c) q = wrong_true s t i w (q ∙ moved_other t m i c d)

    wrong-falls : wrong s t ≤ suc (wrong s (moved t m))
    unfolding wrong
    wrong-falls = tally-le-one (wrong_at s t) (wrong_at s (moved t m)) m.1 1 (length s) stays-wrong

    -- only the cycle of the position that it empties can break
    stays-intact : (a : ℕ) → 1 ≤ a → a ≤ length s → ((u : ℕ) → follow s u a ≡ m.0 → ⊥) → intact_at s t a ≡ true → intact_at s (moved t m) a ≡ true
    stays-intact a l k d e =
        let own = intact-own t a l k e in
        let full : (u : ℕ) → follow s u a ≡ m.1 → ⊥ = λ u q. omega (arith, follow-range p u a l k, own u, h.empty, ap (standing t) q) in
        intact_holds s (moved t m) a (intact_begins s t a e) (λ u. moved_other t m (follow s u a) (d u) (full u) ∙ own u)

    -- the position that it empties is on a cycle, whose least position is met after k steps
    module _ (l : 1 ≤ m.0) (b : m.0 ≤ length s) (k : ℕ) (low : T (least s (follow s k m.0))) where
      -- so only the cycle that is counted there can break
      one-first : (a u : ℕ) → 1 ≤ a → a ≤ length s → T (least s a) → follow s u a ≡ m.0 → a ≡ follow s k m.0
      unfolding follow
      one-first a u f g first q =
          let there : follow s (k + u) a ≡ follow s k m.0 = follow_add s k u a ∙ ap (follow s k) q in
          one_least p a 0 (k + u) f g first (rw there low) ∙ there

      other-cycle : (a : ℕ) → 1 ≤ a → a < 1 + length s → (a ≡ follow s k m.0 → ⊥) → intact_at s t a ≡ true → intact_at s (moved t m) a ≡ true
      other-cycle a f g d e =
          let i : a ≤ length s = omega arith in
          stays-intact a f i (λ u q. d (one-first a u f i (begins_least s a (intact_begins s t a e)) q)) e

      -- if that cycle is intact, the value moved is its position's own, and the position that wants it is not empty: none becomes right
      not_right : Own s t (follow s k m.0) → (i : ℕ) → 1 ≤ i → i ≤ length s → i ≡ m.1 → at s i ≡ standing (moved t m) i → ⊥
      unfolding follow
      not_right own i f g e q =
          let to : at s i ≡ m.0 = q ∙ ap (standing (moved t m)) e ∙ moved_to h ∙ own_back t m.0 k l b own in
          let there : follow s (k + 1) i ≡ follow s k m.0 = follow_add s k 1 i ∙ ap (follow s k) to in
          omega (arith, own_back t i (k + 1) f g (rw there own), h.empty, ap (standing t) e)

      none_right : Own s t (follow s k m.0) → (i : ℕ) → 1 ≤ i → i < 1 + length s → wrong_at s t i ≡ true → wrong_at s (moved t m) i ≡ true
      none_right own i f g w = by_place (ℕ_discrete i m.1)
        where
          by_place : Dec (i ≡ m.1) → wrong_at s (moved t m) i ≡ true
          by_place (yes e) = wrong_holds s (moved t m) i (not_right own i f (omega arith) e)
          by_place (no d) = stays-wrong i f g d w

      -- then only the count of cycles can fall
      intact-falls : intact_at s t (follow s k m.0) ≡ true → Falls s t m
      unfolding wrong intact
      intact-falls e =
          let a = follow s k m.0 in
          let r = follow-range p k m.0 l b in
          omega (
            arith,
            tally-le (wrong_at s t) (wrong_at s (moved t m)) 1 (length s) (none_right (intact-own t a r.0 r.1 e)),
            tally-le-one (intact_at s t) (intact_at s (moved t m)) a 1 (length s) other-cycle,
          )

      -- and if it is not intact, only the count of wrong positions
      broken-falls : intact_at s t (follow s k m.0) ≡ false → Falls s t m
      unfolding intact
      broken-falls e =
          let other : (a : ℕ) → intact_at s t a ≡ true → a ≡ follow s k m.0 → ⊥ = λ a c q. true≢false (sym c ∙ ap (intact_at s t) q ∙ e) in
          omega (arith, wrong-falls, tally-le (intact_at s t) (intact_at s (moved t m)) 1 (length s) (λ a f g c. other-cycle a f g (other a c) c))

    -- or it is on none, and no cycle breaks
    outside : within 1 (length s) m.0 ≡ false → (a : ℕ) → 1 ≤ a → a ≤ length s → (u : ℕ) → follow s u a ≡ m.0 → ⊥
    outside e a f g u q =
        let r = follow-range p u a f g in
        true≢false (sym (within_holds 1 (length s) (follow s u a) r.0 r.1) ∙ ap (within 1 (length s)) q ∙ e)

    outside-falls : within 1 (length s) m.0 ≡ false → Falls s t m
    unfolding intact
    outside-falls e =
        omega (
          arith,
          wrong-falls,
          tally-le (intact_at s t) (intact_at s (moved t m)) 1 (length s) (λ a f g. let i : a ≤ length s = omega arith in stays-intact a f i (outside e a f i)),
        )

    on-falls : (1 ≤ m.0) × (m.0 ≤ length s) → Falls s t m
    on-falls (l, b) =
        let (k, _, low) = has_least p m.0 l b in
        cases (intact_at s t (follow s k m.0)) (intact-falls l b k low) (broken-falls l b k low)

    -- in each case
    falls : Falls s t m
    falls = cases (within 1 (length s) m.0) (λ e. on-falls (within-true 1 (length s) m.0 e)) outside-falls

  -- so over a list of moves they fall by at most its length
  all-fall : (ms : List Pair) (t : State) → Valid t ms → wrong s t + intact s t ≤ length ms + (wrong s (after t ms) + intact s (after t ms))
  unfolding Each after
  all-fall [] t v = omega arith
  all-fall (m ∷ ms) t (h, v) = omega (arith, falls h, all-fall ms (moved t m) v)

  -- a valid list of moves from the identity to s has at least as many moves as s has values away from their own position and cycles of two or more together
  pub fewest : (ms : List Pair) → LeadsTo s ms → away s + long_cycles s ≤ length ms
  fewest ms l =
      omega (
        arith,
        start-wrong,
        start-intact,
        all-fall ms (home (length s)) (each_of IsPossible (home (length s)) ms l.valid),
        ap (wrong s) l.end,
        ap (intact s) l.end,
        end-wrong,
        end-intact,
      )
