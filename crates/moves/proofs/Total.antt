-- How many moves are written: as many as there are values away from their own position and cycles of two or more together. Each move but the first of a cycle sets one
-- position right. Assumes nothing.
use mathlib.Core.Path.{◌≡◌, refl, sym, ap, ◌∙◌}
use mathlib.Core.Logic.{◌≢◌}
use mathlib.Core.Bool.{true, false, not}
use Prim.Native.Nat.{ℕ, zero, suc, ◌+◌, ◌≤◌, ◌<◌}
use native.Mathlib.Numerals.{add-one}
use native.Mathlib.Omega.{arith}
use mathlib.Core.List.{List}
use lib.ListN.{length, length-append}
use lib.Seq.{get_or-set_other}
use borrow.Table.Steps.{cases}
use borrow.Author.Tests.{eq-eqb}
use Rattle.perm.specs.Lists.{one, tally, positions, range}
use Rattle.perm.specs.Permutation.{at, IsPermutation}
use Rattle.perm.specs.Cycle.{follow}
use Rattle.perm.specs.Pairs.{Pair}
use Rattle.perm.proofs.Tally.{tally-positions, length-range}
use Rattle.perm.proofs.Cycles.{follow-range, closes, partial, repeat-closes}
use Rattle.moves.specs.State.{State, standing, home, after}
use Rattle.moves.specs.Written.{around, begins, moves_to, moves_of, away, long_cycles, HasValues}
use Rattle.moves.specs.Round.{AtHome}
use Rattle.moves.proofs.Moving.{standing-home, after-append}
use Rattle.moves.proofs.Long.{begins_least, begins-away, moves_begun, moves_none}
use Rattle.moves.proofs.OneCycle.{Returns, returns, settle, settle-met, settle-own, after-around, length-around}
use Rattle.moves.proofs.Gone.{gone, at_home, written-leads}
use Rattle.perm.proofs.Counting.{tally_differs}
use Rattle.moves.proofs.Fewest.{wrong_at, wrong, wrong_holds, start-wrong, end-wrong}

module _ {s : List ℕ} (p : IsPermutation (length s) s) where
  -- round the cycle of a, of two or more, which is at home
  module _ (a : ℕ) (h : 1 ≤ a) (k : a ≤ length s) (d : at s a ≢ a) {c : ℕ} (r : Returns s a c) {t : State} (w : AtHome s a t) where
    -- none of its positions has its own value in s
    moves-on : (j : ℕ) → j < c → at s (follow s j a) ≢ follow s j a
    unfolding follow
    moves-on j l e =
        let next : follow s j a ≡ follow s (j + 1) a = rw (add-one j) (sym e) in
        d (sym (repeat-closes (partial p) a k (λ u _. (follow-range p u a h k).0) j 1 (omega (arith, r.bound)) next))

    -- a settled position is right, and was not before; the others are as they were
    right : (j : ℕ) → j < c → wrong_at s (settle s a t (suc j)) (follow s j a) ≡ false
    unfolding wrong_at
    right j l = rw (settle-met p a h k t w.size (suc j) j (omega arith)) (ap not (eq-eqb (at s (follow s j a)) (at s (follow s j a)) refl))

    not_right : (j : ℕ) → j < c → wrong_at s (settle s a t j) (follow s j a) ≡ true
    not_right j l = wrong_holds s (settle s a t j) (follow s j a) (λ e. moves-on j l (e ∙ settle-own p a h k r w j j (omega arith) l))

    same-right : (j i : ℕ) → i ≢ follow s j a → wrong_at s (settle s a t j) i ≡ wrong_at s (settle s a t (suc j)) i
    unfolding wrong_at settle
    same-right j i e = rw (get_or-set_other (settle s a t j) (follow s j a) i (at s (follow s j a)) 0 e)

    one_right : (j : ℕ) → j < c → wrong s (settle s a t j) ≡ suc (wrong s (settle s a t (suc j)))
    unfolding wrong
    one_right j l =
        let (b, m) = follow-range p j a h k in
        omega (
          arith,
          tally_differs (wrong_at s (settle s a t j)) (wrong_at s (settle s a t (suc j))) (follow s j a) 1 (length s) b (omega arith) (λ i _ _. same-right j i),
          ap one (right j l),
          ap one (not_right j l),
        )

    all_right : (j : ℕ) → j ≤ c → wrong s t ≡ j + wrong s (settle s a t j)
    unfolding settle
    all_right zero l = omega arith
    all_right (suc j) l = omega (arith, all_right j (omega arith), one_right j l)

    -- so the moves round the cycle are one more than they set right
    around-right : length (around s a) + wrong s (after t (around s a)) ≡ suc (wrong s t)
    around-right = omega (arith, all_right c (omega arith), ap (wrong s) (after-around p a h k r w), length-around p a h k r w)

  -- moves so far, and positions that are wrong still: together as many as were wrong at first and cycles begun
  abbrev Counts : ℕ → List Pair → Type 0
  Counts m ms = length ms + wrong s (after (home (length s)) ms) ≡ wrong s (home (length s)) + tally (begins s) (positions m)

  module _ {m : ℕ} (k : suc m ≤ length s) (so_far : Counts m (moves_to s m)) where
    counts-begun : begins s (suc m) ≡ true → Counts (suc m) (moves_to s (suc m))
    counts-begun b =
        let (c, r) = returns p (suc m) (omega arith) k in
        let w = at_home p k (gone p m (omega arith)).0 (begins_least s (suc m) b) in
        rw (moves_begun s m b, length-append (moves_to s m) (around s (suc m)), after-append (home (length s)) (moves_to s m) (around s (suc m)))
        (omega (arith, around-right (suc m) (omega arith) k (begins-away s (suc m) b) r w, tally-positions (begins s) m, ap one b))

    counts-none : begins s (suc m) ≡ false → Counts (suc m) (moves_to s (suc m))
    counts-none b = rw (moves_none s m b) (omega (arith, tally-positions (begins s) m, ap one b))

  -- cycle after cycle
  counts : (m : ℕ) → m ≤ length s → Counts m (moves_to s m)
  unfolding moves_to after tally range
  counts zero k = omega arith
  counts (suc m) k = let so_far = counts m (omega arith) in cases (begins s (suc m)) (counts-begun k so_far) (counts-none k so_far)

  -- in all: the values away from their own position, and the cycles of two or more
  pub total : length (moves_of s) ≡ away s + long_cycles s
  unfolding long_cycles
  total = omega (arith, counts (length s) (omega arith), start-wrong p, ap (wrong s) (written-leads p).end, end-wrong p)

-- and round each cycle one move more than it has values
pub one_more : {s : List ℕ} → IsPermutation (length s) s → (a c : ℕ) → 1 ≤ a → a ≤ length s → HasValues s a c → length (around s a) ≡ suc c
one_more {s} p a c h k v =
    let (t, l, m, e) = closes p a h k in
    let long : t < c → ⊥ = λ b. v.first t l b e in
    let r : Returns s a c = record { values = v; bound = omega arith } in
    let own : (u : ℕ) → standing (home (length s)) (follow s u a) ≡ follow s u a = λ u.
    let b = follow-range p u a h k in
    standing-home (length s) (follow s u a) b.0 b.1 in
    let w : AtHome s a (home (length s)) = record { size = ap suc (length-range 1 (length s)); empty = refl; own = own } in
    length-around p a h k r w
