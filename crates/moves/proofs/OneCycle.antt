-- The moves round one cycle, whose values all stand at their own positions: each is possible, and then the cycle's values stand where the permutation has them. From
-- the first return of a position to itself. Assumes nothing.
use mathlib.Core.Path.{◌≡◌, refl, sym, ap, ◌∙◌}
use mathlib.Core.Logic.{◌≢◌, ◌⊎◌, inl, inr}
use mathlib.Core.Bool.{true}
use Prim.Native.Nat.{ℕ, zero, suc, ◌+◌, ◌-◌, ◌≤◌, ◌<◌}
use native.Mathlib.Omega.{arith}
use native.Mathlib.Decide.{ℕ_discrete}
use mathlib.Core.List.{List, [], ◌∷◌}
use lib.ListN.{length, set, length-set}
use lib.Seq.{get_or-set_same, get_or-set_other, set-set, set_comm, set-get_or}
use borrow.Author.Tests.{eq-eqb, ne_eqb}
use Rattle.perm.specs.Permutation.{at, IsPermutation}
use Rattle.perm.specs.Cycle.{follow}
use Rattle.perm.specs.Pairs.{Pair}
use Rattle.perm.proofs.Cycles.{follow-range, closes, partial, repeat-closes}
use Rattle.moves.specs.State.{State, standing, moved, after, IsPossible}
use Rattle.moves.specs.Written.{filling, around, begins, HasValues, IsDrawn, begun, wanted}
use Rattle.moves.specs.Round.{AtHome}
use Rattle.moves.proofs.Moving.{Each}

-- a move that is possible, and comes about as the document says
abbrev pub Drawn : List ℕ → State → Pair → Type 0
Drawn s t m = IsPossible t m × IsDrawn s t m

-- the cycle of a has c values, at most n
pub record Returns (s : List ℕ) (a c : ℕ) : Type 0 where
  pub values : HasValues s a c
  pub bound : c ≤ length s

-- among the first k steps one leads back first, or none does
abbrev Seek : List ℕ → ℕ → ℕ → Type 0
Seek s a k = ((c : ℕ) × (c ≤ k) × HasValues s a c) ⊎ ((u : ℕ) → 1 ≤ u → u ≤ k → follow s u a ≢ a)

seek_step : (s : List ℕ) (a k : ℕ) → Seek s a k → Dec (follow s (suc k) a ≡ a) → Seek s a (suc k)
seek_step s a k (inl (c, b, v)) d = inl (c, omega arith, v)
seek_step s a k (inr none) (yes e) = inl (suc k, omega arith, record { some_steps = omega arith; back = e; first = λ u h l. none u h (omega arith) })
seek_step s a k (inr none) (no d) = inr (λ u h l. by_last u h l (ℕ_discrete u (suc k)))
  where
    by_last : (u : ℕ) → 1 ≤ u → u ≤ suc k → Dec (u ≡ suc k) → follow s u a ≢ a
    by_last u h l (yes e) = rw e d
    by_last u h l (no f) = none u h (omega arith)

seek : (s : List ℕ) (a k : ℕ) → Seek s a k
seek s a zero = inr (λ u h l. absurd (omega arith))
seek s a (suc k) = seek_step s a k (seek s a k) (ℕ_discrete (follow s (suc k) a) a)

-- so it is with each position
pub returns : {s : List ℕ} → IsPermutation (length s) s → (a : ℕ) → 1 ≤ a → a ≤ length s → (c : ℕ) × Returns s a c
returns {s} p a h k = let (t, l, b, e) = closes p a h k in found t l b e (seek s a t)
  where
    found : (t : ℕ) → 1 ≤ t → t ≤ length s → follow s t a ≡ a → Seek s a t → (c : ℕ) × Returns s a c
    found t l b e (inl (c, m, v)) = (c, record { values = v; bound = omega arith })
    found t l b e (inr none) = absurd (none t l (omega arith) e)

-- t with the values of s at the first j positions met from a
unfoldable pub settle : List ℕ → ℕ → State → ℕ → State
settle s a t zero = t
settle s a t (suc j) = set (settle s a t j) (follow s j a) (at s (follow s j a))

-- the same while position 0 has the value a and the next position is empty
abbrev hole : List ℕ → ℕ → State → ℕ → State
hole s a t j = set (set (settle s a t j) 0 a) (follow s j a) 0

pub length_settle : (s : List ℕ) (a : ℕ) (t : State) (j : ℕ) → length (settle s a t j) ≡ length t
unfolding settle
length_settle s a t zero = refl
length_settle s a t (suc j) = rw (length-set, length_settle s a t j)

-- the positions that are not met keep what they have
pub settle_other : (s : List ℕ) (a : ℕ) (t : State) (j z : ℕ) → ((u : ℕ) → u < j → follow s u a ≢ z) → standing (settle s a t j) z ≡ standing t z
unfolding settle
settle_other s a t zero z other = refl
settle_other s a t (suc j) z other =
    get_or-set_other (settle s a t j) (follow s j a) z (at s (follow s j a)) 0 (λ e. other j (omega arith) (sym e)) ∙ settle_other s a t j z (λ u l. other u (omega arith))

module _ {s : List ℕ} (p : IsPermutation (length s) s) (a : ℕ) (h : 1 ≤ a) (k : a ≤ length s) where
  range : (u : ℕ) → (1 ≤ follow s u a) × (follow s u a ≤ length s)
  range u = follow-range p u a h k

  -- one of the first j positions has the value of s
  pub settle-met : (t : State) → length t ≡ suc (length s) → (j u : ℕ) → u < j → standing (settle s a t j) (follow s u a) ≡ at s (follow s u a)
  unfolding settle
  settle-met t size zero u l = absurd (omega arith)
  settle-met t size (suc j) u l = by-position (settle-met t size j u) (ℕ_discrete (follow s u a) (follow s j a))
    where
      inside : follow s j a < length (settle s a t j)
      inside = omega (arith, length_settle s a t j, range j)

      by-position : (u < j → standing (settle s a t j) (follow s u a) ≡ at s (follow s u a)) → Dec (follow s u a ≡ follow s j a)
          → standing (set (settle s a t j) (follow s j a) (at s (follow s j a))) (follow s u a) ≡ at s (follow s u a)
      by-position met (yes e) = rw e (get_or-set_same (settle s a t j) (follow s j a) (at s (follow s j a)) 0 inside)
      by-position met (no d) =
          let other : u ≡ j → ⊥ = λ e. d (ap (λ (x : ℕ). follow s x a) e) in
          let less : u < j = omega arith in
          get_or-set_other (settle s a t j) (follow s j a) (follow s u a) (at s (follow s j a)) 0 d ∙ met less

  module _ {c : ℕ} (r : Returns s a c) where
    -- the positions met before the return are different
    pub apart : (u v : ℕ) → u < v → v < c → follow s u a ≢ follow s v a
    apart u v l m e =
        let d : u + (v - u) ≡ v = omega arith in
        r.values.first (v - u) (omega arith) (omega arith)
        (sym (repeat-closes (partial p) a k (λ t _. (range t).0) u (v - u) (omega (arith, r.bound)) (rw d e)))

    module _ {t : State} (w : AtHome s a t) where
      -- the next positions have their own values still
      pub settle-own : (j v : ℕ) → j ≤ v → v < c → standing (settle s a t j) (follow s v a) ≡ follow s v a
      settle-own j v l m = settle_other s a t j (follow s v a) (λ u b. apart u v (omega arith) m) ∙ w.own v

      settle-zero : (j : ℕ) → standing (settle s a t j) 0 ≡ 0
      settle-zero j = settle_other s a t j 0 (λ u b e. omega (arith, range u)) ∙ w.empty

      size : (j : ℕ) → length (settle s a t j) ≡ suc (length s)
      size j = length_settle s a t j ∙ w.size

      -- what stands in a hole: nothing at the position that is met next, its own value at the one after, the value a at 0
      hole-here : (j : ℕ) → standing (hole s a t j) (follow s j a) ≡ 0
      hole-here j = get_or-set_same (set (settle s a t j) 0 a) (follow s j a) 0 0 (omega (arith, length-set (settle s a t j) 0 a, size j, range j))

      hole-next : (j : ℕ) → suc j < c → standing (hole s a t j) (follow s (suc j) a) ≡ follow s (suc j) a
      hole-next j l =
          get_or-set_other (set (settle s a t j) 0 a) (follow s j a) (follow s (suc j) a) 0 0 (λ e. apart j (suc j) (omega arith) l (sym e))
          ∙ get_or-set_other (settle s a t j) 0 (follow s (suc j) a) a 0 (λ e. omega (arith, range (suc j)))
          ∙ settle-own j (suc j) (omega arith) l

      hole-zero : (j : ℕ) → standing (hole s a t j) 0 ≡ a
      hole-zero j =
          get_or-set_other (set (settle s a t j) 0 a) (follow s j a) 0 0 0 (λ e. omega (arith, range j))
          ∙ get_or-set_same (settle s a t j) 0 a 0 (omega (arith, size j))

      -- the first move makes the hole
      first-move : moved t (a, 0) ≡ hole s a t 0
      unfolding settle follow
      first-move = let e : standing t a ≡ a = w.own 0 in rw e

      -- the next position takes its value, and the hole goes on
      next-move : (j : ℕ) → suc j < c → moved (hole s a t j) (follow s (suc j) a, follow s j a) ≡ hole s a t (suc j)
      unfolding settle follow
      next-move j l =
          let x = follow s j a in
          let y = follow s (suc j) a in
          let e : standing (hole s a t j) y ≡ y = hole-next j l in
          let d : 0 ≢ x = λ z. omega (arith, range j) in
          rw (e, set-set (set (settle s a t j) 0 a) x 0 y, set_comm (settle s a t j) 0 x a y d)

      -- the last position takes the value at 0
      last-move : (j : ℕ) → at s (follow s j a) ≡ a → moved (hole s a t j) (0, follow s j a) ≡ settle s a t (suc j)
      unfolding settle
      last-move j f =
          let x = follow s j a in
          let done = set (settle s a t j) x a in
          let d : 0 ≢ x = λ z. omega (arith, range j) in
          let empty : standing done 0 ≡ 0 = get_or-set_other (settle s a t j) x 0 a 0 d ∙ settle-zero j in
          let none : set done 0 0 ≡ done = ap (set done 0) (sym empty) ∙ set-get_or done 0 0 in
          rw (hole-zero j, set-set (set (settle s a t j) 0 a) x 0 a, set_comm (settle s a t j) 0 x a a d, set-set done 0 a 0, f) none

      -- and each of these moves is possible, and drawn as the document says
      inside-hole : (j : ℕ) → follow s j a < length (hole s a t j)
      inside-hole j = omega (arith, length-set (set (settle s a t j) 0 a) (follow s j a) 0, length-set (settle s a t j) 0 a, size j, range j)

      first-possible : IsPossible t (a, 0)
      unfolding follow
      first-possible = let e : standing t a ≡ a = w.own 0 in record { inside = omega (arith, w.size); occupied = omega arith; empty = w.empty }

      next_drawn : (j : ℕ) → suc j < c → Drawn s (hole s a t j) (follow s (suc j) a, follow s j a)
      unfolding follow
      next_drawn j l =
          (record { inside = inside-hole j; occupied = omega (arith, hole-next j l, range (suc j)); empty = hole-here j }, wanted (range j).0 (hole-next j l))

      last-drawn : (j : ℕ) → at s (follow s j a) ≡ a → Drawn s (hole s a t j) (0, follow s j a)
      last-drawn j e =
          (record { inside = inside-hole j; occupied = omega (arith, hole-zero j); empty = hole-here j }, wanted (range j).0 (hole-zero j ∙ sym e))

      -- what is said of the moves that fill the hole after j positions: all are possible, they settle what is left of the cycle, and they are as many as its positions
      Fills : ℕ → List Pair → Type 0
      Fills j ms = Each (Drawn s) (hole s a t j) ms × (after (hole s a t j) ms ≡ settle s a t c) × (length ms + j ≡ c)

      fill-last : (j : ℕ) → suc j ≡ c → Fills j ((0, follow s j a) ∷ [])
      unfolding Fills Each after follow
      fill-last j e =
          let f : at s (follow s j a) ≡ a = ap (λ (x : ℕ). follow s x a) e ∙ r.values.back in
          ((last-drawn j f, tt), last-move j f ∙ ap (settle s a t) e, omega arith)

      fill-next : (j : ℕ) (ms : List Pair) → suc j < c → Fills (suc j) ms → Fills j ((follow s (suc j) a, follow s j a) ∷ ms)
      unfolding Fills Each after
      fill-next j ms l (v, e, n) = ((next_drawn j l, rw (next-move j l) v), rw (next-move j l) e, omega arith)

      fill : (most j : ℕ) → j < c → c ≤ most + j → Fills j (filling s a most (follow s j a))
      unfolding filling follow
      fill zero j l m = absurd (omega arith)
      fill (suc most) j l m = by_value (λ l. fill most (suc j) l (omega arith)) (ℕ_discrete (at s (follow s j a)) a)
        where
          by_value : (suc j < c → Fills (suc j) (filling s a most (follow s (suc j) a))) → Dec (at s (follow s j a) ≡ a) → Fills j (filling s a (suc most) (follow s j a))
          by_value more (yes e) =
              let returned : suc j < c → ⊥ = λ b. r.values.first (suc j) (omega arith) b e in
              rw (eq-eqb (at s (follow s j a)) a e) (fill-last j (omega arith))
          by_value more (no d) =
              let further : suc j ≡ c → ⊥ = λ e. d (ap (λ (x : ℕ). follow s x a) e ∙ r.values.back) in
              let b : suc j < c = omega arith in
              rw (ne_eqb (at s (follow s j a)) a d) (fill-next j (filling s a most (follow s (suc j) a)) b (more b))

      -- the moves round the cycle
      pub around-drawn : begins s a ≡ true → Each (Drawn s) t (around s a)
      unfolding Each Fills follow
      around-drawn b = ((first-possible, begun b refl), rw first-move (fill (length s) 0 r.values.some_steps (omega (arith, r.bound))).0)

      pub after-around : after t (around s a) ≡ settle s a t c
      unfolding after Fills follow
      after-around =
          ap (λ (q : State). after q (filling s a (length s) a)) first-move ∙ (fill (length s) 0 r.values.some_steps (omega (arith, r.bound))).1

      pub length-around : length (around s a) ≡ suc c
      unfolding Fills follow
      length-around = omega (arith, (fill (length s) 0 r.values.some_steps (omega (arith, r.bound))).2)
