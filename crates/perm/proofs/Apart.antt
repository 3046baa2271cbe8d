-- Two different permutations of n with equally many cycles differ on at least three positions. Assumes nothing.
use mathlib.Core.Path.{◌≡◌, refl, ◌∙◌, sym, ap}
use mathlib.Core.Logic.{◌≢◌, ◌⊎◌, inl, inr}
use Prim.Native.Nat.{ℕ, suc, ◌+◌, ◌-◌, ◌≤◌, ◌<◌}
use native.Mathlib.Omega.{arith}
use native.Mathlib.Decide.{ℕ_discrete}
use mathlib.Core.Bool.{Bool, true, false, not, cond}
use mathlib.Core.List.{List, [], ◌∷◌}
use lib.Dec.{eqb}
use borrow.Author.Tests.{eq-eqb, ne_eqb}
use lib.ListN.{length, get_or}
use Rattle.perm.specs.Lists.{one, tally, range, positions}
use Rattle.perm.specs.Permutation.{IsPermutation, at, exchange, distance}
use Rattle.perm.specs.Cycle.{cycles}
use Rattle.perm.proofs.Counting.{tally_differs}
use Rattle.perm.proofs.Values.{in_range, injective, onto}
use Rattle.perm.proofs.Exchange.{length-exchange, at-exchange_left, at-exchange-right, at-exchange-other}
use Rattle.perm.proofs.Parity.{exchange-parity}

-- the test p, but for i
abbrev but : ℕ → (ℕ → Bool) → ℕ → Bool
but i p x = cond (eqb x i) false (p x)

-- which is p at any other number
but_other : (p : ℕ → Bool) (i x : ℕ) → x ≢ i → but i p x ≡ p x
but_other p i x d = rw (ne_eqb x i d)

-- a number of a range that passes counts one
tally-but : (p : ℕ → Bool) (a n i : ℕ) → a ≤ i → i < a + n → p i ≡ true → tally p (range a n) ≡ suc (tally (but i p) (range a n))
tally-but p a n i h k e =
    let none : but i p i ≡ false = rw (eq-eqb i i refl) in
    omega (arith, tally_differs p (but i p) i a n h k (λ x _ _ d. sym (but_other p i x d)), ap one e, ap one none)

-- a number of 1 to n that passes the test p
abbrev Passes : (ℕ → Bool) → ℕ → ℕ → Type 0
Passes p n i = (1 ≤ i) × (i ≤ n) × (p i ≡ true)

-- three different numbers that pass
three_pass : (p : ℕ → Bool) (n i j l : ℕ) → Passes p n i → Passes p n j → Passes p n l → i ≢ j → i ≢ l → j ≢ l → 3 ≤ tally p (positions n)
three_pass p n i j l x y z dij dil djl =
    let pj = but_other p i j (λ e. dij (sym e)) ∙ y.2 in
    let pl = but_other (but i p) j l (λ e. djl (sym e)) ∙ but_other p i l (λ e. dil (sym e)) ∙ z.2 in
    let without-i = tally-but p 1 n i x.0 (omega arith) x.2 in
    let without-j = tally-but (but i p) 1 n j y.0 (omega arith) pj in
    let without-l = tally-but (but j (but i p)) 1 n l z.0 (omega arith) pl in
    omega arith

-- two lists of one length are equal, or differ at some index
difference : (s t : List ℕ) → length s ≡ length t → (s ≡ t) ⊎ ((i : ℕ) × (i < length s) × (get_or s i 0 ≢ get_or t i 0))
difference [] [] e = inl refl
difference [] (y ∷ t) e = absurd (omega arith)
difference (x ∷ s) [] e = absurd (omega arith)
difference (x ∷ s) (y ∷ t) e = by_first (ℕ_discrete x y) (difference s t (omega arith))
  where
    by_first : Dec (x ≡ y) → (s ≡ t) ⊎ ((i : ℕ) × (i < length s) × (get_or s i 0 ≢ get_or t i 0))
        → (x ∷ s ≡ y ∷ t) ⊎ ((i : ℕ) × (i < suc (length s)) × (get_or (x ∷ s) i 0 ≢ get_or (y ∷ t) i 0))
    by_first (no d) r = inr (0, omega arith, d)
    by_first (yes q) (inl r) = inl (rw (q, r))
    by_first (yes q) (inr r) = inr (suc r.0, omega arith, r.2)

-- a position of 1 to n where s and t differ
abbrev Differs : ℕ → List ℕ → List ℕ → ℕ → Type 0
Differs n s t i = (1 ≤ i) × (i ≤ n) × (at s i ≢ at t i)

-- two lists of n values are equal, or differ at some position
differing : {n : ℕ} (s t : List ℕ) → length s ≡ n → length t ≡ n → (s ≡ t) ⊎ ((i : ℕ) × Differs n s t i)
differing {n} s t e f = by_index (difference s t (e ∙ sym f))
  where
    by_index : (s ≡ t) ⊎ ((i : ℕ) × (i < length s) × (get_or s i 0 ≢ get_or t i 0)) → (s ≡ t) ⊎ ((i : ℕ) × Differs n s t i)
    by_index (inl q) = inl q
    by_index (inr r) =
        let y : suc r.0 - 1 ≡ r.0 = omega arith in
        inr (suc r.0, (omega arith, omega arith, rw y r.2))

-- a position where two lists agree is not one where they differ
elsewhere : (s t : List ℕ) (i j : ℕ) → at s i ≡ at t i → at s j ≢ at t j → i ≢ j
elsewhere s t i j e d r = d (rw r at e)

module _ {n : ℕ} {s t : List ℕ} (p : IsPermutation n s) (q : IsPermutation n t) where
  -- three different positions where s and t differ
  three : (i j l : ℕ) → Differs n s t i → Differs n s t j → Differs n s t l → i ≢ j → i ≢ l → j ≢ l → 3 ≤ distance s t
  unfolding distance
  three i j l x y z dij dil djl = rw p.size (three_pass unequal n i j l (passes i x) (passes j y) (passes l z) dij dil djl)
    where
      unequal : ℕ → Bool
      unequal i = not (eqb (at s i) (at t i))

      passes : (i : ℕ) → Differs n s t i → Passes unequal n i
      passes i x = (x.0, x.1, ap not (ne_eqb (at s i) (at t i) x.2))

  -- where s and t differ at i, they differ too where s has the value that t has at i
  next : (i : ℕ) → Differs n s t i → (j : ℕ) × Differs n s t j × (i ≢ j) × (at s j ≡ at t i)
  next i x =
      let v = in_range q i x.0 x.1 in
      let (j, h, k, e) = onto p (at t i) v.0 v.1 in
      let d : i ≢ j = λ r. x.2 (ap (at s) r ∙ e) in
      (j, (h, k, λ r. d (injective q i j x.0 x.1 h k (sym e ∙ r))), d, e)

  -- where s and t have each other's values at i and j, they differ at a third position: otherwise t would be s·⟨i,j⟩, whose number of cycles is another
  crossed : cycles s ≡ cycles t → (i j : ℕ) → Differs n s t i → Differs n s t j → i ≢ j → at s j ≡ at t i → at s i ≡ at t j → 3 ≤ distance s t
  crossed c i j x y d ej ei = by-third (differing (exchange i j s) t (length-exchange i j s ∙ p.size) q.size)
    where
      by-third : (exchange i j s ≡ t) ⊎ ((l : ℕ) × Differs n (exchange i j s) t l) → 3 ≤ distance s t
      by-third (inl e) = absurd (omega (arith, exchange-parity p i j x.0 x.1 y.0 y.1 d, ap cycles e))
      by-third (inr r) =
          let (l, z) = r in
          let u : i ≤ length s = rw p.size x.1 in
          let v : j ≤ length s = rw p.size y.1 in
          let dil = elsewhere (exchange i j s) t i l (at-exchange_left i j s x.0 u y.0 v ∙ ej) z.2 in
          let djl = elsewhere (exchange i j s) t j l (at-exchange-right i j s x.0 u y.0 v ∙ ei) z.2 in
          let el = at-exchange-other i j s x.0 u y.0 v l z.0 (λ e. dil (sym e)) (λ e. djl (sym e)) in
          three i j l x y (z.0, z.1, λ e. z.2 (el ∙ e)) d dil djl

-- two different permutations of n with equally many cycles differ on at least three positions
pub three_apart : {n : ℕ} {s t : List ℕ} → IsPermutation n s → IsPermutation n t → cycles s ≡ cycles t → (s ≡ t → ⊥) → 3 ≤ distance s t
three_apart {n} {s} {t} p q c d = by_first (differing s t p.size q.size)
  where
    by-third : (i j l : ℕ) → Differs n s t i → Differs n s t j → Differs n s t l → i ≢ j → j ≢ l
        → at s j ≡ at t i → at s l ≡ at t j → Dec (i ≡ l) → 3 ≤ distance s t
    by-third i j l x y z dij djl ei ej (yes e) = crossed p q c i j x y dij ei (ap (at s) e ∙ ej)
    by-third i j l x y z dij djl ei ej (no dil) = three p q i j l x y z dij dil djl

    by_first : (s ≡ t) ⊎ ((i : ℕ) × Differs n s t i) → 3 ≤ distance s t
    by_first (inl e) = absurd (d e)
    by_first (inr r) =
        let (i, x) = r in
        let (j, y, dij, ei) = next p q i x in
        let (l, z, djl, ej) = next p q j y in
        by-third i j l x y z dij djl ei ej (ℕ_discrete i l)
