-- `position` finds where a value of a permutation stands, and `array_of` computes its one transposition array. Assumes nothing.
use mathlib.Core.Path.{◌≡◌, refl, ◌∙◌, ap, sym}
use Prim.Native.Nat.{ℕ, zero, suc, ◌-◌, ◌≤◌, ◌<◌}
use native.Mathlib.Omega.{arith}
use mathlib.Core.List.{List, [], ◌∷◌, ◌++◌}
use lib.ListN.{length, get_or, take, length-set}
use lib.Seq.{set-set, set-get_or, take_at}
use borrow.Author.Tests.{eq-eqb, ne_eqb}
use Rattle.perm.specs.Lists.{range}
use Rattle.perm.specs.Permutation.{IsPermutation, at, put, exchange, extend, insert}
use Rattle.perm.specs.Array.{IsArray, IsArrayOf, partial, product, position, array_of}
use Rattle.perm.proofs.Values.{injective, at_suc}
use Rattle.perm.proofs.Split.{Split, extended, inserted, split, extend_permutation, insert_permutation, at-extend-top, at-insert-here}
use Rattle.perm.proofs.Exchange.{exchange_same, exchange_top}
use Rattle.perm.proofs.Arrays.{array_append, product-extend, product-insert, one_array}

-- the first index with a value, as a position
position_first : (v : ℕ) (s : List ℕ) (i : ℕ) → i < length s → v ≡ get_or s i 0 → ((j : ℕ) → j < i → v ≡ get_or s j 0 → ⊥) → position v s ≡ suc i
unfolding position
position_first v [] i h e d = absurd (omega arith)
position_first v (x ∷ s) zero h e d = rw (eq-eqb v x e)
position_first v (x ∷ s) (suc i) h e d =
    rw (ne_eqb v x (d 0 (omega arith)), position_first v s i (omega arith) e (λ j k. d (suc j) (omega arith)))

-- the value at a position of a permutation is found there
pub position_at : {n : ℕ} {s : List ℕ} → IsPermutation n s → (i : ℕ) → 1 ≤ i → i ≤ n → position (at s i) s ≡ i
position_at {n} {s} p i h k =
    let z = p.size in
    let only : (j : ℕ) → j < i - 1 → at s i ≡ get_or s j 0 → ⊥ =
    λ j l e. omega (arith, injective p i (suc j) h k (omega arith) (omega arith) (e ∙ sym (at_suc s j))) in
    position_first (at s i) s (i - 1) (omega arith) refl only ∙ omega arith

-- value m + 1 of s stands at position i, and s without it, once it is exchanged to the last position, is γ
pub record Without (m : ℕ) (s : List ℕ) (i : ℕ) (γ : List ℕ) : Type 0 where
  pub here : position (suc m) s ≡ i
  pub left : take m (exchange (position (suc m) s) (suc m) s) ≡ γ

-- E(γ) without m + 1
pub without_extend : {m : ℕ} {γ : List ℕ} → IsPermutation m γ → Without m (extend (suc m) γ) (suc m) γ
unfolding extend
without_extend {m} {γ} p =
    let e = rw (at-extend-top γ p.size) at (position_at (extend_permutation p) (suc m) (omega arith) (omega arith)) in
    record { here = e; left = rw (e, exchange_same, take_at γ (suc m ∷ []) m p.size) }

-- I(i,γ) without m + 1
pub without_insert : {m : ℕ} {γ : List ℕ} (i : ℕ) → 1 ≤ i → i ≤ m → IsPermutation m γ → Without m (insert (suc m) i γ) i γ
unfolding insert
without_insert {m} {γ} i h k p =
    let e = rw (at-insert-here γ i h k p.size) at (position_at (insert_permutation i h k p) i h (omega arith)) in
    let l : length (put γ i (suc m)) ≡ m = length-set γ (i - 1) (suc m) ∙ p.size in
    let top = exchange_top i (at γ i) (put γ i (suc m)) l h k in
    record { here = e; left = rw (e, top, set-set, set-get_or, take_at γ _ m p.size) }

-- so the array has one entry more
pub array_without : {m i : ℕ} {s γ : List ℕ} → Without m s i γ → array_of (suc m) s ≡ array_of m γ ++ (i ∷ [])
unfolding array_of
array_without w = rw (w.left, w.here)

-- an array of n entries whose product is s; by the last value, with the statement for n at hand
abbrev Computed : ℕ → List ℕ → Type 0
Computed n s = IsArray n (array_of n s) × (product (array_of n s) ≡ s)

computed_split : {n : ℕ} {s : List ℕ} → ((γ : List ℕ) → IsPermutation n γ → Computed n γ) → Split n s → Computed (suc n) s
computed_split {n} ih (extended γ g) =
    let (a, e) = ih γ g in
    rw (array_without (without_extend g)) (array_append (suc n) (omega arith) (omega arith) a, product-extend a ∙ ap (extend (suc n)) e)
computed_split {n} ih (inserted i γ h k g) =
    let (a, e) = ih γ g in
    rw (array_without (without_insert i h k g)) (array_append i h (omega arith) a, product-insert i h k a ∙ ap (insert (suc n) i) e)

computed : (n : ℕ) (s : List ℕ) → IsPermutation n s → Computed n s
unfolding array_of product partial range
computed zero [] g = (record { size = refl; bound = λ i h k. absurd (omega arith) }, refl)
computed zero (x ∷ s) g = absurd (omega (arith, g.size))
computed (suc n) s g = computed_split (computed n) (split g)

-- `array_of` is the array of a permutation
pub array_of_lem : {n : ℕ} {s : List ℕ} → IsPermutation n s → IsArrayOf s (array_of n s)
array_of_lem {n} {s} g =
    let (a, e) = computed n s g in
    record { array = rw g.size a; equal = e }

-- and the only one
pub is_array_of : {n : ℕ} {s p : List ℕ} → IsArrayOf s p → IsPermutation n s → p ≡ array_of n s
is_array_of a g = let b = array_of_lem g in one_array a.array b.array (a.equal ∙ sym b.equal)
