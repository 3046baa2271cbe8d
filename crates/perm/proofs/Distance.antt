-- On how many positions two lists of one length differ: what a loop that counts them keeps; 0 for equal lists and only for these; the same either way; and an end that
-- both have counts nothing. So it is with the entries of the arrays of two permutations. Assumes nothing.
use mathlib.Core.Path.{◌≡◌, refl, sym, ap, ◌∙◌}
use Prim.Native.Nat.{ℕ, suc, ◌+◌, ◌-◌, ◌≤◌}
use native.Mathlib.Omega.{arith}
use mathlib.Core.Bool.{Bool, not}
use mathlib.Core.List.{List, [], ◌∷◌, ◌++◌, append-nil, append_assoc}
use lib.Dec.{eqb}
use lib.ListN.{length, get_or, length-append}
use borrow.Author.Tests.{eq-eqb, ne_eqb, eqb-true, not-false}
use Rattle.perm.specs.Lists.{one}
use Rattle.perm.specs.Permutation.{IsPermutation, at, distance}
use Rattle.perm.specs.Array.{IsArrayOf, product, array_of, entries_changed}
use Rattle.perm.proofs.Tally.{tally-positions, tally-range_cong, range_none_passes, range-tally_none}
use Rattle.perm.proofs.Counted.{CountedTo, counted_none, counted_hit, counted_miss}
use Rattle.perm.proofs.Values.{same_at}
use Rattle.perm.proofs.Same.{iff_equal}
use Rattle.perm.proofs.Arrays.{at_low, at_last}
use Rattle.perm.proofs.ArrayOf.{array_of_lem, is_array_of}

-- two lists differ at position i
unfoldable pub differs : List ℕ → List ℕ → ℕ → Bool
differs s t i = not (eqb (at s i) (at t i))

-- index i holds position i + 1
differs_at : (s t : List ℕ) (i : ℕ) → differs s t (i + 1) ≡ not (eqb (get_or s i 0) (get_or t i 0))
unfolding differs
differs_at s t i = let y : i + 1 - 1 ≡ i = omega arith in rw y

-- on so many of the first i they differ
abbrev pub DifferTo : List ℕ → List ℕ → ℕ → ℕ → Type 0
DifferTo s t i count = CountedTo (differs s t) i count

module _ (s t : List ℕ) where
  -- none of none
  pub differ_none : DifferTo s t 0 0
  differ_none = counted_none (differs s t)

  -- one position more, at index i: one on which they differ
  pub differ-here : {i count : ℕ} → (get_or s i 0 ≡ get_or t i 0 → ⊥) → DifferTo s t i count → DifferTo s t (i + 1) (count + 1)
  differ-here {i} d = counted_hit {p = differs s t} (differs_at s t i ∙ ap not (ne_eqb _ _ d))

  -- and one on which they agree
  pub differ-other : {i count : ℕ} → get_or s i 0 ≡ get_or t i 0 → DifferTo s t i count → DifferTo s t (i + 1) count
  differ-other {i} e = counted_miss {p = differs s t} (differs_at s t i ∙ ap not (eq-eqb _ _ e))

  -- past the last position it is on how many they differ
  pub differ-all : {i count : ℕ} → i ≡ length s → DifferTo s t i count → count ≡ distance s t
  unfolding distance differs
  differ-all e w = rw e at w.counted

-- a list differs from itself nowhere
pub distance_self : (s : List ℕ) → distance s s ≡ 0
unfolding distance
distance_self s = range-tally_none (λ i. not (eqb (at s i) (at s i))) 1 (length s) (λ i h k. ap not (eq-eqb (at s i) (at s i) refl))

-- and only from itself
pub distance-zero : (s t : List ℕ) → length s ≡ length t → distance s t ≡ 0 → s ≡ t
unfolding distance
distance-zero s t e z =
    same_at s t e (λ i h k.
    eqb-true (at s i) (at t i) (not-false (eqb (at s i) (at t i)) (range_none_passes (λ i. not (eqb (at s i) (at t i))) 1 (length s) z i h (omega arith))))

eqb-sym : (x y : ℕ) → eqb x y ≡ eqb y x
eqb-sym x y =
    iff_equal (eqb x y) (eqb y x) (λ e. eq-eqb y x (sym (eqb-true x y e))) (λ e. eq-eqb x y (sym (eqb-true y x e)))

-- they differ as much either way
pub distance-sym : (s t : List ℕ) → length s ≡ length t → distance s t ≡ distance t s
unfolding distance
distance-sym s t e =
    rw (← e) (tally-range_cong (λ i. not (eqb (at s i) (at t i))) (λ i. not (eqb (at t i) (at s i))) 1 (length s) (λ i h k. ap not (eqb-sym (at s i) (at t i))))

-- one more value on each: lists of one length stay so
pub length_last : (s t : List ℕ) (x y : ℕ) → length s ≡ length t → length (s ++ (x ∷ [])) ≡ length (t ++ (y ∷ []))
length_last s t x y e = omega (arith, length-append s (x ∷ []), length-append t (y ∷ []))

-- and there is one position more, on which they differ or not
pub distance_last : (s t : List ℕ) (x y : ℕ) → length s ≡ length t → distance (s ++ (x ∷ [])) (t ++ (y ∷ [])) ≡ distance s t + one (not (eqb x y))
unfolding distance
distance_last s t x y e =
    let p : ℕ → Bool = λ i. not (eqb (at (s ++ (x ∷ [])) i) (at (t ++ (y ∷ [])) i)) in
    let l : length (s ++ (x ∷ [])) ≡ suc (length s) = length-append s (x ∷ []) ∙ omega arith in
    rw l
    (tally-positions p (length s)
    ∙ rw (at_last s x refl, at_last t y (sym e))
    (ap (λ c. c + one (not (eqb x y)))
    (tally-range_cong p (λ i. not (eqb (at s i) (at t i))) 1 (length s) (λ i h k. rw (at_low s x i h (omega arith), at_low t y i h (omega arith))))))

-- an end that both lists have counts nothing
pub distance-append : (s t r : List ℕ) → length s ≡ length t → distance (s ++ r) (t ++ r) ≡ distance s t
distance-append s t [] e = rw (append-nil s, append-nil t)
distance-append s t (x ∷ r) e =
    rw (← append_assoc s (x ∷ []) r, ← append_assoc t (x ∷ []) r)
    (distance-append (s ++ (x ∷ [])) (t ++ (x ∷ [])) r (length_last s t x x e)
    ∙ distance_last s t x x e
    ∙ omega (arith, ap (λ b. one (not b)) (eq-eqb x x refl)))

-- the array of a permutation of n has n entries
pub length_array : {n : ℕ} {s : List ℕ} → IsPermutation n s → length (array_of n s) ≡ n
length_array p = (array_of_lem p).array.size ∙ p.size

module _ {n : ℕ} {s t : List ℕ} (p : IsPermutation n s) (q : IsPermutation n t) where
  -- the entries changed are those in which the arrays of two permutations of n differ
  pub changed-arrays : {a b : List ℕ} → IsArrayOf s a → IsArrayOf t b → entries_changed n s t ≡ distance a b
  changed-arrays a b = rw (is_array_of a p, is_array_of b q)

  -- they are as many either way
  pub changed-sym : entries_changed n s t ≡ entries_changed n t s
  changed-sym = distance-sym (array_of n s) (array_of n t) (length_array p ∙ sym (length_array q))

  -- and in at least one if the permutations differ, since each is the product of its array
  pub changed-some : (s ≡ t → ⊥) → 1 ≤ entries_changed n s t
  changed-some d =
      let none : entries_changed n s t ≡ 0 → ⊥ =
      λ z. d (sym (array_of_lem p).equal ∙ ap product (distance-zero (array_of n s) (array_of n t) (length_array p ∙ sym (length_array q)) z) ∙ (array_of_lem q).equal) in
      omega arith
