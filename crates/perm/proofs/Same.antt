-- A Boolean test of equality of lists of numbers, to count one of them among many, and to scan two of them. Assumes nothing.
use mathlib.Core.Path.{◌≡◌, refl, sym}
use Prim.Native.Nat.{ℕ, ◌+◌, ◌≤◌, ◌<◌}
use native.Mathlib.Numerals.{add-one}
use mathlib.Core.Bool.{Bool, true, false, false≢true, ◌&&◌}
use mathlib.Core.List.{List, [], ◌∷◌}
use lib.Dec.{eqb}
use lib.ListN.{length, get_or, drop, drop_of_length-le}
use lib.Seq.{drop-cons}
use borrow.Author.Tests.{eqb-true, eq-eqb, ne_eqb}
use Rattle.stirling.proofs.Refusals.{and-true}
use Rattle.perm.specs.Lists.{same}
use Rattle.perm.proofs.Tally.{refuted}

-- it passes on a list and itself
pub same_refl : (s : List ℕ) → same s s ≡ true
unfolding same
same_refl [] = refl
same_refl (x ∷ s) = rw (eq-eqb x x refl, same_refl s)

-- so on equal lists
pub same_equal : (s t : List ℕ) → s ≡ t → same s t ≡ true
same_equal s t e = rw e (same_refl t)

-- and only on these
pub same_true : (s t : List ℕ) → same s t ≡ true → s ≡ t
unfolding same
same_true [] [] e = refl
same_true [] (y ∷ t) e = absurd (false≢true e)
same_true (x ∷ s) [] e = absurd (false≢true e)
same_true (x ∷ s) (y ∷ t) e =
    let (h, l) = and-true (eqb x y) (same s t) e in
    rw (eqb-true x y h, same_true s t l)

-- it fails on different lists
pub same_false : (s t : List ℕ) → (s ≡ t → ⊥) → same s t ≡ false
same_false s t h = refuted (same s t) (λ e. h (same_true s t e))

-- two tests that pass alike are equal
pub iff_equal : (a b : Bool) → (a ≡ true → b ≡ true) → (b ≡ true → a ≡ true) → a ≡ b
iff_equal true true f g = refl
iff_equal true false f g = sym (f refl)
iff_equal false true f g = g refl
iff_equal false false f g = refl

-- two tests agree where one equality holds just if the other does
pub same_iff : (s t u v : List ℕ) → (s ≡ t → u ≡ v) → (u ≡ v → s ≡ t) → same s t ≡ same u v
same_iff s t u v to from =
    iff_equal (same s t) (same u v) (λ e. same_equal u v (to (same_true s t e))) (λ e. same_equal s t (from (same_true u v e)))

-- what it gives from one index of each list on
module _ (s t : List ℕ) (i j : ℕ) where
  -- the elements there, and the rest
  same_from : i < length s → j < length t → same (drop i s) (drop j t) ≡ eqb (get_or s i 0) (get_or t j 0) && same (drop (i + 1) s) (drop (j + 1) t)
  unfolding same
  same_from h k = rw (add-one i, add-one j, drop-cons s i 0, drop-cons t j 0)

  -- where they are equal, the rest decides
  pub same_next : i < length s → j < length t → get_or s i 0 ≡ get_or t j 0 → same (drop i s) (drop j t) ≡ same (drop (i + 1) s) (drop (j + 1) t)
  same_next h k e = rw (same_from h k, eq-eqb (get_or s i 0) (get_or t j 0) e)

  -- where they differ, the lists do
  pub same-stops : i < length s → j < length t → (get_or s i 0 ≡ get_or t j 0 → ⊥) → same (drop i s) (drop j t) ≡ false
  same-stops h k d = rw (same_from h k, ne_eqb (get_or s i 0) (get_or t j 0) d)

  -- and two ends are equal
  pub same_ends : length s ≤ i → length t ≤ j → same (drop i s) (drop j t) ≡ true
  unfolding same
  same_ends h k = rw (drop_of_length-le s h, drop_of_length-le t k)
