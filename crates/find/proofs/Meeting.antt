-- Wishes are met where each is granted; and what a permutation that meets them says of them. Assumes nothing.
use mathlib.Core.Path.{◌≡◌, sym, ap, ◌∙◌}
use Prim.Native.Nat.{ℕ, ◌≤◌}
use native.Mathlib.Omega.{arith}
use native.Mathlib.Decide.{ℕ_discrete}
use mathlib.Core.Bool.{Bool, true, false, not, ◌&&◌}
use mathlib.Core.List.{List}
use lib.Dec.{eqb}
use lib.ListN.{length}
use borrow.Table.Steps.{cases}
use borrow.Author.Tests.{eqb-true, eq-eqb, ne_eqb, le-ltb, ltb-false, not-true, not-false}
use Rattle.perm.specs.Lists.{tally, positions}
use Rattle.perm.specs.Permutation.{IsPermutation, IsPartial, at}
use Rattle.perm.proofs.Tally.{range_none_passes, range-tally_none}
use Rattle.perm.proofs.Values.{in_range, injective}
use Rattle.gray.specs.Order.{Row}
use Rattle.find.specs.Meeting.{granted, meets}

-- a free position grants any value
pub granted-free : (entry value : ℕ) → entry ≡ 0 → granted entry value ≡ true
granted-free entry value e = rw (eq-eqb entry 0 e)

-- a wish is granted by its value
pub granted_same : (entry value : ℕ) → entry ≡ value → granted entry value ≡ true
granted_same entry value e =
    cases (eqb entry 0) (λ t. rw t) (λ f. rw (f, eq-eqb entry value e))

-- and by no other
pub granted-true : (entry value : ℕ) → granted entry value ≡ true → (entry ≡ 0 → ⊥) → entry ≡ value
granted-true entry value e d = eqb-true entry value (rw (ne_eqb entry 0 d) at e)

pub granted-false : (entry value : ℕ) → (entry ≡ 0 → ⊥) → (entry ≡ value → ⊥) → granted entry value ≡ false
granted-false entry value d f = rw (ne_eqb entry 0 d, ne_eqb entry value f)

-- two tests that pass, together
pub both_true : (a b : Bool) → a ≡ true → b ≡ true → a && b ≡ true
both_true a b e f = rw (e, f)

-- the wish of a position that is not granted
abbrev denied : List ℕ → Row → ℕ → Bool
denied w s i = not (granted (at w i) (at s i))

-- wishes are met where each is granted
pub meets_holds : (w : List ℕ) (s : Row) → ((i : ℕ) → 1 ≤ i → i ≤ length w → granted (at w i) (at s i) ≡ true) → meets w s ≡ true
unfolding meets
meets_holds w s h =
    let none : tally (denied w s) (positions (length w)) ≡ 0 =
    range-tally_none (denied w s) 1 (length w) (λ i l u. ap not (h i l (omega arith))) in
    ap not (le-ltb 0 (tally (denied w s) (positions (length w))) (omega arith))

-- and only there
pub meets_at : (w : List ℕ) (s : Row) → meets w s ≡ true → (i : ℕ) → 1 ≤ i → i ≤ length w → granted (at w i) (at s i) ≡ true
unfolding meets
meets_at w s e i l u =
    let none : tally (denied w s) (positions (length w)) ≡ 0 =
    omega (arith, ltb-false 0 (tally (denied w s) (positions (length w))) (not-true _ e)) in
    not-false (granted (at w i) (at s i)) (range_none_passes (denied w s) 1 (length w) none i l (omega arith))

-- a permutation of n that meets wishes has each of them, so none is above n, and no two are for one value
module _ {n : ℕ} (w : List ℕ) (s : Row) (size : length w ≡ n) (p : IsPermutation n s) (m : meets w s ≡ true) where
  pub met_at : (i : ℕ) → 1 ≤ i → i ≤ n → (at w i ≡ 0 → ⊥) → at w i ≡ at s i
  met_at i l u d = granted-true (at w i) (at s i) (meets_at w s m i l (omega arith)) d

  pub met-partial : IsPartial n w
  met-partial = record {
    size = size;
    bound = λ i l u. by_entry i l u (ℕ_discrete (at w i) 0);
    apart = λ i j li ui lj uj e d.
        injective p i j li ui lj uj (sym (met_at i li ui d) ∙ e ∙ met_at j lj uj (λ z. d (e ∙ z)));
  }
    where
      by_entry : (i : ℕ) → 1 ≤ i → i ≤ n → Dec (at w i ≡ 0) → at w i ≤ n
      by_entry i l u (yes z) = omega arith
      by_entry i l u (no d) = omega (arith, met_at i l u d, (in_range p i l u).1)
