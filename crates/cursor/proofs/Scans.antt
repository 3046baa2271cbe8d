-- What the searches of a step find between near rows: the three positions of the step, each as an index, one less. And a count of the pairs that differ is on how many
-- positions two rows differ. Assumes nothing.
use mathlib.Core.Path.{◌≡◌, refl, sym, ap, ◌∙◌}
use mathlib.Core.Bool.{Bool, not}
use mathlib.Core.List.{List, [], ◌∷◌}
use Prim.Native.Nat.{ℕ, zero, suc, ◌+◌, ◌-◌, ◌≤◌, ◌<◌}
use native.Mathlib.Omega.{arith}
use native.Mathlib.Numerals.{add-one}
use lib.Dec.{eqb}
use lib.ListN.{length, take, get_or}
use borrow.Author.Tests.{eq-eqb, ne_eqb, eqb-true, eqb-false, lt-ltb}
use borrow.Table.Steps.{cases}
use Rattle.std.specs.Prelude.{Option, Some}
use Rattle.std.specs.List.{zip, position as index_of, position_or_len, count_by}
use Rattle.std.proofs.lemmas.List.{take_all}
use Rattle.std.proofs.lemmas.List.Sums.{count_by_more_yes, count_by_more_no}
use Rattle.std.proofs.lemmas.Slice.Zip.{length-zip, get_or-zip}
use Rattle.perm.specs.Permutation.{IsPermutation, at, distance}
use Rattle.perm.specs.Array.{position}
use Rattle.perm.proofs.Distance.{DifferTo, differ_none, differ-here, differ-other, differ-all}
use Rattle.gray.specs.Order.{Row}
use Rattle.gray.specs.Listing.{Near}
use Rattle.cursor.specs.Machine.{first_from, step_i, step_j, step_l}
use Rattle.cursor.proofs.Rotate.{near_length, at-rotate_i, at-rotate_j}
use Rattle.cursor.proofs.Steps.{near_step}

-- a pair of different values, and a value that is v
abbrev pub apart : ℕ × ℕ → Bool
apart p = not (eqb p.0 p.1)

abbrev pub is : ℕ → ℕ → Bool
is v x = eqb x v

-- where a test passes before the end, its index is found
index_found : {A : Type 0} (p : A → Bool) (s : List A) (i : ℕ) → position_or_len p s ≡ i → i < length s → index_of p s ≡ Some i
index_found p s i e h = rw (e, lt-ltb i (length s) h)

-- two rows first differ one past the pairs that are equal
first_len : (i : ℕ) (s t : List ℕ) → first_from i s t ≡ i + position_or_len apart (zip s t)
unfolding first_from
first_len i [] t = omega arith
first_len i (x ∷ s) [] = omega arith
first_len i (x ∷ s) (y ∷ t) =
    let rest = first_len (suc i) s t in
    cases (eqb x y) (λ e. rw e (omega (arith, rest))) (λ e. rw e (omega arith))

-- a value that stands in a row is found there, and its position is one past its index
value_len : (v : ℕ) (s : List ℕ) (i : ℕ) → i < length s → get_or s i 0 ≡ v
    → (position v s ≡ suc (position_or_len (is v) s)) × (position_or_len (is v) s < length s)
unfolding position
value_len v [] i h e = absurd (omega arith)
value_len v (x ∷ s) zero h e = rw (eq-eqb x v e, eq-eqb v x (sym e)) (refl, omega arith)
value_len v (x ∷ s) (suc i) h e =
    let (rest, inside) = value_len v s i (omega arith) e in
    cases
    (eqb x v)
    (λ f. rw (f, eq-eqb v x (sym (eqb-true x v f))) (refl, omega arith))
    (λ f. rw (f, ne_eqb v x (λ g. eqb-false x v f (sym g))) (omega (arith, rest), omega (arith, inside)))

-- so its index is its position less one
value_found : (v : ℕ) (s : List ℕ) (i : ℕ) → i < length s → get_or s i 0 ≡ v → index_of (is v) s ≡ Some (position v s - 1)
value_found v s i h e =
    let (there, inside) = value_len v s i h e in
    index_found (is v) s (position v s - 1) (omega (arith, there)) (omega (arith, there, inside))

-- what the three searches of a step find
pub record Found (s t : Row) : Type 0 where
  pub first : index_of apart (zip s t) ≡ Some (step_i s t - 1)
  pub second : index_of (is (at t (step_i s t))) s ≡ Some (step_j s t - 1)
  pub third : index_of (is (at t (step_j s t))) s ≡ Some (step_l s t - 1)

-- between near rows
pub near_found : {n : ℕ} {s t : Row} → IsPermutation n s → Near n s t → Found s t
near_found {n} {s} {t} p near =
    let step = near_step p near in
    let three = step.three in
    let size = p.size in
    let y = near_length near in
    let at_i : at t (step_i s t) ≡ at s (step_j s t) = ap (λ r. at r (step_i s t)) step.step ∙ at-rotate_i s size three in
    let at_j : at t (step_j s t) ≡ at s (step_l s t) = ap (λ r. at r (step_j s t)) step.step ∙ at-rotate_j s size three in
    let long = length-zip s t in
    record {
      first = index_found apart (zip s t) (step_i s t - 1) (omega (arith, first_len 1 s t)) (omega (arith, three.i_in));
      second = value_found (at t (step_i s t)) s (step_j s t - 1) (omega (arith, three.j_in)) (sym at_i);
      third = value_found (at t (step_j s t)) s (step_l s t - 1) (omega (arith, three.l_in)) (sym at_j);
    }

-- an index is found once
pub same_index : {o : Option ℕ} {x y : ℕ} → o ≡ Some x → o ≡ Some y → x ≡ y
same_index e f = cc

module _ {s t : Row} (found : Found s t) {o : Option ℕ} where
  -- so the first search finds the first position
  pub first_at : {i : ℕ} → o ≡ index_of apart (zip s t) → o ≡ Some i → i ≡ step_i s t - 1
  first_at e f = same_index f (e ∙ found.first)

  -- the search for the value there the second
  pub second_found : {i : ℕ} → i ≡ step_i s t - 1 → o ≡ index_of (is (get_or t i 0)) s → o ≡ Some (step_j s t - 1)
  second_found at_i e = e ∙ ap (λ x. index_of (is (get_or t x 0)) s) at_i ∙ found.second

  -- and the search for the value there the third
  pub third_found : {j : ℕ} → j ≡ step_j s t - 1 → o ≡ index_of (is (get_or t j 0)) s → o ≡ Some (step_l s t - 1)
  third_found at_j e = e ∙ ap (λ x. index_of (is (get_or t x 0)) s) at_j ∙ found.third

module _ (s t : List ℕ) (z : length s ≡ length t) where
  -- the pairs at one index more
  one_more : (i : ℕ) → i < length s → DifferTo s t i (count_by apart (take i (zip s t))) → DifferTo s t (i + 1) (count_by apart (take (i + 1) (zip s t)))
  one_more i h before =
      let pair = get_or-zip s t i (0, 0) h (omega arith) in
      let there : i < length (zip s t) = omega (arith, length-zip s t) in
      cases
      (eqb (get_or s i 0) (get_or t i 0))
      (λ e. rw (count_by_more_no apart (zip s t) i (0, 0) there (ap apart pair ∙ ap not e)) (differ-other s t (eqb-true (get_or s i 0) (get_or t i 0) e) before))
      (λ e. rw (count_by_more_yes apart (zip s t) i (0, 0) there (ap apart pair ∙ ap not e)) (differ-here s t (eqb-false (get_or s i 0) (get_or t i 0) e) before))

  -- the different pairs among the first i are the positions on which the rows differ
  differs_so_far : (i : ℕ) → i ≤ length s → DifferTo s t i (count_by apart (take i (zip s t)))
  differs_so_far zero h = differ_none s t
  differs_so_far (suc i) h = rw (← add-one i) (one_more i (omega arith) (differs_so_far i (omega arith)))

  -- and all of them are on how many they differ
  pub differs_in_all : count_by apart (zip s t) ≡ distance s t
  differs_in_all =
      let whole : take (length s) (zip s t) ≡ zip s t = take_all (length s) (zip s t) (omega (arith, length-zip s t)) in
      ap (count_by apart) (sym whole) ∙ differ-all s t refl (differs_so_far (length s) (omega arith))
