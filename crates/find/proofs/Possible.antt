-- Whether some row of S(n,k) meets wishes, by the count. Assumes nothing.
use mathlib.Core.Path.{◌≡◌, refl, sym, ap, ◌∙◌}
use Prim.Native.Nat.{ℕ, ◌+◌, ◌-◌, ◌≤◌, ◌<◌}
use native.Mathlib.Omega.{arith}
use mathlib.Core.Bool.{Bool, true, false, cond}
use mathlib.Core.List.{List}
use lib.Dec.{eqb, leb, ltb}
use lib.ListN.{length}
use borrow.Table.Steps.{cases}
use borrow.Author.Tests.{eqb-true, eqb-false, leb-true, le-leb}
use Rattle.stirling.specs.Count.{cycles_taken}
use Rattle.stirling.proofs.Counts.{taken_none, taken_some, taken_fails, taken-counted}
use Rattle.perm.specs.Lists.{some, positions}
use Rattle.perm.specs.Permutation.{IsPartial}
use Rattle.perm.specs.Cycle.{least, cycles}
use Rattle.perm.proofs.Tally.{tally-not, length-range}
use Rattle.gray.specs.Order.{S}
use Rattle.find.specs.Meeting.{meets}
use Rattle.find.specs.declared.ByValue.{ByValue}
use Rattle.find.specs.Counting.{free}
use Rattle.find.specs.Search.{pattern_of, Sound}
use Rattle.find.proofs.Counting.{none_meets, counted}
use Rattle.find.proofs.Patterns.{length_pattern}
use Rattle.find.proofs.Links.{linked_partial}

-- some row meets wishes that are a partial permutation just where the cycles that are left are those of some permutation of the free positions
module _ (n k : ℕ) (w : List ℕ) (s : IsPartial n w) where
  some-counted : some (meets w) (S n k) ≡ cond (leb (cycles w) k) (cycles_taken (free w) (k - cycles w)) false
  some-counted =
      ap (ltb 0) (counted n k w s)
      ∙ cases (leb (cycles w) k) (λ t. rw t (sym (taken-counted (free w) (k - cycles w)))) (λ f. rw f)

  -- the cycles left are taken
  met_some : cycles w ≤ k → cycles_taken (free w) (k - cycles w) ≡ true → some (meets w) (S n k) ≡ true
  met_some h t = some-counted ∙ rw (le-leb (cycles w) k h, t)

  met_none : (cycles w ≤ k → cycles_taken (free w) (k - cycles w) ≡ false) → some (meets w) (S n k) ≡ false
  met_none h = some-counted ∙ cases (leb (cycles w) k) (λ t. rw t (h (leb-true (cycles w) k t))) (λ f. rw f)

  -- where no position is free, the wishes close all cycles
  met-full : free w ≡ 0 → some (meets w) (S n k) ≡ eqb k (cycles w)
  met-full e =
      cases (eqb k (cycles w))
      (λ t. let q = eqb-true k (cycles w) t in met_some (omega arith) (taken_none (free w) (k - cycles w) e (omega arith)) ∙ sym t)
      (λ f. met_none (λ h. taken_fails (free w) (k - cycles w) (λ _ z. eqb-false k (cycles w) f (omega arith)) (λ l u. omega arith)) ∙ sym f)

  -- and elsewhere from one to as many cycles as there are free positions are left
  met-open : (free w ≡ 0 → ⊥) → cycles w < k → k ≤ cycles w + free w → some (meets w) (S n k) ≡ true
  met-open d l u = met_some (omega arith) (taken_some (free w) (k - cycles w) (omega arith) (omega arith))

  met-fails : (free w ≡ 0 → ⊥) → (cycles w < k → k ≤ cycles w + free w → ⊥) → some (meets w) (S n k) ≡ false
  met-fails d o = met_none (λ h. taken_fails (free w) (k - cycles w) (λ z _. d z) (λ l u. o (omega arith) (omega arith)))

-- the cycles that wishes close, and the positions that are free, are not more than all
few_cycles : (w : List ℕ) → cycles w ≤ length w
unfolding cycles
few_cycles w = omega (arith, tally-not (least w) (positions (length w)), length-range 1 (length w))

-- wishes that are no partial permutation are met by no row
pub none-sound : (n k : ℕ) (w : List ℕ) → n < length w → (IsPartial n (pattern_of n w) → ⊥) → false ≡ some (meets (pattern_of n w)) (S n k)
none-sound n k w h f = sym (ap (ltb 0) (none_meets n k (pattern_of n w) (length_pattern n w h) f))

-- from the wishes by their values
module _ {n : ℕ} (k : ℕ) {w : List ℕ} {r : ByValue} (h : n < length w) (b : Sound n w r) {q : ℕ} (e : q ≡ cycles (pattern_of n w)) where
  partial : IsPartial n (pattern_of n w)
  partial = linked_partial w r.positions h b.linked

  pub few : q + r.free ≤ n + n
  few = omega (arith, e, few_cycles (pattern_of n w), b.counted, tally-not (eqb 0) (pattern_of n w), length_pattern n w h)

  pub all_closed : r.free ≡ 0 → eqb k q ≡ some (meets (pattern_of n w)) (S n k)
  all_closed z = ap (eqb k) e ∙ sym (met-full n k (pattern_of n w) partial (sym b.counted ∙ z))

  pub some-free : (r.free ≡ 0 → ⊥) → (x : Bool) → (x ≡ true → (q < k) × (k ≤ q + r.free)) → (x ≡ false → q < k → k ≤ q + r.free → ⊥)
      → x ≡ some (meets (pattern_of n w)) (S n k)
  some-free d true f g =
      let (l, u) = f refl in
      sym (met-open n k (pattern_of n w) partial (λ z. d (b.counted ∙ z)) (omega (arith, e)) (omega (arith, e, b.counted)))
  some-free d false f g =
      sym (met-fails n k (pattern_of n w) partial (λ z. d (b.counted ∙ z)) (λ l u. g refl (omega (arith, e)) (omega (arith, e, b.counted))))
