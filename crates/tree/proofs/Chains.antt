-- What a chain of iterators over the positions 1 to n gives: whether one of them passes a test. Assumes nothing.
use mathlib.Core.Path.{◌≡◌, refl, sym, ap, ap₂, subst, ◌∙◌}
use Prim.Native.Nat.{ℕ, suc, ◌-◌, ◌<◌}
use native.Mathlib.Omega.{arith}
use native.Mathlib.Numerals.{add-one}
use mathlib.Core.Bool.{Bool, true, false}
use mathlib.Core.List.{List, ◌∷◌}
use lib.ListN.{length}
use borrow.Table.Steps.{cases}
use borrow.Author.Tests.{lt-ltb, le-ltb}
use Rattle.std.specs.declared.ops.RangeInclusive.{RangeInclusive}
use Rattle.std.specs.Prelude.{Some, None}
use Rattle.std.specs.Bool.{MatchBool}
use Rattle.std.specs.Range.{range_inclusive_len, range_inclusive_start, range_inclusive_end, range_inclusive_exhausted}
use Rattle.std.specs.List.{HoldsAt, AllWithin}
use Rattle.std.proofs.iter.runs.Sources.{nat_range_inclusive_steps}
use Rattle.std.proofs.lemmas.Iterator.{YieldsList}
use Rattle.std.proofs.lemmas.Iterator.Consumers.{YieldsList-from_shown}
use Rattle.perm.specs.Lists.{tally, some, range, positions}
use Rattle.perm.proofs.Tally.{length-range, tally-none, one_passes}

-- what is left of a range `a..=b`
left : RangeInclusive ℕ → ℕ
left s = range_inclusive_len (λ x y. y - x) (range_inclusive_start s) (range_inclusive_end s) (range_inclusive_exhausted s)

abbrev shown : RangeInclusive ℕ → List ℕ
shown s = range (range_inclusive_start s) (left s)

ends : (s t : RangeInclusive ℕ) → nat_range_inclusive_steps s None t → length (shown s) ≡ 0
unfolding left
ends s t h = length-range (range_inclusive_start s) (left s) ∙ h.1.0

goes : (s : RangeInclusive ℕ) (x : ℕ) (t : RangeInclusive ℕ) → nat_range_inclusive_steps s (Some x) t → shown s ≡ x ∷ shown t
unfolding range left
goes s x t h =
    let e : left s ≡ suc (left t) = omega (arith, h.1.1) in
    ap (range (range_inclusive_start s)) e ∙ ap₂ {A = ℕ} {B = List ℕ} {C = List ℕ} (λ a l. a ∷ l) (sym h.1.0) rest
  where
    rest : range (suc (range_inclusive_start s)) (left t) ≡ range (range_inclusive_start t) (left t)
    rest =
        cases
        (range_inclusive_exhausted t)
        (λ z. let y : left t ≡ 0 = ap (range_inclusive_len (λ a b. b - a) (range_inclusive_start t) (range_inclusive_end t)) z in rw y refl)
        (λ z. ap (λ a. range a (left t)) (sym (h.1.2 z ∙ add-one (range_inclusive_start s))))

-- `1..=n` gives the positions 1 to n
pub YieldsList-from_positions : {s : RangeInclusive ℕ} (n : ℕ) → range_inclusive_start s ≡ 1 → range_inclusive_end s ≡ n → range_inclusive_exhausted s ≡ false
    → YieldsList nat_range_inclusive_steps (λ x. x) s (positions n)
unfolding left
YieldsList-from_positions {s} n a b z =
    let e : left s ≡ n = ap (range_inclusive_len (λ x y. y - x) (range_inclusive_start s) (range_inclusive_end s)) z ∙ omega arith in
    subst (λ (xs : List ℕ). YieldsList nat_range_inclusive_steps (λ x. x) s xs) (ap₂ range a e) (YieldsList-from_shown nat_range_inclusive_steps (λ x. x) shown ends goes s)

-- one passes just if `any` finds one
pub found-any : (p : ℕ → Bool) (xs : List ℕ) (r : Bool) → MatchBool r ((k : ℕ) × (k < length xs) × HoldsAt (λ i. p i ≡ true) xs k) (AllWithin (λ i. p i ≡ false) xs 0 (length xs)) → r ≡ some p xs
found-any p xs true h = let (k, u, e) = h in sym (lt-ltb 0 (tally p xs) (one_passes p 0 xs k u (e 0)))
found-any p xs false h =
    let none : tally p xs ≡ 0 = tally-none p 0 xs (λ i u. h i 0 (omega arith) u) in
    sym (le-ltb 0 (tally p xs) (omega arith))
