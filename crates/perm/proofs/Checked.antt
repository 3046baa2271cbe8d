-- What the checks 6 and 7 leave is a permutation, and nothing that is one is refused; the same for check 6 on arrays. Assumes nothing.
use mathlib.Core.Path.{◌≡◌, refl, ap}
use Prim.Native.Nat.{ℕ, suc, ◌+◌, ◌-◌, ◌≤◌, ◌<◌}
use native.Mathlib.Omega.{arith}
use mathlib.Core.Bool.{Bool, false, not}
use mathlib.Core.List.{List}
use lib.Dec.{eqb, ltb}
use lib.ListN.{length}
use borrow.Author.Tests.{ltb-false, le-ltb, not-false}
use Rattle.stirling.specs.Refusal.{refuse, within}
use Rattle.stirling.specs.Count.{check_size}
use Rattle.stirling.proofs.Refusals.{refuse-passed, within-true, within_holds}
use Rattle.perm.specs.Lists.{tally, some, positions}
use Rattle.perm.specs.Permutation.{IsPermutation, at}
use Rattle.perm.specs.Array.{IsArray}
use Rattle.perm.specs.Checks.{check_values, check_twice, check_entries, check_permutation}
use Rattle.perm.proofs.Tally.{none_passes, tally-none, range_none_passes, range-tally_none}
use Rattle.perm.proofs.Values.{in_range, entries-within, counted}

-- A check whether some element passes a test: where it refuses nothing, no element does
pub unrefused {ℓ} : {A : Type ℓ} (p : A → Bool) (s : List A) (number : ℕ) → refuse (some p s) (suc number) ≡ 0 → tally p s ≡ 0
unrefused p s number e = omega (arith, ltb-false 0 (tally p s) (refuse-passed (some p s) number e))

-- and the converse
pub unrefused_by {ℓ} : {A : Type ℓ} (p : A → Bool) (s : List A) (number : ℕ) → tally p s ≡ 0 → refuse (some p s) number ≡ 0
unrefused_by p s number e = rw (le-ltb 0 (tally p s) (omega arith))

-- the tests of check 6 on a permutation, of check 7, and of check 6 on an array
abbrev pub outside : List ℕ → ℕ → Bool
outside s v = not (within 1 (length s) v)

abbrev pub twice : List ℕ → ℕ → Bool
twice s v = ltb 1 (tally (eqb v) s)

abbrev above : List ℕ → ℕ → Bool
above p i = not (within 1 i (at p i))

-- some value is not 1 to n, and some value is there twice
abbrev pub some_outside : List ℕ → Bool
some_outside s = some (outside s) s

abbrev pub some_twice : List ℕ → Bool
some_twice s = some (twice s) (positions (length s))

-- what checks 6 and 7 do not refuse is a permutation
pub checked : (s : List ℕ) → check_values s ≡ 0 → check_twice s ≡ 0 → IsPermutation (length s) s
checked s h k =
    let n = length s in
    let values = none_passes (outside s) 0 s (unrefused (outside s) s 5 h) in
    let once = range_none_passes (twice s) 1 n (unrefused (twice s) (positions n) 6 k) in
    counted
    s
    refl
    (λ i a b. within-true 1 n (at s i) (not-false (within 1 n (at s i)) (values (i - 1) (omega arith))))
    (λ v a b. ltb-false 1 (tally (eqb v) s) (once v a (omega arith)))

-- check 6 does not refuse a permutation
pub passes_values : {n : ℕ} {s : List ℕ} → IsPermutation n s → check_values s ≡ 0
passes_values {n} {s} p =
    let q : IsPermutation (length s) s = rw p.size p in
    unrefused_by (outside s) s 6 (tally-none (outside s) 0 s (λ i k. ap not (entries-within s refl (in_range q) i k)))

-- nor does check 7
pub passes_twice : {n : ℕ} {s : List ℕ} → IsPermutation n s → check_twice s ≡ 0
passes_twice {n} {s} p = unrefused_by (twice s) (positions (length s)) 7 (range-tally_none (twice s) 1 (length s) once)
  where
    once : (v : ℕ) → 1 ≤ v → v < 1 + length s → twice s v ≡ false
    once v a b = le-ltb 1 (tally (eqb v) s) (omega (arith, p.once v a (omega (arith, p.size))))

-- where check 1 passes n, a permutation of n passes the checks 1, 6 and 7
pub passes : {n : ℕ} {s : List ℕ} → check_size n ≡ 0 → IsPermutation n s → check_permutation s ≡ 0
passes {n} {s} e p =
    let size : check_size (length s) ≡ 0 = rw p.size e in
    rw (size, passes_values p, passes_twice p)

-- what check 6 does not refuse is an array
pub checked_array : (p : List ℕ) → check_entries p ≡ 0 → IsArray (length p) p
checked_array p h =
    let n = length p in
    let entries = range_none_passes (above p) 1 n (unrefused (above p) (positions n) 5 h) in
    record {
      size = refl;
      bound = λ i a b. within-true 1 i (at p i) (not-false (within 1 i (at p i)) (entries i a (omega arith)));
    }

-- and check 6 does not refuse an array
pub passes_array : {n : ℕ} {p : List ℕ} → IsArray n p → check_entries p ≡ 0
passes_array {n} {p} a = unrefused_by (above p) (positions (length p)) 6 (range-tally_none (above p) 1 (length p) inside)
  where
    inside : (i : ℕ) → 1 ≤ i → i < 1 + length p → above p i ≡ false
    inside i h k = let b = a.bound i h (omega (arith, a.size)) in ap not (within_holds 1 i (at p i) b.0 b.1)
