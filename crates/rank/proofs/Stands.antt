-- A permutation that passes the checks, its transposition array in a list of 20 bytes, and where the permutation stands. Assumes nothing.
use mathlib.Core.Path.{◌≡◌, sym, ap, subst, ◌∙◌}
use Prim.Native.Nat.{ℕ, zero, suc, ◌-◌, ◌≤◌}
use native.Mathlib.Omega.{arith}
use mathlib.Core.Bool.{false}
use mathlib.Core.List.{List, ◌++◌}
use Rattle.std.specs.Prelude.{Ok}
use borrow.Author.Tests.{eq-eqb}
use lib.ListN.{length, take, drop, replicate}
use lib.Seq.{length-take-le, take_at}
use Rattle.stirling.specs.Refusal.{◌then◌}
use Rattle.stirling.specs.Count.{check_size}
use Rattle.stirling.proofs.Refusals.{then_stops}
use Rattle.stirling.proofs.Counts.{size-passed}
use Rattle.perm.specs.Permutation.{IsPermutation, fixed}
use Rattle.perm.specs.Cycle.{cycles}
use Rattle.perm.specs.Array.{IsArrayOf, product, array_of}
use Rattle.perm.specs.Checks.{check_values, check_twice, check_permutation, ToArray}
use Rattle.perm.specs.declared.Array.{Array}
use Rattle.perm.proofs.Arrays.{product_permutation, cycles-product}
use Rattle.perm.proofs.ArrayOf.{array_of_lem, is_array_of}
use Rattle.perm.proofs.Refused.{permutation_passed}
use Rattle.rank.specs.declared.Entries.{Entries}
use Rattle.rank.specs.Place.{StandsAt}
use Rattle.rank.specs.Ranking.{HasEntries, Rankable, PlaceIn}

-- a refusal of check 1 stands before checks 6 and 7
pub size_refused : (s : List ℕ) (r : ℕ) → r ≡ check_size (length s) → (r ≡ 0 → ⊥) → r ≡ check_permutation s
size_refused s r e h = then_stops (check_size (length s) then check_values s) (check_twice s) r (then_stops (check_size (length s)) (check_values s) r e h) h

-- where check 1 passes there are at most 20 values
pub few_values : (s : List ℕ) → check_size (length s) ≡ 0 → length s ≤ 20
few_values s size = size-passed (length s) size

-- and the array of s is written to the front of a list z of 20 bytes
module _ (s : List ℕ) (size : check_size (length s) ≡ 0) (z : List ℕ) (e : length z ≡ 20) where
  front_lent : length (take (length s) z) ≡ length s
  front_lent = length-take-le (length s) z (omega (arith, few_values s size))

  module _ {after : List ℕ} {r : Array} (w : ToArray s (take (length s) z) r after) where
    -- the refusal is that of checks 1, 6 and 7
    pub array-refusal : r.refusal ≡ check_permutation s
    array-refusal = w.refusal ∙ rw (size, eq-eqb _ _ front_lent)

    -- where there is none, the array is read from there
    pub array-read : r.refusal ≡ 0 → IsArrayOf s (take (length s) (after ++ drop (length s) z))
    array-read passed = rw (take_at after (drop (length s) z) (length s) (w.written passed).array.size) (w.written passed)

-- elements alike without the first of them
pub drop-replicate {ℓ} : {A : Type ℓ} (a : A) (m n : ℕ) → n ≤ m → drop n (replicate m a) ≡ replicate (m - n) a
drop-replicate a m zero h = let e : m - 0 ≡ m = omega arith in rw e
drop-replicate a zero (suc n) h = absurd (omega arith)
drop-replicate a (suc m) (suc n) h = let e : suc m - suc n ≡ m - n = omega arith in rw e (drop-replicate a m n (omega arith))

-- what has an array is a permutation
of_array : {s a : List ℕ} → IsArrayOf s a → IsPermutation (length s) s
of_array {s} w = subst (IsPermutation (length s)) w.equal (product_permutation w.array)

-- what is read of a permutation of at most 20 values: its array in front of zeros, whose fixed entries are its cycles
module _ {s a : List ℕ} (w : IsArrayOf s a) where
  pub array_padded : length s ≤ 20 → a ++ drop (length s) (replicate 20 0) ≡ array_of (length s) s ++ replicate (20 - length s) 0
  array_padded h = rw (drop-replicate {A = ℕ} 0 20 (length s) h, is_array_of w (of_array w))

  pub fixed-cycles : {k : ℕ} → k ≡ fixed a → k ≡ cycles s
  unfolding fixed
  fixed-cycles e = e ∙ sym (cycles-product (rw w.array.size w.array)) ∙ ap cycles w.equal

-- what was read: the array of the permutation stands in front
module _ {s : List ℕ} {r : Entries} (w : HasEntries s (Ok r)) where
  is-permutation : (length s ≤ 20) × IsPermutation (length s) s
  is-permutation = permutation_passed s (sym w.refusal)

  pub entries-array : IsArrayOf s (take (length s) r.array)
  entries-array =
      let a = array_of_lem is-permutation.1 in
      rw (w.answer.array, take_at (array_of (length s) s) (replicate (20 - length s) 0) (length s) a.array.size) a

  pub entries-rankable : Rankable (take (length s) r.array) r.k
  entries-rankable =
      let a = entries-array in
      let size = a.array.size in
      record { small = omega (arith, size, is-permutation.0); array = rw size a.array; count = ap cycles a.equal ∙ sym w.answer.count }

  -- its place is that of the permutation
  pub stands : {place : ℕ} → PlaceIn false (length (take (length s) r.array)) r.k (product (take (length s) r.array)) place → StandsAt s r.k place
  stands p =
      let a = entries-array in
      record {
        count = w.answer.count;
        below = rw a.array.size at p.below;
        row = rw a.array.size at p.row ∙ a.equal;
      }
