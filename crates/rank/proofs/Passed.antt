-- How many additions find a permutation: one for each block passed, at each size m fewer than m, and so n×(n−1)÷2 in all are enough. Assumes nothing.
use mathlib.Core.Path.{◌≡◌}
use Prim.Native.Nat.{ℕ, zero, suc, ◌+◌, ◌-◌, ◌*◌, ◌≤◌}
use native.Mathlib.Nat.{mul-suc, suc-mul, mul-le-mul}
use native.Mathlib.Omega.{arith}
use mathlib.Core.Bool.{Bool}
use Rattle.perm.specs.Array.{position}
use Rattle.gray.specs.Order.{Row}
use Rattle.gray.specs.Blocks.{number_of}
use Rattle.gray.specs.Listing.{HasCycles}
use Rattle.gray.proofs.InPlace.{few_blocks}
use Rattle.rank.specs.Search.{cycles_of, backward_of, turned}
use Rattle.rank.specs.Descent.{block_with, shorter, passed}
use Rattle.rank.proofs.Starts.{number_inside}
use Rattle.rank.proofs.Found.{found, left}

-- n×(n−1) from n−1 to n
grows : (m : ℕ) → suc m * (suc m - 1) ≡ m * (m - 1) + 2 * m
grows zero = omega arith
grows (suc p) =
    let e : suc (suc p) - 1 ≡ suc p = omega arith in
    let f : suc p - 1 ≡ p = omega arith in
    rw (e, f) (omega (arith, suc-mul (suc p) (suc p), mul-suc (suc p) p))

-- the blocks passed along a permutation
pub enough : (n k : ℕ) (backward : Bool) (s : Row) → HasCycles n k s → 2 * passed n k backward s ≤ n * (n - 1)
unfolding passed
enough zero k backward s w = omega arith
enough (suc m) k backward s w =
    let j = number_of (suc m) k (position (suc m) s) in
    let here = number_inside (suc m) k backward j (found w).0 in
    let rest = enough m
    (cycles_of k (block_with (suc m) k (position (suc m) s)))
    (turned backward (backward_of (block_with (suc m) k (position (suc m) s))))
    (shorter m s)
    (left w) in
    omega (arith, here, rest, few_blocks (suc m) k, grows m)

-- for n up to 20 they are at most 190
pub few_additions : (n a : ℕ) → n ≤ 20 → 2 * a ≤ n * (n - 1) → a ≤ 190
few_additions n a h l = let m : n - 1 ≤ 19 = omega arith in omega (arith, mul-le-mul h m)
