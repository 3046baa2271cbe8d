-- The rows of a permutation: as many as its values, and their last column adds up to its place. Assumes nothing.
use mathlib.Core.Path.{◌≡◌, refl, ap}
use Prim.Native.Nat.{ℕ, zero, suc}
use native.Mathlib.Omega.{arith}
use mathlib.Core.Bool.{Bool}
use lib.ListN.{length}
use Rattle.gray.specs.Order.{Row}
use Rattle.gray.specs.Listing.{HasCycles}
use Rattle.rank.specs.Ranking.{PlaceIn}
use Rattle.rank.specs.Descent.{shorter, steps}
use Rattle.rank.proofs.Found.{left, more_placed}
use Rattle.rank.proofs.Reading.{in_list, only-placed}
use Rattle.explain.specs.Levels.{lettered, levels, total}

-- one step for each size
pub length-steps : (n k : ℕ) (backward : Bool) (s : Row) → length (steps n k backward s) ≡ n
unfolding steps
length-steps zero k backward s = refl
length-steps (suc m) k backward s = ap suc (length-steps m _ _ (shorter m s))

-- and one row
pub length-levels : (n k : ℕ) (backward : Bool) (s : Row) → length (levels n k backward s) ≡ n
unfolding steps lettered
length-levels zero k backward s = refl
length-levels (suc m) k backward s = ap suc (length-levels m _ _ (shorter m s))

-- the last column adds up to the place
pub placed : (n k : ℕ) (backward : Bool) (s : Row) → HasCycles n k s → PlaceIn backward n k s (total (levels n k backward s))
unfolding steps lettered total
placed zero k backward s w = only-placed backward (omega (arith, (in_list w).1)) w
placed (suc m) k backward s w = more_placed backward w _ (placed m _ _ (shorter m s) (left w))
