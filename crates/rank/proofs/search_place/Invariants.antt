-- `rank::search_place` meets its contract. The loop's invariant: the running start is what stands before the block at hand in the reading, by one addition for each block
-- passed, and the place is not behind. The measure is the number of blocks left. Assumes nothing.
use Prim.Native.Nat.{◌-◌, ◌≤◌}
use lib.ListN.{length}
use Rattle.gray.specs.Blocks.{blocks}
use Rattle.rank.proofs.Going.{Going}
use Rattle.rank.proofs.search_place.Given as goal

abbrev pub invariant-loop-stop : goal.invariant-loop-stop
invariant-loop-stop l = Going l.n l.k l.backward l.stop × (l.stop.start ≤ l.place)

abbrev pub decreases-loop-stop : goal.decreases-loop-stop
decreases-loop-stop l = length (blocks l.n l.k) - l.stop.number
