-- The cycle of calls {rank_backward, rank_forward, rank_reading}. A reading's measure is 2n + 1 for an array of n entries, and that of what both readings do is 2n:
-- from one reading to the next, n falls.
use Prim.Native.Nat.{◌+◌, ◌*◌}
use lib.ListN.{length}
use Rattle.rank.proofs.+rank_backward_rank_forward_rank_reading.Given as goal

abbrev pub decreases-rank_backward : goal.decreases-rank_backward
decreases-rank_backward l = 2 * length l.a.now + 1

abbrev pub decreases-rank_forward : goal.decreases-rank_forward
decreases-rank_forward l = 2 * length l.a.now + 1

abbrev pub decreases-rank_reading : goal.decreases-rank_reading
decreases-rank_reading l = 2 * length l.a.now
