-- The cycle of calls {unrank_backward, unrank_forward, unrank_reading}. A reading's measure is 2n + 1, and that of what both readings do is 2n: from one reading
-- to the next, n falls.
use Prim.Native.Nat.{◌+◌, ◌*◌}
use Rattle.rank.proofs.+unrank_backward_unrank_forward_unrank_reading.Given as goal

abbrev pub decreases-unrank_backward : goal.decreases-unrank_backward
decreases-unrank_backward l = 2 * l.n + 1

abbrev pub decreases-unrank_forward : goal.decreases-unrank_forward
decreases-unrank_forward l = 2 * l.n + 1

abbrev pub decreases-unrank_reading : goal.decreases-unrank_reading
decreases-unrank_reading l = 2 * l.n
