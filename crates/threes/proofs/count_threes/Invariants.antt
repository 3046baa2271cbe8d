-- `threes::count_threes` is safe: the count stays below the place, so that one more fits. Assumes nothing.
use Rattle.std.proofs.Common.{◌<◌}
use Rattle.threes.proofs.count_threes.Given as goal

abbrev pub invariant-loop-place : goal.invariant-loop-place
invariant-loop-place g l = l.threes < l._place
