-- `perm::check_twice` meets its contract. The loop's invariant is `Met`: the flags that are set are of the values among the first i, each counted once.
-- Assumes nothing.
use Rattle.perm.proofs.Search.{Met}
use Rattle.perm.proofs.check_twice.Given as goal

abbrev pub invariant-loop-value : goal.invariant-loop-value
invariant-loop-value l = Met l.s l.met l.value-index
