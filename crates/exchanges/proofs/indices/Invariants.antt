-- `exchanges::indices` meets its contract. The loop's invariant is `Indexed`: the first i values have their indices. Assumes nothing.
use Rattle.perm.proofs.Steps.{Indexed}
use Rattle.exchanges.proofs.indices.Given as goal

abbrev pub invariant-loop-i : goal.invariant-loop-i
invariant-loop-i l = Indexed l.s l.index l.i
