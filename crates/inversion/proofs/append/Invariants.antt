-- `inversion::append` meets its contract. The loop's invariant is `Raised`: the elements so far are raised, the others are as they were. Assumes nothing.
use Rattle.inversion.proofs.Steps.{Raised}
use Rattle.inversion.proofs.append.Given as goal

abbrev pub invariant-loop-x : goal.invariant-loop-x
invariant-loop-x l = Raised l.v l.initial.x-items l.x-items l.x-index
