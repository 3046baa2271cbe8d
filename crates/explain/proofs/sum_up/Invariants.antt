-- `explain::sum_up` meets its contract. The loop's invariant: the rows of the first i steps are there and added up. Assumes nothing.
use lib.ListN.{length}
use Rattle.explain.proofs.Summing.{Upto}
use Rattle.explain.proofs.sum_up.Given as goal

abbrev pub invariant-loop-i : goal.invariant-loop-i
invariant-loop-i l = Upto (length l.steps) l.steps l.rows l.place l.i
