-- `inversion::write_table` meets its contract. The loop's invariant is `Written`: the first i entries are written. Assumes nothing.
use Rattle.inversion.proofs.Steps.{Written}
use Rattle.inversion.proofs.write_table.Given as goal

abbrev pub invariant-loop-i : goal.invariant-loop-i
invariant-loop-i l = Written l.q l.out l.i
