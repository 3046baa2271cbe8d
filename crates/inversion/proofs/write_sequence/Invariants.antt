-- `inversion::write_sequence` meets its contract. The loop's invariant is `Made`: the sequence of the first m entries is made. Assumes nothing.
use Rattle.inversion.proofs.Steps.{Made}
use Rattle.inversion.proofs.write_sequence.Given as goal

abbrev pub invariant-loop-m : goal.invariant-loop-m
invariant-loop-m l = Made l.a l.out l.m
