-- `perm::write_array` meets its contract. The loop's invariant is `Left`: the first m of `out` are the permutation that is left, the others are entries;
-- and `Indexed`: the first m have their indices. The fixed points were counted as the permutation was copied. Assumes nothing.
use Rattle.perm.proofs.Steps.{Left, Indexed}
use Rattle.perm.proofs.write_array.Given as goal

abbrev pub invariant-loop-m : goal.invariant-loop-m
invariant-loop-m l = Left l.s l.out l.m × Indexed l.out l.index l.m
