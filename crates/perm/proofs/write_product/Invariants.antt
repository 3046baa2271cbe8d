-- `perm::write_product` meets its contract. The loop's invariant is `Made`: the first m of `out` are the product of the first m entries. Assumes nothing.
use Rattle.perm.proofs.Steps.{Made}
use Rattle.perm.proofs.write_product.Given as goal

abbrev pub invariant-loop-m : goal.invariant-loop-m
invariant-loop-m l = Made l.a l.out l.m
