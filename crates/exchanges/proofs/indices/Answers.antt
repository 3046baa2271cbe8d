use native.Mathlib.Omega.{arith}
use Rattle.perm.proofs.Steps.{value_bound, indexed_step}
use Rattle.exchanges.proofs.indices.Goals as goal

pub bounds-index-from : goal.bounds-index-from
bounds-index-from c =
    omega (arith, c.requires.0, value_bound c.requires.1 c.loop-i.i (omega arith), c.from.ensures, c.loop-i.invariant.size)

pub loop-i-preserved : goal.loop-i-preserved
loop-i-preserved c =
    indexed_step c.loop-i.i c.from.result c.requires.0 c.requires.1 (omega arith) c.from.ensures c.loop-i.invariant
