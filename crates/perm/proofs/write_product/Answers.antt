use Prim.Native.Nat.{suc, ◌≤◌}
use native.Mathlib.Omega.{arith}
use lib.ListN.{length-set}
use Rattle.perm.proofs.Steps.{entry_bound, made_none, made-step}
use Rattle.perm.proofs.write_product.Goals.{After-from-i}
use Rattle.perm.proofs.write_product.Goals as goal

-- the entry that is read is 1 to m + 1
entry : (c : After-from-i) → (1 ≤ c.from-i.result) × (c.from-i.result ≤ suc c.loop-m.m)
entry c =
    rw c.from-i.ensures (entry_bound c.requires.2 c.loop-m.m (omega arith))

pub loop-m-init : goal.loop-m-init
loop-m-init c = made_none c.requires.1

pub overflow_sub-i : goal.overflow_sub-i
overflow_sub-i c = omega (arith, entry c)

pub bounds-out-i : goal.bounds-out-i
bounds-out-i c = omega (arith, entry (goal.at.bounds-out-i c).After-from-i)

pub bounds-out-i-in-loop-m : goal.bounds-out-i-in-loop-m
bounds-out-i-in-loop-m c = simp length-set (omega (arith, entry (goal.at.bounds-out-i-in-loop-m c).After-from-i))

pub loop-m-preserved : goal.loop-m-preserved
loop-m-preserved c =
    made-step c.loop-m.m c.from-i.result c.requires.2 (omega arith) c.from-i.ensures c.loop-m.invariant
