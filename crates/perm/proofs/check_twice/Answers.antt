use Prim.Native.Nat.{◌≤◌}
use native.Mathlib.Omega.{arith}
use mathlib.Core.Path.{sym}
use lib.ListN.{length}
use Rattle.perm.proofs.Search.{values-passed, met-twice, met-step, met_all}
use Rattle.perm.proofs.check_twice.Goals.{After-from-v}
use Rattle.perm.proofs.check_twice.Goals as goal

-- the value that is read is 1 to n
value : (c : After-from-v) → (1 ≤ c.from-v.result) × (c.from-v.result ≤ length c.args.s.now)
value c =
    rw c.from-v.ensures (values-passed c.args.s.now c.requires.1 c.loop-value.value-index (omega arith))

pub bounds-met-v : goal.bounds-met-v
bounds-met-v c = omega (arith, value c, c.requires.0)

pub returns-then-met-v : goal.returns-then-met-v
returns-then-met-v c =
    let v = value (goal.at.returns-then-met-v c).After-from-v in
    sym (met-twice c.loop-value.invariant _ (omega arith) c.from-v.ensures (omega (arith, c.requires.0)) v.0 v.1 c.if-met-v.true)

pub bounds-met-v-in-loop-value : goal.bounds-met-v-in-loop-value
bounds-met-v-in-loop-value c = omega (arith, value (goal.at.bounds-met-v-in-loop-value c).After-from-v, c.requires.0)

pub loop-value-preserved : goal.loop-value-preserved
loop-value-preserved c =
    met-step c.loop-value.invariant _ (omega arith) c.from-v.ensures (omega (arith, value (goal.at.loop-value-preserved c).After-from-v, c.requires.0)) c.if-met-v.false

pub returns : goal.returns
returns c = sym (met_all c.loop-value.invariant c.requires.0 (omega arith))
