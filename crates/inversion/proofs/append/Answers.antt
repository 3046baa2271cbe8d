use native.Mathlib.Omega.{arith}
use mathlib.Core.Path.{refl, ap, ◌∙◌}
use Prim.Native.Nat.{◌+◌, ◌-◌}
use lib.ListN.{get_or}
use lib.Seq.{length-take-le}
use Rattle.perm.proofs.Steps.{entry_bound}
use Rattle.inversion.proofs.Appended.{raise}
use Rattle.inversion.proofs.Steps.{raised_at, raised_step, raised_all, raised_bound, appended_sequence}
use Rattle.inversion.proofs.append.Goals as goal

pub overflow_sub-v : goal.overflow_sub-v
overflow_sub-v c =
    let pre = c.requires in
    omega (arith, entry_bound pre.3 c.args.m pre.2)

pub raised-requires : goal.raised-requires
raised-requires c =
    let m = c.args.m in
    let entries = length-take-le m c.args.a.now (omega (arith, c.requires.2)) in
    let elements = length-take-le m c.args.out.now (omega (arith, c.requires.1, c.requires.2)) in
    omega (arith, c.requires.0, c.requires.2, raised_bound m c.loop-x.x-index entries (omega arith) c.requires.4 c.loop-x.invariant)

pub loop-x-preserved : goal.loop-x-preserved
loop-x-preserved c =
    let i = c.loop-x.x-index in
    raised_step i c.raised.result (omega arith) (c.raised.ensures ∙ ap (raise _) (raised_at i c.loop-x.invariant)) c.loop-x.invariant

pub returns : goal.returns
returns c =
    let m = c.args.m in
    let v = m + 2 - get_or c.args.a.now m 0 in
    rw (raised_all c.loop-x.x-index (omega arith) c.loop-x.invariant) (appended_sequence c.args.a.now c.args.out.now m v c.requires.3 c.requires.1 c.requires.2 refl c.requires.4)
