use mathlib.Core.Path.{◌≡◌, sym, ◌∙◌}
use Prim.Native.Nat.{◌+◌}
use native.Mathlib.Omega.{arith}
use lib.ListN.{get_or}
use Rattle.perm.proofs.Fixed.{fixed_none, fixed_here, fixed_other, fixed_all}
use Rattle.rank.proofs.fixed_entries.Goals.{else-from-i, then-from-i}
use Rattle.rank.proofs.fixed_entries.Goals as goal

pub loop-i-init : goal.loop-i-init
loop-i-init c = (omega arith, fixed_none _)

pub loop-i-preserved : goal.loop-i-preserved
loop-i-preserved c =
    let i = c.loop-i.i in
    let a = c.args.a.now in
    let entry = c.from.ensures in (
      omega arith,
      elim c.if-from-i.branch [ then-from-i w ↦ let here : get_or a i 0 ≡ i + 1 = sym entry ∙ w.if-from-i.true in rw w.fixed-is (fixed_here a here c.loop-i.invariant.1) | else-from-i w ↦ rw w.fixed-is (fixed_other a (λ e. w.if-from-i.false (entry ∙ e)) c.loop-i.invariant.1) ],
    )

pub returns : goal.returns
returns c = fixed_all _ (omega arith) c.loop-i.invariant.1
