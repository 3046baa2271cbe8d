use Prim.Native.Nat.{◌+◌}
use native.Mathlib.Omega.{arith}
use mathlib.Core.Path.{◌≡◌, sym, ap, ◌∙◌}
use mathlib.Core.Bool.{Bool}
use borrow.Author.Tests.{eq-eqb, ne_eqb}
use Rattle.perm.specs.Lists.{one}
use Rattle.find.proofs.Links.{closing_step, closing_ends}
use Rattle.find.proofs.Pattern.closed.Goals.{else-from-m, then-from-m}
use Rattle.find.proofs.Pattern.closed.Goals as goal

pub loop-m-preserved : goal.loop-m-preserved
loop-m-preserved c =
    rw (c.from-in-loop-m.ensures, c.from-in-loop-m-2.ensures)
    (closing_step c.loop-m.m (omega arith) c.loop-m.invariant
    (elim c.if-from-m.branch [ then-from-m w ↦ w.count-is ∙ ap (λ (t : Bool). c.loop-m.count + one t) (sym (eq-eqb _ c.loop-m.m (rw c.from.ensures at w.if-from-m.true))) | else-from-m w ↦ w.count-is ∙ omega (arith, ap one (ne_eqb _ c.loop-m.m (rw c.from.ensures at w.if-from-m.false))) ]))

pub returns : goal.returns
returns c =
    let e : c.loop-m.m ≡ 0 = omega arith in
    closing_ends (rw e at c.loop-m.invariant)
