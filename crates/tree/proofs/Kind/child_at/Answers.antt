use Prim.Native.Nat.{◌+◌, ◌-◌}
use native.Mathlib.Omega.{arith}
use mathlib.Core.Path.{◌≡◌}
use Rattle.tree.proofs.Steps.{Passed, passed_none, passed_child, passed_other}
use Rattle.tree.proofs.Kind.child_at.Goals.{Joined-is_usable, else-is_usable, then-is_usable+else-rest-size}
use Rattle.tree.proofs.Kind.child_at.Goals as goal

-- position l is passed too
passed : (c : Joined-is_usable) → Passed c.args.self c.args.s.now c.args.size c.args.place (c.loop-l.l + 1) c.if-is_usable.rest
passed c =
    let here = c.is_usable.ensures in
    let before = c.loop-l.invariant.1 in
    elim c.if-is_usable.branch [ then-is_usable+else-rest-size w ↦ rw w.rest-is (passed_child (rw (← here) w.if-is_usable.true) w.if-rest-size.false before) | else-is_usable w ↦ rw w.rest-is (passed_other (rw (← here) w.if-is_usable.false) before) ]

pub loop-l-init : goal.loop-l-init
loop-l-init c = (omega arith, passed_none _ _ _ _)

pub loop-l-preserved : goal.loop-l-preserved
loop-l-preserved c = (omega arith, passed (goal.at.loop-l-preserved c).Joined-is_usable)

pub returns-then-rest-size : goal.returns-then-rest-size
returns-then-rest-size c =
    let before = c.loop-l.invariant.1 in
    record { least = before.least; most = omega arith; allowed = rw (← c.is_usable.ensures) c.if-is_usable.true; inside = c.if-rest-size.true; sum = before.sum }

-- at the end all are passed
pub returns : goal.returns
returns c = let all : c.loop-l.l - 1 ≡ c.args.h = omega arith in rw all at c.loop-l.invariant.1.sum

pub returns-after-is_usable : goal.returns-after-is_usable
returns-after-is_usable c =
    let all : c.loop-l.l + 1 - 1 ≡ c.args.h = omega arith in
    rw all at (passed (goal.at.returns-after-is_usable c).Joined-is_usable).sum
