use native.Mathlib.Omega.{arith}
use Prim.Native.Nat.{◌+◌}
use lib.ListN.{set}
use Rattle.find.proofs.Noting.{Seen, seen_none, noted-before, note-free, note-value, all_seen}
use Rattle.find.proofs.Pattern.by_value.Goals.{Joined-value-eq0, then-value-eq0, else-value-eq0+else-positions-value-ne0}
use Rattle.find.proofs.Pattern.by_value.Goals as goal

pub loop-i-init : goal.loop-i-init
loop-i-init c = (omega arith, seen_none _ _ c.args.self.small)

pub returns-then-positions-value-ne0 : goal.returns-then-positions-value-ne0
returns-then-positions-value-ne0 c =
    noted-before c.args.self.small (omega arith) (omega arith) (omega arith) c.loop-i.invariant.1
    (rw c.from-value.ensures at c.if-value-eq0.false)
    (rw c.from-value.ensures at c.if-value-self.false)
    (rw c.from-value.ensures at c.if-positions-value-ne0.true)

-- with one position more
next : (c : Joined-value-eq0) → let a = c.args.self in Seen a.size a.values (c.loop-i.i + 1) c.if-value-eq0.free (set c.loop-i.positions c.from-value.result c.loop-i.i)
next c =
    elim c.if-value-eq0.branch [
      | then-value-eq0 w ↦ rw (w.free-is, c.from-value.ensures) (note-free c.args.self.small (omega arith) (omega arith) (omega arith) c.loop-i.invariant.1 (rw c.from-value.ensures at w.if-value-eq0.true))
      | else-value-eq0+else-positions-value-ne0 w ↦
          rw (w.free-is, c.from-value.ensures)
          (note-value c.args.self.small (omega arith) (omega arith) (omega arith) c.loop-i.invariant.1 (rw c.from-value.ensures at w.if-value-eq0.false)
          (rw c.from-value.ensures at c.if-value-self.false)
          (rw c.from-value.ensures at w.if-positions-value-ne0.false))
    ]

pub loop-i-preserved : goal.loop-i-preserved
loop-i-preserved c = (omega arith, next (goal.at.loop-i-preserved c).Joined-value-eq0)

pub returns : goal.returns
returns c = all_seen (omega arith) c.loop-i.invariant.1

pub returns-after-value-eq0 : goal.returns-after-value-eq0
returns-after-value-eq0 c = all_seen (omega arith) (next (goal.at.returns-after-value-eq0 c).Joined-value-eq0)
