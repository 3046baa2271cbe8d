use mathlib.Core.Path.{refl}
use Prim.Native.Nat.{◌+◌, ◌*◌, ◌≤◌, ◌<◌}
use native.Mathlib.Nat.{suc-mul}
use native.Mathlib.Omega.{arith}
use lib.ListN.{length}
use borrow.Author.Rules.{rules}
use Rattle.rank.specs.Spacing.{spaced}
use Rattle.rank.proofs.RowBytes.{next_row}
use Rattle.rank.proofs.Spaced.{put_more}
use Rattle.rank.proofs.put_apart.Goals.{At-loop-row}
use Rattle.rank.proofs.put_apart.Goals as goal

-- the bytes of the row at hand
room : (l : At-loop-row) → l.loop-row.row < l.args.count
    → l.loop-row.row * l.args.apart + l.args.apart ≤ length l.args.out.now
room l h = omega (arith, next_row l.loop-row.row l.args.count l.args.apart h)

pub loop-row-init : goal.loop-row-init
unfolding spaced
loop-row-init c = search rules

pub loop-row-preserved : goal.loop-row-preserved
loop-row-preserved c =
    let a = c.args in
    (search rules, put_more a.n a.i a.apart c.loop-row.row _ a.out.now c.loop-row.out _ (omega (arith, room (goal.at.loop-row-preserved c).At-loop-row (omega arith), suc-mul c.loop-row.row a.apart)) refl c.loop-row.invariant.0 c.loop-row.invariant.1 c.put_in.ensures)
