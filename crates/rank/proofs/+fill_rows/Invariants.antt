-- `rank::fill_rows` calls itself with n falling. The loop's invariant: the running start is that of the block at hand and not past the next row, and the rows before
-- that one are written. The loop's measure is the number of blocks and of rows left.
use Prim.Native.Nat.{◌+◌, ◌-◌, ◌≤◌, ◌<◌}
use mathlib.Core.Path.{◌≡◌}
use lib.ListN.{length}
use Rattle.gray.specs.Blocks.{blocks}
use Rattle.rank.specs.Spacing.{rows_apart}
use Rattle.rank.proofs.Going.{Going}
use Rattle.rank.proofs.RowBytes.{rows_of}
use Rattle.rank.proofs.+fill_rows.Given as goal

abbrev pub decreases-fill_rows : goal.decreases-fill_rows
decreases-fill_rows l = l.n

abbrev pub invariant-loop-stop : goal.invariant-loop-stop
invariant-loop-stop l =
    (l.done < l.count) × Going l.n l.k l.backward l.stop × (l.stop.start ≤ l.place + l.done) × (length l.out ≡ length l.initial.out)
    × (l.out ≡ rows_apart l.apart (rows_of l.backward l.n l.k l.place l.done) l.initial.out)

abbrev pub decreases-loop-stop : goal.decreases-loop-stop
decreases-loop-stop l = (length (blocks l.n l.k) - l.stop.number) + (l.count - l.done)
