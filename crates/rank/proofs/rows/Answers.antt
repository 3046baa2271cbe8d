-- `rank::rows` meets its contract: a refused call leaves the buffer as it was, and otherwise the part from o on comes back with m rows at its front.
-- Assumes nothing.
use mathlib.Core.Path.{sym}
use Rattle.rank.proofs.RowChecks.{rows_passes}
use Rattle.rank.proofs.RowBytes.{rows-put}
use Rattle.rank.proofs.rows.Goals as goal

pub returns : goal.returns
returns c =
    let a = c.args in
    rows-put a.n a.k a.place a.m a.o a.buf.now _
    (rows_passes a.n a.k a.place a.m a.o _ (sym c.in_ok-check_row_count_in.ensures) c.in_ok-check_room.ensures)
    c.write_rows.ensures
