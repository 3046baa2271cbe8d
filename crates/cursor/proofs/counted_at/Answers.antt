-- `cursor::counted_at` meets its contract: the row is the machine's, and its array and its fixed points are those of the row. Assumes nothing.
use mathlib.Core.Path.{◌≡◌, ap, ◌∙◌}
use lib.ListN.{take}
use Rattle.gray.specs.Order.{S}
use Rattle.gray.specs.Listing.{row_at}
use Rattle.cursor.specs.Machine.{observe}
use Rattle.stirling.proofs.Counts.{size_passes, place-passed}
use Rattle.cursor.proofs.Padding.{take-padded, row-placed}
use Rattle.cursor.proofs.counted_at.Goals.{After-row_at-perm}
use Rattle.cursor.proofs.counted_at.Goals as goal

-- the first n bytes that `row_at` gives are the row
first-bytes : (c : After-row_at-perm) → take c.args.w.n c.row_at-perm.result ≡ row_at (S c.args.w.n c.args.w.k) c.args.place
first-bytes c =
    let a = c.args in
    ap (take a.w.n) c.row_at-perm.ensures ∙ take-padded (row_at (S a.w.n a.w.k) a.place) (row-placed a.w.n a.w.k a.place c.requires).size

pub entries_of-fixed-requires : goal.entries_of-fixed-requires
entries_of-fixed-requires c =
    let a = c.args in
    let small = (place-passed a.w.n a.w.k a.place c.requires).0 in
    let on = row-placed a.w.n a.w.k a.place c.requires in
    rw (first-bytes (goal.at.entries_of-fixed-requires c).After-row_at-perm, on.size) (size_passes a.w.n small, on)

pub returns : goal.returns
unfolding observe
returns c =
    let a = c.args in
    let on = row-placed a.w.n a.w.k a.place c.requires in
    let made = rw (first-bytes (goal.at.returns c).After-row_at-perm, on.size) at c.entries_of-fixed.ensures in
    rw (made, c.row_at-perm.ensures)
