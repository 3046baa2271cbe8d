-- `tree::unrank` meets its contract: a refused call writes nothing, and where no check refuses the row is written. Assumes nothing.
use Prim.Native.Nat.{◌<◌}
use native.Mathlib.Omega.{arith}
use lib.ListN.{length}
use Rattle.tree.specs.Sizes.{size}
use mathlib.Core.Path.{sym}
use Rattle.tree.proofs.Checked.{unrank_passed}
use Rattle.tree.proofs.unrank.Goals as goal

pub write_row-requires : goal.write_row-requires
write_row-requires c =
    let kind = c.of-table.ensures in
    let (fits, inside, long) = unrank_passed c.args.kind c.args.n c.args.place _ (rw kind at (sym c.in_ok-check_unrank.ensures)) in
    let below : c.args.place < size c.args.kind 0 (length c.args.out.now) = rw long inside in
    -- by arithmetic, so that what is asked of place 0 is had too, and a row at another place is refused for the row
    rw kind (rw long fits, omega (arith, below))
