-- `tree::Table::count` meets its contract: where n is not refused, the list of n has T(0,n) rows. Assumes nothing.
use native.Mathlib.Omega.{arith}
use mathlib.Core.Path.{◌≡◌, sym}
use lib.ListN.{length}
use Rattle.stirling.specs.Count.{check_size}
use Rattle.tree.specs.Kind.{listed}
use Rattle.tree.proofs.Places.{size-listed}
use Rattle.tree.proofs.Table.count.Goals as goal

pub returns : goal.returns
returns c =
    let kind = c.args.self.now.kind in
    let taken : check_size c.args.n ≡ 0 = sym c.in_ok-check_size.ensures in
    let rows : c.size.result ≡ length (listed kind c.args.n) = grind (arith, size-listed kind c.args.n) in
    rw (rows, taken)
