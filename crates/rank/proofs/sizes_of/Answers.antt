-- `rank::sizes_of` meets its contract: the counts are those of the table. Assumes nothing.
use mathlib.Core.Path.{◌≡◌}
use Prim.Native.Nat.{◌+◌, ◌-◌, ◌*◌, ◌<◌}
use native.Mathlib.Omega.{arith}
use lib.ListN.{length, get_or}
use Rattle.stirling.specs.Count.{c}
use Rattle.stirling.proofs.Entries.{side_by_side}
use Rattle.rank.proofs.sizes_of.Goals.{Start}
use Rattle.rank.proofs.sizes_of.Goals as goal

-- both counts stand in the table
counts : (s : Start)
    → let at = (s.args.n - 1) * 21 + s.args.k in
    (at < length s.args.table.counts.now) × (get_or s.args.table.counts.now at 0 ≡ c (s.args.n - 1) s.args.k)
    × (get_or s.args.table.counts.now (at - 1) 0 ≡ c (s.args.n - 1) (s.args.k - 1))
counts s = let w = s.requires.listed in side_by_side s.args.table.holds s.args.n s.args.k w.small.0 w.small.1 w.cycles.0 w.cycles.1

pub bounds-table-at : goal.bounds-table-at
bounds-table-at c = (counts (goal.at.bounds-table-at c).Start).0

pub bounds-table-at-2 : goal.bounds-table-at-2
bounds-table-at-2 c = let w = counts (goal.at.bounds-table-at-2 c).Start in omega (arith, w.0)
