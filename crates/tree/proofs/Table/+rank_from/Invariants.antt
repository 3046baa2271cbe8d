-- `tree::Table::rank_from` meets its contract. The measure is the number of positions that remain, which falls by one from a subtree to the one below. Assumes nothing.
use Rattle.tree.proofs.Table.+rank_from.Given as goal

abbrev pub decreases-rank_from : goal.decreases-rank_from
decreases-rank_from l = l.branch.remaining
