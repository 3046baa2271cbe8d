-- `tree::Table::unrank_from` meets its contract. The measure is the number of positions that remain, which falls by one from a subtree to the one below. Assumes nothing.
use Rattle.tree.proofs.Table.+unrank_from.Given as goal

abbrev pub decreases-unrank_from : goal.decreases-unrank_from
decreases-unrank_from l = l.branch.remaining
