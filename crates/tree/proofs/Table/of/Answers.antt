-- `tree::Table::of` meets its contract: each of the code's tables passes the test of its kind's recurrence, which antt computes over all of its entries, and so holds the sizes.
-- Assumes nothing.
use Rattle.tree.proofs.Sizes.{is_table}
use Rattle.tree.proofs.Table.of.Goals.{in-Involution, in-Bell}
use Rattle.tree.proofs.Table.of.Goals as goal

pub invariant_of-result : goal.invariant_of-result
invariant_of-result c = elim c.match-kind.branch [
  | in-Involution w ↦ rw w.result-is (record { holds_sizes = is_table _ _ tt })
  | in-Bell w ↦ rw w.result-is (record { holds_sizes = is_table _ _ tt })
]
