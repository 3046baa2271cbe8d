-- The code's table passes the test of the recurrence, which antt computes over all of its entries, and so holds the counts.
use Rattle.stirling.proofs.Rule.{is_table}
use Rattle.stirling.proofs.table.Goals as goal

pub returns : goal.returns
returns c = is_table _ tt
