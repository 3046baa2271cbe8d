-- `sheet::Writer::values` meets its contract. The loop's invariant: the values from the next on are left to write. Assumes nothing.
use lib.ListN.{drop}
use Rattle.sheet.specs.Sheet.{values}
use Rattle.sheet.proofs.Writing.{Left}
use Rattle.sheet.proofs.Writer.values.Given as goal

abbrev pub invariant-loop-value : goal.invariant-loop-value
invariant-loop-value l = Left l.initial.self (values l.row) l.self (values (drop l.value-index l.row))
