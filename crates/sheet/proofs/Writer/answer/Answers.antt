-- `sheet::Writer::answer` meets its contract: the line of names and the lines of the rows are written one after the other. Assumes nothing.
use Rattle.sheet.specs.Sheet.{name_line, lines_of}
use Rattle.sheet.proofs.Writing.{both}
use Rattle.sheet.proofs.Writer.answer.Goals as goal

pub returns-in-Ok : goal.returns-in-Ok
returns-in-Ok c = rw c.in-Ok.is (both (name_line _) (lines_of _) c.name_line.ensures c.rows.ensures)
