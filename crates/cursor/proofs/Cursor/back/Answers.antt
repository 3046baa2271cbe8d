-- `Cursor::back` meets its contract: it is the step back. (`forward` is proved without a file, and so would this be; written out, it says of a back that goes
-- forward what is wrong with it.) Assumes nothing.
use mathlib.Core.Path.{◌∙◌}
use Rattle.cursor.proofs.Cursor.back.Goals as goal

pub returns : goal.returns
returns c = c.handed_back.ensures ∙ c.try_step.ensures
