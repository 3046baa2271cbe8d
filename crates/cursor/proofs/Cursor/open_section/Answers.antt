-- `Cursor::open_section` meets its contract: a refused open hands back a walk of zeros. Assumes nothing.
use mathlib.Core.Path.{ap, ◌∙◌}
use Rattle.cursor.specs.Walk.{handed_back}
use Rattle.cursor.proofs.Zeros.{cursor_zeros}
use Rattle.cursor.proofs.Cursor.open_section.Goals as goal

pub returns : goal.returns
returns c = c.handed_back.ensures ∙ ap (λ w. handed_back w c.try_section.result) (cursor_zeros c.default.result c.default.ensures) ∙ c.try_section.ensures.step
