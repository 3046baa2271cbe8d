use mathlib.Core.Path.{ap, ◌∙◌}
use mathlib.Core.List.{◌∷◌}
use lib.ListN.{drop_of_length-le}
use Rattle.sheet.specs.Text.{SPACE, decimal}
use Rattle.sheet.specs.Sheet.{values}
use Rattle.sheet.proofs.Writing.{left_room, left_none}
use Rattle.sheet.proofs.Lines.{values-next, values_none}
use Rattle.sheet.proofs.Writer.values.Goals as goal

pub value-requires : goal.value-requires
value-requires c =
    left_room (SPACE ∷ decimal _) _ (values-next c.args.row.now c.loop-value.value-index c.loop-value-test.true) c.loop-value.invariant

pub returns : goal.returns
returns c =
    left_none
    (ap values (drop_of_length-le c.args.row.now c.loop-value-test.false) ∙ values_none)
    c.loop-value.invariant
