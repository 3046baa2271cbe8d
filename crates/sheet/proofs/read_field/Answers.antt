-- `sheet::read_field` meets its contract: the digits that are taken and the byte after them decide whether there is a number of the grammar, by the laws of
-- the reader. Assumes nothing.
use native.Mathlib.Omega.{arith}
use mathlib.Core.Path.{ap}
use lib.ListN.{length, length-take}
use Rattle.sheet.specs.Asked.{leading}
use Rattle.sheet.proofs.Reading.{each_first}
use Rattle.sheet.proofs.read_field.Goals as goal

pub is_number-requires : goal.is_number-requires
is_number-requires c = omega (arith, ap length c.first_digits-digits.ensures, length-take 19 (leading c.args.text.now))

pub value_of-requires-clause-each : goal.value_of-requires-clause-each
value_of-requires-clause-each c = rw c.first_digits-digits.ensures (each_first c.args.text.now)
