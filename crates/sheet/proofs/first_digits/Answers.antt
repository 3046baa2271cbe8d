-- `sheet::first_digits` meets its contract: the digits among the first 19 bytes are the first 19 digits. Assumes nothing.
use mathlib.Core.Path.{ap, ◌∙◌}
use lib.ListN.{take}
use Rattle.sheet.proofs.Reading.{first_leading}
use Rattle.sheet.proofs.first_digits.Goals as goal

pub returns : goal.returns
returns c = ap (λ n. take n c.args.text.now) c.count_digits.ensures ∙ first_leading 19 c.args.text.now
