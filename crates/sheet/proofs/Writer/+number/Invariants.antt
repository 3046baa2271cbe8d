-- `sheet::Writer::number` calls itself on the tenth part: the measure is the number.
use Rattle.sheet.proofs.Writer.+number.Given as goal

abbrev pub decreases-number : goal.decreases-number
decreases-number l = l.x
