-- `find::below_at` meets its contract: the block says what stands below it. Assumes nothing.
use mathlib.Core.Path.{◌∙◌}
use Rattle.find.proofs.Searching.{below-is}
use Rattle.find.proofs.below_at.Goals as goal

pub returns : goal.returns
returns c = c.below_block.ensures ∙ below-is c.args.n c.args.k c.args.backward c.args.number c.requires c.number_read-block.ensures c.block_at.ensures
