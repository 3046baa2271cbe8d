-- `rank::part_of` meets its contract: the block says what stands below it. Assumes nothing.
use Rattle.rank.proofs.Parts.{part_of_lem}
use Rattle.rank.proofs.part_of.Goals as goal

pub returns : goal.returns
returns c =
    part_of_lem c.requires.1 c.number_read-block.ensures c.block_at.ensures c.below_block.ensures
