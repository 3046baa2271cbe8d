-- `rank::part_at` meets its contract: the search stops at the block that holds the place. Assumes nothing.
use Rattle.rank.proofs.Parts.{holds_place}
use Rattle.rank.proofs.part_at.Goals as goal

pub returns : goal.returns
returns c =
    holds_place c.requires.listed.0.small.0 c.search_place.ensures.stop c.search_place.ensures.place c.part_of.ensures
