-- `rank::below_block` meets its contract: a reading is backward where its number is odd, and turned where the two differ. Assumes nothing.
use Rattle.rank.proofs.Parity.{odd_rem}
use Rattle.rank.proofs.Parts.{differs}
use Rattle.rank.proofs.below_block.Goals.{in-Insert, in-Extend}
use Rattle.rank.proofs.below_block.Goals as goal

pub returns : goal.returns
returns c =
    elim c.match-block.branch [
      | in-Insert w ↦ rw (w.position-is, w.in-Insert.is, odd_rem, differs)
      | in-Extend w ↦ rw (w.position-is, w.saturating_sub.ensures, w.in-Extend.is, odd_rem, differs)
    ]
