-- `tree::rank` meets its contract: where no check refuses, the slice is a permutation of the kind. Assumes nothing.
use mathlib.Core.Path.{sym}
use Rattle.tree.proofs.Checked.{rank_passed}
use Rattle.tree.proofs.rank.Goals as goal

pub place_of-requires : goal.place_of-requires
place_of-requires c = rw c.of.ensures (rank_passed c.args.kind _ (sym c.in_ok-check_rank.ensures))
