-- `tree::Kind::check_rank` meets its contract: check 15 or 16 is made where the checks before it pass, and so of a permutation. Assumes nothing.
use mathlib.Core.Path.{sym}
use Rattle.perm.proofs.Refused.{permutation_passed}
use Rattle.tree.proofs.Kind.check_rank.Goals as goal

pub check-requires : goal.check-requires
check-requires c = permutation_passed _ (sym c.in_ok-check_permutation.ensures)
