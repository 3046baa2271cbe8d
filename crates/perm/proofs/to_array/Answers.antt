-- `perm::to_array` meets its contract: a refused call writes nothing and reports 0, and where no check refuses it is handed a permutation. Assumes nothing.
use mathlib.Core.Path.{sym}
use Rattle.perm.proofs.Refused.{lengths_passed, contents_passed}
use Rattle.perm.proofs.to_array.Goals as goal

pub write_array-requires : goal.write_array-requires
write_array-requires c =
    let known = lengths_passed _ _ (sym c.in_ok-check_lengths.ensures) in
    (known.0, known.1, contents_passed _ (sym c.in_ok-check_contents.ensures))
