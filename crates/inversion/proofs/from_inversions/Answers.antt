-- `inversion::from_inversions` meets its contract: where no check refuses it is handed a table. Assumes nothing.
use mathlib.Core.Path.{sym}
use Rattle.perm.proofs.Checked.{checked_array}
use Rattle.perm.proofs.Refused.{lengths_passed}
use Rattle.inversion.proofs.from_inversions.Goals as goal

pub write_sequence-requires : goal.write_sequence-requires
write_sequence-requires c =
    let known = lengths_passed _ _ (sym c.in_ok-check_lengths.ensures) in
    (known.0, known.1, checked_array _ (sym c.in_ok-check_entries.ensures))
