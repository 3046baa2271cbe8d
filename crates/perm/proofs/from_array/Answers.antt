-- `perm::from_array` meets its contract: a refused call writes nothing, and where no check refuses it is handed an array. Assumes nothing.
use mathlib.Core.Path.{sym}
use Rattle.perm.proofs.Checked.{checked_array}
use Rattle.perm.proofs.Refused.{lengths_passed}
use Rattle.perm.proofs.from_array.Goals as goal

pub write_product-requires : goal.write_product-requires
write_product-requires c =
    let known = lengths_passed _ _ (sym c.in_ok-check_lengths.ensures) in
    (known.0, known.1, checked_array _ (sym c.in_ok-check_entries.ensures))
