-- `cursor::entries_of` meets its contract: what `to_array` writes to the front of 20 zeros is the array, filled up, and what it reports is handed on. Assumes nothing.
use Prim.Native.Nat.{◌≤◌}
use lib.ListN.{length}
use Rattle.stirling.proofs.Counts.{size-passed}
use Rattle.cursor.proofs.Padding.{length_front, array_served, array_padded}
use Rattle.cursor.proofs.entries_of.Goals.{Start}
use Rattle.cursor.proofs.entries_of.Goals as goal

-- the permutation has at most 20 values
most : (c : Start) → length c.args.row.now ≤ 20
most c = size-passed (length c.args.row.now) c.requires.0

pub returns : goal.returns
returns c =
    let (array, fixed) = array_padded c.requires.0 c.requires.1 (length_front (most (goal.at.returns c).Start)) (rw c.unwrap-fixed.ensures at c.to_array.ensures) in
    λ i. record { array = array i; fixed = fixed i }

pub unwrap-fixed-requires : goal.unwrap-fixed-requires
unwrap-fixed-requires c = array_served c.to_array.result c.requires.0 c.requires.1 (length_front (most (goal.at.unwrap-fixed-requires c).Start)) c.to_array.ensures
