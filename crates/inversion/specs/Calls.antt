-- Document 02, f): what the calls between inversion tables and sequences give, for every input. The checks are those of the calls between arrays and permutations.
-- These are definitions; nothing is assumed.
use Rattle.std.specs.Prelude.{◌≡◌, ℕ, List, length}
use Rattle.perm.specs.Checks.{check_from_array, check_to_array}
use Rattle.inversion.specs.Table.{IsTable, IsSequence}

-- table to sequence, from p into a slice that held `before` and then holds `after`, with the refusal r: checks 1, 5, 6
pub record FromInversions (p before : List ℕ) (r : ℕ) (after : List ℕ) : Type 0 where
  pub refusal : r ≡ check_from_array p (length before)
  pub written : r ≡ 0 → IsSequence p after
  pub kept : (r ≡ 0 → ⊥) → after ≡ before

-- sequence to table, from q into a slice that held `before` and then holds `after`, with the refusal r: checks 1, 5, 6, 7
pub record ToInversions (q before : List ℕ) (r : ℕ) (after : List ℕ) : Type 0 where
  pub refusal : r ≡ check_to_array q (length before)
  pub written : r ≡ 0 → IsTable q after
  pub kept : (r ≡ 0 → ⊥) → after ≡ before
