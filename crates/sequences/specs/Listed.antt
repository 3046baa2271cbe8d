-- Document 02, f): the list of the sequences made from the arrays of a list of permutations. These are definitions; nothing is assumed.
use Rattle.std.specs.Prelude.{◌≡◌, ℕ, ◌<◌, List, length}
use Rattle.perm.specs.Permutation.{IsPermutation}
use Rattle.perm.specs.Array.{IsArrayOf}
use Rattle.gray.specs.Order.{Row}
use Rattle.gray.specs.Listing.{row_at}
use Rattle.inversion.specs.Table.{IsSequence, record_lows}

-- the list of sequences made from the arrays of a list of permutations, row by row: at each place stands a sequence of the inversion table that is the array of the row there
pub record Made (rows sequences : List Row) : Type 0 where
  pub size : length sequences ≡ length rows
  pub row : (place : ℕ) → place < length rows → (p : List ℕ) → IsArrayOf (row_at rows place) p → IsSequence p (row_at sequences place)

-- a sequence of n with exactly k record lows
pub record HasLows (n k : ℕ) (q : Row) : Type 0 where
  pub permutation : IsPermutation n q
  pub count : record_lows q ≡ k

-- every sequence of n with exactly k record lows exactly once, and nothing else: each stands at a place, at one place only, and each place has one
pub record CompleteLows (n k : ℕ) (sequences : List Row) : Type 0 where
  pub sound : (place : ℕ) → place < length sequences → HasLows n k (row_at sequences place)
  pub place : (q : Row) → HasLows n k q → (r : ℕ) × (r < length sequences) × (row_at sequences r ≡ q)
  pub only : (r s : ℕ) → r < length sequences → s < length sequences → row_at sequences r ≡ row_at sequences s → r ≡ s
