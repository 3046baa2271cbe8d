-- How a permutation's place is found from its transposition array: its last entry names a block of S(n,k), and the entries before it a row of the
-- shorter list that the block is made from. Only private contracts cite them. These are definitions; nothing is assumed.
use Rattle.std.specs.Prelude.{◌≡◌, ℕ, ◌-◌, ◌≤◌, ◌<◌, Bool, cond, List, ◌++◌, eqb, length, replicate, Result, IfOk}
use Rattle.stirling.specs.Refusal.{refusal_in}
use Rattle.stirling.specs.declared.Refusal.{Refusal}
use Rattle.stirling.specs.Count.{c}
use Rattle.perm.specs.Permutation.{fixed}
use Rattle.perm.specs.Cycle.{cycles}
use Rattle.perm.specs.Array.{IsArray, product, array_of}
use Rattle.perm.specs.Checks.{check_permutation}
use Rattle.gray.specs.Order.{Row}
use Rattle.gray.specs.Blocks.{blocks, number_of}
use Rattle.gray.specs.Listing.{row_at}
use Rattle.rank.specs.Search.{reading_of, Listed}
use Rattle.rank.specs.declared.Entries.{Entries}

-- the cycles without value n, where n stands at position i of a permutation with k: at position n it is a cycle of its own
abbrev pub cycles_left : ℕ → ℕ → ℕ → ℕ
cycles_left n k i = cond (eqb i n) (k - 1) k

-- some block of S(n,k) puts value n at position i
pub record Occurs (n k i : ℕ) : Type 0 where
  pub listed : Listed n k
  pub inside : number_of n k i < length (blocks n k)

-- the array of a permutation that is read, followed by zeros to 20 bytes; and its number of cycles and of fixed points
pub record AreEntries (s : List ℕ) (r : Entries) : Type 0 where
  pub array : r.array ≡ array_of (length s) s ++ replicate (20 - length s) 0
  pub count : r.k ≡ cycles s
  pub number : r.fixed ≡ fixed s

-- they are had where checks 1, 6, 7 pass
pub record HasEntries (s : List ℕ) (r : Result Entries Refusal) : Type 0 where
  pub refusal : refusal_in r ≡ check_permutation s
  pub answer : IfOk r (AreEntries s)

-- a transposition array of at most 20 entries, whose permutation has k cycles
pub record Rankable (a : List ℕ) (k : ℕ) : Type 0 where
  pub small : length a ≤ 20
  pub array : IsArray (length a) a
  pub count : cycles (product a) ≡ k

-- s stands at a place of S(n,k), read forward or backward
pub record PlaceIn (backward : Bool) (n k : ℕ) (s : Row) (place : ℕ) : Type 0 where
  pub below : place < c n k
  pub row : row_at (reading_of backward n k) place ≡ s
