-- The blocks of S(n,k) as a reading of the list meets them, the running start of a block, and what the search for a block finds. Private contracts cite them,
-- those of two public functions (number_read, below_block), and the rows of document 02, b). These are definitions; nothing is assumed.
use Rattle.std.specs.Prelude.{◌≡◌, ℕ, suc, ◌+◌, ◌-◌, ◌≤◌, ◌<◌, Bool, not, cond, List, [], ◌∷◌, reverse, length, get_or, take, drop}
use Rattle.stirling.specs.Count.{c}
use Rattle.perm.specs.Permutation.{exchange, extend}
use Rattle.gray.specs.declared.Block.{Block}
use Rattle.gray.specs.declared.Block.TheVariants.{Insert as I, Extend as E}
use Rattle.gray.specs.Order.{Row, S, odd, rows}
use Rattle.gray.specs.Blocks.{blocks, position_of}
use Rattle.rank.specs.declared.Stop.{Stop}
use Rattle.rank.specs.declared.Sizes.{Sizes}
use Rattle.rank.specs.declared.Below.{Below}
use Rattle.rank.specs.declared.Part.{Part}

-- S(n,k) read forward or backward
abbrev pub reading_of : Bool → ℕ → ℕ → List Row
reading_of backward n k = cond backward (reverse (S n k)) (S n k)

-- γ with n added at position n, and then exchanged with the value at position i: I(i,γ) for i < n, and E(γ) for i = n
abbrev pub grown : ℕ → ℕ → Row → Row
grown n i γ = exchange i n (extend n γ)

-- the cycles of the shorter rows: L is S(n−1,k), and M is S(n−1,k−1)
abbrev pub cycles_of : ℕ → Block → ℕ
cycles_of k (I i e) = k
cycles_of k (E e) = k - 1

-- whether the block reads the shorter list backward: for odd e
abbrev pub backward_of : Block → Bool
backward_of (I i e) = odd e
backward_of (E e) = odd e

-- the reading below a block: turned where the block's own reading is odd, and else unchanged
abbrev pub turned : Bool → Bool → Bool
turned backward odd = cond odd (not backward) backward

-- the size of a block of S(n,k): it has as many rows as the list that it is made from
abbrev pub size_of : ℕ → ℕ → Block → ℕ
size_of n k b = c (n - 1) (cycles_of k b)

-- the sum of the sizes of some blocks
unfoldable pub sizes : ℕ → ℕ → List Block → ℕ
sizes n k [] = 0
sizes n k (b ∷ bs) = size_of n k b + sizes n k bs

-- the blocks of S(n,k) in the order in which a reading meets them: as written, or, read backward, in reverse order
abbrev pub blocks_read : ℕ → ℕ → Bool → List Block
blocks_read n k backward = cond backward (reverse (blocks n k)) (blocks n k)

-- the rows of a block of S(n,k) in a reading
abbrev pub rows_read : ℕ → ℕ → Bool → Block → List Row
rows_read n k backward b = cond backward (reverse (rows n (S (n - 1) k) (S (n - 1) (k - 1)) b)) (rows n (S (n - 1) k) (S (n - 1) (k - 1)) b)

-- document 02's *start* of a block: how many rows of S(n,k) stand before its j-th block, counted from 0, in the reading at hand; the sum of the sizes of the blocks
-- before the j-th of that reading
unfoldable pub before : ℕ → ℕ → Bool → ℕ → ℕ
before n k backward j = sizes n k (take j (blocks_read n k backward))

-- the number of block j of S(n,k), in written order the j-th from 0, where the blocks are counted as a reading meets them; and from there the number in written order
abbrev pub number_read : ℕ → ℕ → Bool → ℕ → ℕ
number_read n k backward j = cond backward (length (blocks n k) - suc j) j

-- of the blocks of S(n,k), counted as a reading meets them, the one at index x extends, and the others insert
pub record ExtendsAt (n k : ℕ) (backward : Bool) (x : ℕ) : Type 0 where
  pub extends : (j : ℕ) → j < length (blocks n k) → j ≡ x → cycles_of k (get_or (blocks_read n k backward) j (E 0)) ≡ k - 1
  pub inserts : (j : ℕ) → j < length (blocks n k) → (j ≡ x → ⊥) → cycles_of k (get_or (blocks_read n k backward) j (E 0)) ≡ k

-- S(n,k) is a list of the table that is not empty, for at least one value
pub record Listed (n k : ℕ) : Type 0 where
  pub small : (1 ≤ n) × (n ≤ 20)
  pub cycles : (1 ≤ k) × (k ≤ n)

-- the sizes of the blocks of S(n,k), counted as a reading meets them
pub record AreSizes (n k : ℕ) (backward : Bool) (s : Sizes) : Type 0 where
  pub inserted : s.inserted ≡ c (n - 1) k
  pub extended : s.extended ≡ c (n - 1) (k - 1)
  pub extension : ExtendsAt n k backward s.extension

-- a block at which a search stops: its start is what stands before it in that reading, and one addition was made for each block passed
pub record IsStop (n k : ℕ) (backward : Bool) (f : Stop) : Type 0 where
  pub inside : f.number < length (blocks n k)
  pub start : f.start ≡ before n k backward f.number
  pub additions : f.additions ≡ f.number

-- what stands below a block of S(n,k) in a reading: the position at which its rows have value n, and the list that it is made from, with the reading of that list
abbrev pub below_block : ℕ → ℕ → Bool → Block → Below
below_block n k backward b = record { position = position_of n b; cycles = cycles_of k b; backward = turned backward (backward_of b) }

-- the part of a reading of S(n,k) that block j makes, in written order the j-th from 0: its start, and what stands below it
abbrev pub part_of : ℕ → ℕ → Bool → ℕ → Part
part_of n k backward j = record {
  block = j;
  start = before n k backward (number_read n k backward j);
  additions = number_read n k backward j;
  below = below_block n k backward (get_or (blocks n k) j (E 0));
}

-- the part that holds the row at a place
pub record HoldsPlace (n k : ℕ) (backward : Bool) (place : ℕ) (p : Part) : Type 0 where
  pub number : ℕ
  pub inside : number < length (blocks n k)
  pub part : p ≡ part_of n k backward number
  pub from : p.start ≤ place
  pub below : place < p.start + c (n - 1) p.below.cycles

-- what a reading of S(n,k) at a place asks for: the counts at hand, a place, and a slice of n or more
pub record Readable (n k place size : ℕ) : Type 0 where
  pub small : n ≤ 20
  pub below : place < c n k
  pub lent : n ≤ size

-- a row of n stands in front of a slice that held `before` and then holds `after`, and the bytes behind it stay
pub record InFront (n : ℕ) (row : Row) (before after : List ℕ) : Type 0 where
  pub front : take n after ≡ row
  pub kept : drop n after ≡ drop n before
