-- The rows of a block of S(n,k), the running start of a block in either reading, and the search that goes on from block to block. Assumes nothing.
use mathlib.Core.Path.{◌≡◌, refl, sym, ap, ◌∙◌}
use Prim.Native.Nat.{ℕ, zero, suc, ◌+◌, ◌-◌, ◌≤◌, ◌<◌}
use native.Mathlib.Omega.{arith}
use mathlib.Core.Bool.{Bool, true, false, cond}
use mathlib.Core.List.{List, [], ◌∷◌, ◌++◌, map, reverse, reverse-cons}
use lib.Dec.{ltb}
use borrow.Table.Steps.{cases}
use borrow.Author.Tests.{ltb-true, ltb-false}
use lib.ListN.{length, take, length-append, length-map, length-reverse}
use lib.Seq.{take-suc, take_all}
use Rattle.stirling.specs.Count.{c}
use Rattle.perm.specs.Permutation.{extend, insert}
use Rattle.gray.specs.declared.Block.{Block}
use Rattle.gray.specs.declared.Block.TheVariants.{Insert as I, Extend as E}
use Rattle.gray.specs.Order.{Row, S, odd, reading, rows, joined}
use Rattle.gray.specs.Blocks.{blocks, position_of}
use Rattle.gray.specs.Listing.{row_at}
use Rattle.gray.proofs.Indexed.{block}
use Rattle.gray.proofs.InPlace.{InPlace}
use Rattle.gray.proofs.Joined.{S-blocks}
use Rattle.gray.proofs.Once.{length-S}
use Rattle.rank.specs.Search.{reading_of, grown, cycles_of, backward_of, size_of, sizes, blocks_read, before, number_read}
use Rattle.rank.proofs.Reversed.{get_d_reverse, row-size}
use Rattle.rank.proofs.Grown.{grown-insert, grown-extend}

-- a map at a place of the list
pub get_d_map : (f : Row → Row) (l : List Row) (r : ℕ) → r < length l → row_at (map f l) r ≡ f (row_at l r)
get_d_map f [] r h = absurd (omega arith)
get_d_map f (x ∷ l) zero h = refl
get_d_map f (x ∷ l) (suc r) h = get_d_map f l r (omega arith)

length-reading : (e : ℕ) (L : List Row) → length (reading e L) ≡ length L
unfolding reading
length-reading e L = by-parity (odd e)
  where
    by-parity : (b : Bool) → length (cond b (reverse L) L) ≡ length L
    by-parity true = length-reverse L
    by-parity false = refl

-- the rows of a block of S(n,k), and of some blocks
abbrev pub block_rows : ℕ → ℕ → Block → List Row
block_rows n k b = rows n (S (n - 1) k) (S (n - 1) (k - 1)) b

abbrev pub held : ℕ → ℕ → List Block → List Row
held n k bs = joined n (S (n - 1) k) (S (n - 1) (k - 1)) bs

-- a block has as many rows as the list that it is made from
pub length-block : (n k : ℕ) (b : Block) → length (block_rows n k b) ≡ size_of n k b
unfolding rows
length-block n k (I i e) = rw (length-map, length-reading, length-S)
length-block n k (E e) = rw (length-map, length-reading, length-S)

pub length-held : (n k : ℕ) (bs : List Block) → length (held n k bs) ≡ sizes n k bs
unfolding joined sizes
length-held n k [] = refl
length-held n k (b ∷ bs) = rw (length-append, length-block n k b, length-held n k bs)

-- the row of a block at a place is made from the row of that list
pub block_row : (n k : ℕ) (b : Block) (r : ℕ) → 1 ≤ n → InPlace n b → r < size_of n k b
    → row_at (block_rows n k b) r ≡ grown n (position_of n b) (row_at (reading_of (backward_of b) (n - 1) (cycles_of k b)) r)
unfolding rows reading
block_row n k (I i e) r h p l =
    get_d_map (insert n i) (reading e (S (n - 1) k)) r (rw (length-reading, length-S) l)
    ∙ grown-insert n _ (row-size (n - 1) k r (odd e) l) h i p.0 p.1
block_row n k (E e) r h p l =
    get_d_map (extend n) (reading e (S (n - 1) (k - 1))) r (rw (length-reading, length-S) l)
    ∙ grown-extend n _ (row-size (n - 1) (k - 1) r (odd e) l) h

pub in_range : (n : ℕ) (b : Block) → 1 ≤ n → InPlace n b → (1 ≤ position_of n b) × (position_of n b ≤ n)
in_range n (I i e) h p = omega arith
in_range n (E e) h p = omega arith

-- S(n,k) is the rows of its blocks
pub all_held : (n k : ℕ) → 1 ≤ n → S n k ≡ held n k (blocks n k)
all_held zero k h = absurd (omega arith)
all_held (suc n) k h = let e : suc n - 1 ≡ n = omega arith in rw e (S-blocks n k)

-- sizes of blocks after blocks, in reverse order, and of the first of some blocks
sizes-append : (n k : ℕ) (bs ds : List Block) → sizes n k (bs ++ ds) ≡ sizes n k bs + sizes n k ds
unfolding sizes
sizes-append n k [] ds = omega arith
sizes-append n k (b ∷ bs) ds = let e = sizes-append n k bs ds in omega arith

pub sizes-reverse : (n k : ℕ) (bs : List Block) → sizes n k (reverse bs) ≡ sizes n k bs
unfolding sizes
sizes-reverse n k [] = refl
sizes-reverse n k (b ∷ bs) = rw reverse-cons (sizes-append n k (reverse bs) (b ∷ []) ∙ rw (sizes-reverse n k bs) (omega arith))

sizes_mono : (n k : ℕ) (bs : List Block) (i j : ℕ) → i ≤ j → sizes n k (take i bs) ≤ sizes n k (take j bs)
unfolding sizes
sizes_mono n k bs zero j l = omega arith
sizes_mono n k bs (suc i) zero l = absurd (omega arith)
sizes_mono n k [] (suc i) (suc j) l = omega arith
sizes_mono n k (b ∷ bs) (suc i) (suc j) l = omega (arith, sizes_mono n k bs i j (omega arith))

sizes-take : (n k : ℕ) (bs : List Block) (j : ℕ) → sizes n k (take j bs) ≤ sizes n k bs
unfolding sizes
sizes-take n k bs zero = omega arith
sizes-take n k [] (suc j) = omega arith
sizes-take n k (b ∷ bs) (suc j) = omega (arith, sizes-take n k bs j)

-- in either reading
module _ (n k : ℕ) (backward : Bool) where
  pub length-read : length (blocks_read n k backward) ≡ length (blocks n k)
  length-read = by-reading backward
    where
      by-reading : (b : Bool) → length (blocks_read n k b) ≡ length (blocks n k)
      by-reading true = length-reverse (blocks n k)
      by-reading false = refl

  -- the sizes of all blocks add up to the rows of the list
  all-sizes : 1 ≤ n → sizes n k (blocks_read n k backward) ≡ c n k
  all-sizes h = by-reading backward ∙ sym (length-held n k (blocks n k)) ∙ ap length (sym (all_held n k h)) ∙ length-S n k
    where
      by-reading : (b : Bool) → sizes n k (blocks_read n k b) ≡ sizes n k (blocks n k)
      by-reading true = sizes-reverse n k (blocks n k)
      by-reading false = refl

  -- the start: nothing stands before the first block; going on to the next adds the size of one; and past the last stand all rows
  pub before-none : before n k backward 0 ≡ 0
  unfolding before sizes
  before-none = refl

  pub before-suc : (j : ℕ) → j < length (blocks n k) → before n k backward (suc j) ≡ before n k backward j + size_of n k (block (blocks_read n k backward) j)
  unfolding before sizes
  before-suc j l =
      let bs = blocks_read n k backward in
      let e : length bs ≡ length (blocks n k) = length-read in
      rw (take-suc bs j (E 0) (rw e l), sizes-append n k (take j bs) (block bs j ∷ [])) (omega arith)

  pub before-all : (j : ℕ) → 1 ≤ n → length (blocks n k) ≤ j → before n k backward j ≡ c n k
  unfolding before
  before-all j h l = rw (take_all j (blocks_read n k backward) (rw length-read l)) (all-sizes h)

  pub before-most : (j : ℕ) → 1 ≤ n → before n k backward j ≤ c n k
  unfolding before
  before-most j h = rw (← all-sizes h) (sizes-take n k (blocks_read n k backward) j)

  pub before-mono : (i j : ℕ) → i ≤ j → before n k backward i ≤ before n k backward j
  unfolding before
  before-mono = sizes_mono n k (blocks_read n k backward)

  -- where fewer rows than all stand before it, there is a block
  pub block-left : (j : ℕ) → 1 ≤ n → before n k backward j < c n k → j < length (blocks n k)
  block-left j h l = cases (ltb j (length (blocks n k))) (ltb-true j _) (λ t. absurd (omega (arith, before-all j h (ltb-false j _ t))))

  -- so some block holds each place
  holding : (place j : ℕ) → place < before n k backward j → (q : ℕ) × (q < j) × (before n k backward q ≤ place) × (place < before n k backward (suc q))
  holding place zero l = absurd (omega (arith, before-none))
  holding place (suc j) l =
      cases (ltb place (before n k backward j))
      (λ t. let (q, m, u, v) = holding place j (ltb-true place _ t) in (q, omega arith, u, v))
      (λ t. (j, omega arith, ltb-false place _ t, l))

  pub some_block : (place : ℕ) → 1 ≤ n → place < c n k
      → (q : ℕ) × (q < length (blocks n k)) × (before n k backward q ≤ place) × (place < before n k backward (suc q))
  some_block place h l = holding place (length (blocks n k)) (rw (before-all (length (blocks n k)) h (omega arith)) l)

-- the number of a block in a reading is that of a block, and leads back to its number in written order
pub number_inside : (n k : ℕ) (backward : Bool) (j : ℕ) → j < length (blocks n k) → number_read n k backward j < length (blocks n k)
number_inside n k true j l = omega arith
number_inside n k false j l = l

pub number_back : (n k : ℕ) (backward : Bool) (j : ℕ) → j < length (blocks n k) → number_read n k backward (number_read n k backward j) ≡ j
number_back n k true j l = omega arith
number_back n k false j l = refl

pub block_read : (n k : ℕ) (backward : Bool) (j : ℕ) → j < length (blocks n k)
    → block (blocks_read n k backward) j ≡ block (blocks n k) (number_read n k backward j)
block_read n k true j l = get_d_reverse (blocks n k) (E 0) j (length (blocks n k) - suc j) (omega arith)
block_read n k false j l = refl
