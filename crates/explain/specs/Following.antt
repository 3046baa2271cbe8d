-- Document 02, b): what it means to follow rows downward from n and k. It uses the rows alone: their letters, their blocks' numbers and their readings. These are
-- definitions; nothing is assumed.
use Rattle.std.specs.Prelude.{◌≡◌, ℕ, zero, suc, ◌<◌, Bool, List, [], ◌∷◌, length, get_or}
use Rattle.perm.specs.Permutation.{extend, insert}
use Rattle.gray.specs.declared.Block.{Block}
use Rattle.gray.specs.declared.Block.TheVariants.{Insert as I, Extend as E}
use Rattle.gray.specs.declared.Letter.{Letter}
use Rattle.gray.specs.Order.{Row}
use Rattle.gray.specs.Blocks.{blocks_of}
use Rattle.rank.specs.Search.{cycles_of, backward_of, turned}
use Rattle.explain.specs.declared.Level.{Level}
use Rattle.explain.specs.Levels.{letter_byte}

-- a row names block b for the list of n and k: it is the block with the row's number, in written order, of the relation with the row's letter; and the list is read as
-- the row says
pub record Names (n k : ℕ) (backward : Bool) (row : Level) (b : Block) : Type 0 where
  pub relation : Letter
  pub letter : row.letter ≡ letter_byte relation
  pub inside : row.block < length (blocks_of relation n k)
  pub block : get_or (blocks_of relation n k) row.block (E 0) ≡ b
  pub reading : row.backward ≡ backward

-- what a block makes of a permutation γ of n−1: document 01's I(i,γ) or E(γ)
abbrev pub made : ℕ → Block → Row → Row
made n (I i e) γ = insert n i γ
made n (E e) γ = extend n γ

-- followed downward from m and k, with the list read forward or backward, the rows lead to t: the first row names a block, the rows after it lead to some γ from m−1,
-- the cycles and the reading that the block hands down, and t is what the block makes of γ. From 0 and no cycles, with no row left, they lead to the permutation of
-- nothing
unfoldable pub Leads : ℕ → ℕ → Bool → List Level → Row → Type 0
Leads zero k backward [] t = (k ≡ 0) × (t ≡ [])
Leads zero k backward (row ∷ rows) t = ⊥
Leads (suc m) k backward [] t = ⊥
Leads (suc m) k backward (row ∷ rows) t =
    (b : Block) × (γ : Row) × Names (suc m) k backward row b
    × Leads m (cycles_of k b) (turned backward (backward_of b)) rows γ
    × (t ≡ made (suc m) b γ)
