-- What is counted in some blocks, block by block. Assumes nothing.
use mathlib.Core.Path.{◌≡◌}
use Prim.Native.Nat.{ℕ, ◌+◌}
use native.Mathlib.Omega.{arith}
use mathlib.Core.List.{List, [], ◌∷◌, ◌++◌}
use Rattle.gray.specs.declared.Block.{Block}
use Rattle.gray.specs.declared.Block.TheVariants.{Insert as I, Extend as E}

-- what a block adds to a count, where f i is counted in I(i,L) and e in E(M)
unfoldable pub weight : (ℕ → ℕ) → ℕ → Block → ℕ
weight f e (I i _) = f i
weight f e (E _) = e

unfoldable pub total : (ℕ → ℕ) → ℕ → List Block → ℕ
total f e [] = 0
total f e (b ∷ bs) = weight f e b + total f e bs

-- blocks after blocks
pub total-append : (f : ℕ → ℕ) (e : ℕ) (bs ds : List Block) → total f e (bs ++ ds) ≡ total f e bs + total f e ds
unfolding total
total-append f e [] ds = omega arith
total-append f e (b ∷ bs) ds = omega (arith, total-append f e bs ds)
