-- `gray::block_d` meets its contract: the run of (d) stands at the indices 1 to n−3, and two blocks after it. Assumes nothing.
use mathlib.Core.Path.{◌≡◌, refl, sym, ◌∙◌}
use Prim.Native.Nat.{ℕ, zero, suc, ◌+◌, ◌-◌, ◌≤◌, ◌<◌}
use native.Mathlib.Omega.{arith}
use mathlib.Core.List.{[], ◌∷◌}
use Rattle.gray.specs.declared.Block.TheVariants.{Insert as I, Extend as E}
use Rattle.gray.specs.Order.{blocks_d}
use Rattle.gray.proofs.Indexed.{block, rising-at, rising-past}
use Rattle.gray.proofs.block_d.Goals as goal

-- past the run stands one insertion, at the second index
last : (i : ℕ) → (i ≡ 1 → ⊥) → block (E 0 ∷ I 2 1 ∷ []) i ≡ E 0
last zero h = refl
last (suc zero) h = absurd (h refl)
last (suc (suc i)) h = refl

module _ (n j : ℕ) (h : 4 ≤ n) where
  in-run : 1 ≤ j → j < n - 2 → block (blocks_d n) j ≡ I (j + 2) (j + 2)
  in-run l m = rising-at (I 1 0) (λ i. I i i) 3 (suc (n - 1) - 3) (E 0 ∷ I 2 1 ∷ []) j (j + 2) l (omega arith) (omega arith)

  past-run : (i : ℕ) → j ≡ n - 2 + i → block (blocks_d n) j ≡ block (E 0 ∷ I 2 1 ∷ []) i
  past-run i e = rising-past (I 1 0) (λ i. I i i) 3 (suc (n - 1) - 3) (E 0 ∷ I 2 1 ∷ []) j i (omega arith)

  extends : n - 2 ≤ j → (j ≡ n - 1 → ⊥) → block (blocks_d n) j ≡ E 0
  extends l g = past-run (j - (n - 2)) (omega arith) ∙ last (j - (n - 2)) (λ e. g (omega arith))

pub returns-in_default : goal.returns-in_default
returns-in_default c = sym (in-run _ _ c.requires (omega arith) c.if-j-n.true)

pub returns-in_default-2 : goal.returns-in_default-2
returns-in_default-2 c = sym (past-run c.args.n c.args.j c.requires 1 (omega arith))

pub returns-in_default-3 : goal.returns-in_default-3
returns-in_default-3 c = sym (extends c.args.n c.args.j c.requires (omega arith) c.if-j-n-2.false)
