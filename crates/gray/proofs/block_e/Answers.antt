-- `gray::block_e` meets its contract: the runs of (e) stand at the indices 1 to n−k−1 and n−k+1 to n−1, and E between them. Assumes nothing.
use mathlib.Core.Path.{◌≡◌, sym, ◌∙◌}
use Prim.Native.Nat.{ℕ, suc, ◌+◌, ◌-◌, ◌≤◌, ◌<◌}
use native.Mathlib.Omega.{arith}
use mathlib.Core.List.{List, ◌∷◌}
use lib.ListN.{get_or-eq_default}
use Rattle.gray.specs.declared.Block.{Block}
use Rattle.gray.specs.declared.Block.TheVariants.{Insert as I, Extend as E}
use Rattle.gray.specs.Order.{falling, blocks_e}
use Rattle.gray.proofs.Indexed.{block, length-falling, block-falling, falling-at, falling-past}
use Rattle.gray.proofs.block_e.Goals as goal

-- the second run
abbrev lower : ℕ → List Block
lower k = falling (λ i. I i (i - 1)) k (suc k - 2)

module _ (n k j : ℕ) (h : (2 ≤ k) × (k + 3 ≤ n)) where
  in-run : 1 ≤ j → j < n - k → block (blocks_e n k) j ≡ I (n - j) (n - j)
  in-run l m = falling-at (I 1 0) (λ i. I i i) (n - 1) (suc (n - 1) - (k + 1)) (E k ∷ lower k) j (n - j) l (omega arith) (omega arith)

  past-run : (i : ℕ) → j ≡ n - k + i → block (blocks_e n k) j ≡ block (E k ∷ lower k) i
  past-run i e = falling-past (I 1 0) (λ i. I i i) (n - 1) (suc (n - 1) - (k + 1)) (E k ∷ lower k) j i (omega arith)

  in-lower : n - k < j → j < n → block (blocks_e n k) j ≡ I (n - j + 1) (n - j)
  in-lower l m =
      let i = j - (n - k + 1) in
      let e : n - j + 1 - 1 ≡ n - j = omega arith in
      past-run (suc i) (omega arith) ∙ block-falling (λ i. I i (i - 1)) k (suc k - 2) i (n - j + 1) (omega arith) (omega arith) ∙ rw e

  past-lower : n ≤ j → block (blocks_e n k) j ≡ E 0
  past-lower l =
      let i = j - (n - k + 1) in
      past-run (suc i) (omega arith) ∙ get_or-eq_default (lower k) (E 0) {n = i} (rw length-falling (omega arith))

pub returns-in_default : goal.returns-in_default
returns-in_default c = sym (in-run _ c.args.k _ c.requires (omega arith) c.if-j-n.true)

pub returns-in_default-2 : goal.returns-in_default-2
returns-in_default-2 c = sym (past-run c.args.n _ c.args.j c.requires 0 (omega arith))

pub returns-in_default-3 : goal.returns-in_default-3
returns-in_default-3 c = sym (in-lower c.args.n c.args.k c.args.j c.requires (omega arith) c.if-j-n-3.true)

pub returns-in_default-4 : goal.returns-in_default-4
returns-in_default-4 c = sym (past-lower _ c.args.k c.args.j c.requires c.if-j-n-3.false)
