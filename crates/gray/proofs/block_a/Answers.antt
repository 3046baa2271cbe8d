-- `gray::block_a` meets its contract: for n ≥ 5 the run of (a) stands at the indices 1 to n−4, and two blocks after it. Assumes nothing.
use mathlib.Core.Path.{◌≡◌, sym}
use Prim.Native.Nat.{ℕ, suc, ◌+◌, ◌-◌, ◌≤◌, ◌<◌}
use native.Mathlib.Omega.{arith}
use mathlib.Core.List.{[], ◌∷◌}
use Rattle.gray.specs.declared.Block.TheVariants.{Insert as I, Extend as E}
use Rattle.gray.specs.Blocks.{blocks_of_a}
use Rattle.gray.proofs.Indexed.{block, falling-at, falling-past, first-a, long_a}
use Rattle.gray.proofs.block_a.Goals as goal

module _ (n j : ℕ) (h : 5 ≤ n) where
  in-run : 1 ≤ j → j < n - 3 → block (blocks_of_a n) j ≡ I (n - j) (n - j + 1)
  in-run l m =
      rw (long_a n h)
      (falling-at (I 1 0) (λ i. I i (i + 1)) (n - 1) (suc (n - 1) - 4) (I 2 0 ∷ I 3 1 ∷ []) j (n - j) l (omega arith) (omega arith))

  past-run : (i : ℕ) → j ≡ n - 3 + i → block (blocks_of_a n) j ≡ block (I 2 0 ∷ I 3 1 ∷ []) i
  past-run i e = rw (long_a n h) (falling-past (I 1 0) (λ i. I i (i + 1)) (n - 1) (suc (n - 1) - 4) (I 2 0 ∷ I 3 1 ∷ []) j i (omega arith))

  past : n - 1 ≤ j → block (blocks_of_a n) j ≡ E 0
  past l = past-run (suc (suc (j - (n - 1)))) (omega arith)

pub returns-in-0 : goal.returns-in-0
returns-in-0 c = sym (first-a c.args.n c.args.j (omega arith) c.in-0.is)

pub returns-in_default : goal.returns-in_default
returns-in_default c = sym (in-run _ _ c.if-n-lt5.false (omega arith) c.if-j-n.true)

pub returns-in_default-2 : goal.returns-in_default-2
returns-in_default-2 c =
    sym (past-run c.args.n c.args.j c.if-n-lt5.false 0 (omega arith))

pub returns-in_default-3 : goal.returns-in_default-3
returns-in_default-3 c =
    sym (past-run c.args.n c.args.j c.if-n-lt5.false 1 (omega arith))

pub returns-in_default-4 : goal.returns-in_default-4
returns-in_default-4 c =
    sym (past c.args.n c.args.j c.if-n-lt5.false (omega arith))
