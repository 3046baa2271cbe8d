-- `gray::block_c` meets its contract: for n ≥ 4 the run of (c) stands at the indices 2 to n−3, and two blocks after it. Assumes nothing.
use borrow.Author.Tests.{ne_eqb}
use mathlib.Core.Path.{◌≡◌, sym}
use Prim.Native.Nat.{ℕ, suc, ◌+◌, ◌-◌, ◌≤◌, ◌<◌}
use native.Mathlib.Omega.{arith}
use mathlib.Core.Bool.{Bool, false, cond}
use mathlib.Core.List.{List, [], ◌∷◌}
use lib.Dec.{eqb}
use Rattle.gray.specs.declared.Block.{Block}
use Rattle.gray.specs.declared.Block.TheVariants.{Insert as I, Extend as E}
use Rattle.gray.specs.Order.{blocks_c3, blocks_c}
use Rattle.gray.proofs.Indexed.{block, falling-at, falling-past}
use Rattle.gray.proofs.block_c.Goals as goal

next : {j : ℕ} (n : ℕ) → 3 ≤ n → j ≡ n - 1 → j ≡ n - 2 + 1
next n h e = omega arith

-- the blocks of (c), by the test whether n is 3
abbrev blocks_of_c : Bool → ℕ → List Block
blocks_of_c three? n = cond three? blocks_c3 (blocks_c n)

module _ (n j : ℕ) (h : 3 ≤ n) (g : n ≡ 3 → ⊥) where
  long : blocks_of_c (eqb n 3) n ≡ blocks_c n
  long = let t : eqb n 3 ≡ false = ne_eqb n 3 (omega arith) in rw t

  in-run : (i : ℕ) → j ≡ suc i → 1 ≤ i → j < n - 2 → block (blocks_c n) j ≡ I (n - 1 - j) 0
  in-run i e l m =
      rw e
      (falling-at (I (n - 1) 0) (λ i. I i 0) (n - 3) (suc (n - 3) - 2) (I (n - 2) 0 ∷ E 1 ∷ []) i (n - 1 - suc i) l (omega arith) (omega arith))

  past-run : (i : ℕ) → j ≡ n - 2 + i → block (blocks_c n) j ≡ block (I (n - 2) 0 ∷ E 1 ∷ []) i
  past-run i e =
      let q : j ≡ suc (n - 3 + i) = omega arith in
      rw q (falling-past (I (n - 1) 0) (λ i. I i 0) (n - 3) (suc (n - 3) - 2) (I (n - 2) 0 ∷ E 1 ∷ []) (n - 3 + i) i (omega arith))

  past : n - 2 ≤ j → (j ≡ n - 2 → ⊥) → (j ≡ n - 1 → ⊥) → block (blocks_c n) j ≡ E 0
  past l p q =
      let m : n - 1 ≤ j = omega arith in
      past-run (suc (suc (j - n))) (omega arith)

pub returns-in_default-2 : goal.returns-in_default-2
returns-in_default-2 c =
    let g = c.if-n-eq3.false in
    sym (rw (long c.args.n c.args.j c.requires g) (in-run c.args.n c.args.j c.requires g (c.args.j - 1) (omega arith) (omega arith) c.if-j-n.true))

pub returns-in_default-3 : goal.returns-in_default-3
returns-in_default-3 c =
    let g = c.if-n-eq3.false in
    sym (rw (long c.args.n c.args.j c.requires g) (past-run c.args.n c.args.j c.requires g 0 (omega arith)))

pub returns-in_default-4 : goal.returns-in_default-4
returns-in_default-4 c =
    let g = c.if-n-eq3.false in
    sym (rw (long c.args.n c.args.j c.requires g) (past-run c.args.n c.args.j c.requires g 1 (next _ c.requires c.if-j-n-3.true)))

pub returns-in_default-5 : goal.returns-in_default-5
returns-in_default-5 c =
    let g = c.if-n-eq3.false in
    sym (rw (long c.args.n c.args.j c.requires g) (past c.args.n c.args.j c.requires g c.if-j-n.false c.if-j-n-2.false c.if-j-n-3.false))
