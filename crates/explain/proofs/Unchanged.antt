-- Document 02's sentences on the sizes without a choice, which the definition of the rows has from the blocks: (b), and (a) at 1 and 2, give block 0 and 0 before; and
-- below these, and below (a) at 3, the reading passes down unchanged. Assumes nothing.
use mathlib.Core.Path.{◌≡◌, refl, ap, ◌∙◌}
use mathlib.Core.Logic.{◌⊎◌, inl, inr}
use Prim.Native.Nat.{ℕ, zero, suc, ◌≤◌, ◌<◌}
use native.Mathlib.Omega.{arith}
use mathlib.Core.Bool.{Bool, false}
use mathlib.Core.List.{List, [], ◌∷◌}
use lib.ListN.{length}
use Rattle.perm.specs.Array.{position}
use Rattle.gray.specs.declared.Block.{Block}
use Rattle.gray.specs.declared.Block.TheVariants.{Insert as I, Extend as E}
use Rattle.gray.specs.Order.{Row, odd, letter}
use Rattle.gray.specs.Blocks.{blocks_of_a, blocks_of, blocks, number_of}
use Rattle.gray.specs.Listing.{HasCycles}
use Rattle.gray.proofs.Indexed.{block}
use Rattle.gray.proofs.Which.{Which, is_none, is-a, is_b, is_c, is-d, is-e, which}
use Rattle.rank.specs.Search.{cycles_of, backward_of, turned, before, number_read}
use Rattle.rank.specs.Descent.{step, block_with, shorter, steps}
use Rattle.rank.proofs.Starts.{before-none, number_inside}
use Rattle.rank.proofs.Found.{found}
use Rattle.explain.specs.Levels.{letter_byte, level, lettered, levels}

-- a size without a choice: (b), or (a) at 1 and 2
abbrev pub NoChoice : ℕ → ℕ → Type 0
NoChoice n k = (k ≡ n) ⊎ ((k ≡ 1) × (n ≤ 2))

-- a list of blocks that is one, which reads its shorter list forward
record One (bs : List Block) : Type 0 where
  only : Block
  is : bs ≡ only ∷ []
  forward : backward_of only ≡ false

-- (a) at 1 and 2
one-a : (n : ℕ) → 1 ≤ n → n ≤ 2 → One (blocks_of_a n)
unfolding blocks_of_a odd
one-a zero h l = absurd (omega arith)
one-a (suc zero) h l = record { only = E 0; is = refl; forward = refl }
one-a (suc (suc zero)) h l = record { only = I 1 0; is = refl; forward = refl }
one-a (suc (suc (suc n))) h l = absurd (omega arith)

-- so is the list of blocks of a size without a choice
one_block : (n k : ℕ) → 1 ≤ n → NoChoice n k → Which n k → One (blocks n k)
unfolding blocks blocks_of odd
one_block n k h w (is_b e _ _) = rw e (record { only = E 0; is = refl; forward = refl })
one_block n k h (inl p) (is-a e q _) = rw e (one-a n h (omega arith))
one_block n k h (inr p) (is-a e q _) = rw e (one-a n h p.1)
one_block n k h (inl p) (is_none _ (inl q)) = absurd (omega arith)
one_block n k h (inl p) (is_none _ (inr q)) = absurd (omega arith)
one_block n k h (inr p) (is_none _ (inl q)) = absurd (omega arith)
one_block n k h (inr p) (is_none _ (inr q)) = absurd (omega arith)
one_block n k h (inl p) (is_c _ q l) = absurd (omega arith)
one_block n k h (inr p) (is_c _ q l) = absurd (omega arith)
one_block n k h (inl p) (is-d _ q l) = absurd (omega arith)
one_block n k h (inr p) (is-d _ q l) = absurd (omega arith)
one_block n k h (inl p) (is-e _ q l) = absurd (omega arith)
one_block n k h (inr p) (is-e _ q l) = absurd (omega arith)

-- the row of a size without a choice: block 0 and 0 before; and the reading passes down unchanged
pub no_choice : {m k : ℕ} {s : Row} (backward : Bool) → NoChoice (suc m) k → HasCycles (suc m) k s
    → levels (suc m) k backward s
    ≡ record { letter = letter_byte (letter (suc m) k); backward = backward; block = 0; before = 0 }
    ∷ levels m (cycles_of k (block_with (suc m) k (position (suc m) s))) backward (shorter m s)
unfolding steps lettered
no_choice {m} {k} {s} backward choice w =
    let n = suc m in
    let i = position n s in
    let one = one_block n k (omega arith) choice (which n k) in
    let number : number_of n k i ≡ 0 = omega (arith, (found w).0, ap length one.is) in
    let first : number_read n k backward (number_of n k i) ≡ 0 = omega (arith, number_inside n k backward (number_of n k i) (found w).0, ap length one.is) in
    let rows : before n k backward (number_read n k backward (number_of n k i)) ≡ 0 = ap (before n k backward) first ∙ before-none n k backward in
    let forward : backward_of (block_with n k i) ≡ false =
    ap (λ (j : ℕ). backward_of (block (blocks n k) j)) number ∙ ap (λ (bs : List Block). backward_of (block bs 0)) one.is ∙ one.forward in
    λ t. record { letter = letter_byte (letter n k); backward = backward; block = number t; before = rows t }
    ∷ levels m (cycles_of k (block_with n k i)) (turned backward (forward t)) (shorter m s)

-- each block of (a) at 3 reads its shorter list forward
forward_at_3 : (j : ℕ) → j < length (blocks 3 1) → backward_of (block (blocks 3 1) j) ≡ false
unfolding blocks blocks_of blocks_of_a letter odd
forward_at_3 zero h = refl
forward_at_3 (suc zero) h = refl
forward_at_3 (suc (suc j)) h = absurd (omega arith)

-- so the reading passes down unchanged there too
pub at_three : {s : Row} (backward : Bool) → HasCycles 3 1 s
    → levels 3 1 backward s ≡ level 3 (step 3 1 backward (position 3 s)) ∷ levels 2 (cycles_of 1 (block_with 3 1 (position 3 s))) backward (shorter 2 s)
unfolding steps lettered
at_three {s} backward w =
    let forward = forward_at_3 (number_of 3 1 (position 3 s)) (found w).0 in
    λ t. level 3 (step 3 1 backward (position 3 s)) ∷ levels 2 (cycles_of 1 (block_with 3 1 (position 3 s))) (turned backward (forward t)) (shorter 2 s)
