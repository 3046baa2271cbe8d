-- A permutation followed down through the lists, size by size: document 02, b), without the letters, which crate `explain` puts to them. These are definitions;
-- nothing is assumed.
use Rattle.std.specs.Prelude.{◌≡◌, ℕ, zero, suc, ◌+◌, ◌-◌, ◌*◌, ◌≤◌, Bool, false, List, [], ◌∷◌, ◌++◌, length, get_or, take, replicate, Result, IfOk}
use Rattle.stirling.specs.Refusal.{refusal_in}
use Rattle.stirling.specs.declared.Refusal.{Refusal}
use Rattle.perm.specs.Permutation.{exchange}
use Rattle.perm.specs.Cycle.{cycles}
use Rattle.perm.specs.Array.{position}
use Rattle.perm.specs.Checks.{check_permutation}
use Rattle.gray.specs.declared.Block.{Block}
use Rattle.gray.specs.declared.Block.TheVariants.{Extend as E}
use Rattle.gray.specs.Order.{Row}
use Rattle.gray.specs.Blocks.{blocks, number_of}
use Rattle.rank.specs.declared.Step.{Step}
use Rattle.rank.specs.declared.Descent.{Descent}
use Rattle.rank.specs.Search.{cycles_of, backward_of, turned, before, number_read}

-- where a permutation that has value n at position i stands in S(n,k), read forward or backward: in the block that puts n there
abbrev pub step : ℕ → ℕ → Bool → ℕ → Step
step n k backward i = record { cycles = k; backward = backward; block = number_of n k i; before = before n k backward (number_read n k backward (number_of n k i)) }

-- the block that puts value n at position i
abbrev pub block_with : ℕ → ℕ → ℕ → Block
block_with n k i = get_or (blocks n k) (number_of n k i) (E 0)

-- a permutation of m + 1 without value m + 1, which is exchanged to the last position and taken away
abbrev pub shorter : ℕ → Row → Row
shorter m s = take m (exchange (position (suc m) s) (suc m) s)

-- the steps for sizes m down to 1, along a permutation s of m with k cycles: the block is the one that puts m where s has it, and below it stands s without m
unfoldable pub steps : ℕ → ℕ → Bool → Row → List Step
steps zero k backward s = []
steps (suc m) k backward s =
    step (suc m) k backward (position (suc m) s)
    ∷ steps m
    (cycles_of k (block_with (suc m) k (position (suc m) s)))
    (turned backward (backward_of (block_with (suc m) k (position (suc m) s))))
    (shorter m s)

-- how many blocks stand before those of the steps, in the reading at hand: going on past each is one addition
unfoldable pub passed : ℕ → ℕ → Bool → Row → ℕ
passed zero k backward s = 0
passed (suc m) k backward s =
    number_read (suc m) k backward (number_of (suc m) k (position (suc m) s))
    + passed m
    (cycles_of k (block_with (suc m) k (position (suc m) s)))
    (turned backward (backward_of (block_with (suc m) k (position (suc m) s))))
    (shorter m s)

-- the additions that find s in a reading of S(n,k), in all: one for each block passed, and document 02's n×(n−1)÷2 are enough
pub record Additions (n k : ℕ) (backward : Bool) (s : Row) (additions : ℕ) : Type 0 where
  pub counted : additions ≡ passed n k backward s
  pub enough : 2 * additions ≤ n * (n - 1)

-- a step of zeros
abbrev pub still : Step
still = record { cycles = 0; backward = false; block = 0; before = 0 }

-- the steps of a permutation of n, in front of steps of zeros: from n and its number of cycles down, read forward at n
pub record AreSteps (s : List ℕ) (d : Descent) : Type 0 where
  pub count : d.k ≡ cycles s
  pub path : d.steps ≡ steps (length s) (cycles s) false s ++ replicate (20 - length s) still

-- they are had where checks 1, 6, 7 pass
pub record Descends (s : List ℕ) (r : Result Descent Refusal) : Type 0 where
  pub refusal : refusal_in r ≡ check_permutation s
  pub answer : IfOk r (AreSteps s)
