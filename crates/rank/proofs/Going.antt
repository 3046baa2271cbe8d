-- The search for a block: it goes on from block to block, and its running start is what stands before the block at hand. Assumes nothing.
use mathlib.Core.Path.{◌≡◌, sym, ap, ◌∙◌}
use Prim.Native.Nat.{ℕ, suc, ◌+◌, ◌-◌, ◌≤◌, ◌<◌, ◌^◌}
use native.Mathlib.Numerals.{add-one}
use native.Mathlib.Omega.{arith}
use mathlib.Core.Bool.{Bool, cond}
use lib.Dec.{eqb}
use borrow.Table.Steps.{cases}
use borrow.Author.Tests.{eqb-true, eqb-false}
use lib.ListN.{length}
use Rattle.stirling.specs.Count.{c}
use Rattle.stirling.proofs.Counts.{fits}
use Rattle.gray.specs.Blocks.{blocks}
use Rattle.gray.proofs.Indexed.{block}
use Rattle.gray.proofs.InPlace.{few_blocks}
use Rattle.rank.specs.declared.Stop.{Stop}
use Rattle.rank.specs.declared.Sizes.{Sizes}
use Rattle.rank.specs.Search.{size_of, blocks_read, before, Listed, AreSizes, IsStop}
use Rattle.rank.proofs.Starts.{before-none, before-suc, before-most, block-left}

-- the size of the block at hand: that of one that extends
pub extended_is : {n k : ℕ} {backward : Bool} {s : Sizes} → AreSizes n k backward s → {j : ℕ} → j < length (blocks n k) → j ≡ s.extension
    → s.extended ≡ size_of n k (block (blocks_read n k backward) j)
extended_is {n} w {j} l e = w.extended ∙ ap (c (n - 1)) (sym (w.extension.extends j l e))

-- and of any
pub size_is : {n k : ℕ} {backward : Bool} {s : Sizes} → AreSizes n k backward s → {j : ℕ} → j < length (blocks n k)
    → cond (eqb j s.extension) s.extended s.inserted ≡ size_of n k (block (blocks_read n k backward) j)
size_is {n} {s = s} w {j} l =
    cases (eqb j s.extension)
    (λ t. rw t (extended_is w l (eqb-true j s.extension t)))
    (λ t. rw t (w.inserted ∙ ap (c (n - 1)) (sym (w.extension.inserts j l (eqb-false j s.extension t)))))

-- at a block of a reading: its start is what stands before it there, by one addition for each block passed
pub record Going (n k : ℕ) (backward : Bool) (stop : Stop) : Type 0 where
  pub start_is : stop.start ≡ before n k backward stop.number
  pub counted : stop.additions ≡ stop.number

-- where a search stops it may also go on
pub stopped : {n k : ℕ} {backward : Bool} {stop : Stop} → IsStop n k backward stop → Going n k backward stop
stopped w = record { start_is = w.start; counted = w.additions }

-- the search begins at the first block, with nothing before it and nothing added
pub begins : (n k : ℕ) (backward : Bool) (stop : Stop) → stop.number ≡ 0 → stop.start ≡ 0 → stop.additions ≡ 0 → Going n k backward stop
begins n k backward stop first none zero = record {
  start_is = none ∙ sym (before-none n k backward) ∙ ap (before n k backward) (sym first);
  counted = zero ∙ sym first;
}

module _ {n k : ℕ} {backward : Bool} {stop : Stop} (w : Listed n k) (g : Going n k backward stop) where
  -- where a place is ahead there is a block at hand
  pub at_block : {place : ℕ} → place < c n k → stop.start ≤ place → stop.number < length (blocks n k)
  at_block l from = block-left n k backward stop.number w.small.0 (omega (arith, g.start_is))

  module _ (l : stop.number < length (blocks n k)) where
    -- the search may stop here
    pub stops : IsStop n k backward stop
    stops = record { inside = l; start = g.start_is; additions = g.counted }

    -- or go on: the next block's start, if `size` is the size of this one
    module _ {size : ℕ} (is-size : size ≡ size_of n k (block (blocks_read n k backward) stop.number)) where
      pub next_start : stop.start + size ≡ before n k backward (suc stop.number)
      next_start = omega (arith, is-size, g.start_is, before-suc n k backward stop.number l)

      pub may-pass : (stop.number < 20) × (stop.additions < 20) × (stop.start + size < 2 ^ 64)
      may-pass = (
        omega (arith, few_blocks n k, w.small.1),
        omega (arith, few_blocks n k, w.small.1, g.counted),
        omega (arith, next_start, before-most n k backward (suc stop.number) w.small.0, fits n k w.small.1),
      )

      pub goes_on : Going n k backward (record { number = stop.number + 1; start = stop.start + size; additions = stop.additions + 1 })
      goes_on = record { start_is = rw add-one next_start; counted = omega (arith, g.counted) }
