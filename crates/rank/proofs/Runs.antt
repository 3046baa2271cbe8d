-- Runs of blocks of one size: the running start after so many of them, and a search that goes on past the block that extends. Assumes nothing.
use mathlib.Core.Path.{◌≡◌, refl, sym, ap, ◌∙◌}
use Prim.Native.Nat.{ℕ, zero, suc, ◌+◌, ◌-◌, ◌*◌, ◌≤◌, ◌<◌, ◌^◌}
use native.Mathlib.Nat.{suc-mul, mul-le-mul_right}
use native.Mathlib.Omega.{arith}
use mathlib.Core.Bool.{Bool}
use lib.ListN.{length}
use Rattle.stirling.specs.Count.{c}
use Rattle.stirling.proofs.Counts.{fits}
use Rattle.gray.specs.Blocks.{blocks}
use Rattle.rank.specs.declared.Sizes.{Sizes}
use Rattle.gray.proofs.InPlace.{few_blocks}
use Rattle.rank.specs.declared.Stop.{Stop}
use Rattle.rank.specs.Search.{before, Listed, AreSizes, IsStop}
use Rattle.rank.proofs.Starts.{before-suc, before-most}
use Rattle.rank.proofs.Going.{Going}

-- one block more of a run from a on
pub run_more : (a b size : ℕ) → a ≤ b → (b + 1 - a) * size ≡ (b - a) * size + size
run_more a b size h =
    let e : b + 1 - a ≡ suc (b - a) = omega arith in
    rw e (omega (arith, suc-mul (b - a) size))

-- and it is no longer than the run to a number behind it
pub run_below : (a b number size : ℕ) → a ≤ b → b < number → (b - a) * size + size ≤ (number - a) * size
run_below a b number size h l =
    let u : b + 1 - a ≤ number - a = omega arith in
    rw (← run_more a b size h) (mul-le-mul_right size u)

module _ {n k : ℕ} {backward : Bool} {s : Sizes} (w : AreSizes n k backward s) where
  -- past a run of blocks that insert
  past-run : (j d : ℕ) → j + d ≤ length (blocks n k) → ((i : ℕ) → j ≤ i → i < j + d → i ≡ s.extension → ⊥)
      → before n k backward (j + d) ≡ before n k backward j + d * s.inserted
  past-run j zero l others =
      let e : j + 0 ≡ j = omega arith in
      rw e (omega arith)
  past-run j (suc d) l others =
      let e : j + suc d ≡ suc (j + d) = omega arith in
      let size = ap (c (n - 1)) (w.extension.inserts (j + d) (omega arith) (others (j + d) (omega arith) (omega arith))) in
      rw e
      (omega (arith, before-suc n k backward (j + d) (omega arith), size, w.inserted, past-run j d (omega arith) (λ i a b. others i a (omega arith)), suc-mul d s.inserted))

  -- so the search may go on past such blocks, up to a number, and its running start is what stands before the block there
  module _ (h : Listed n k) {stop : Stop} (g : Going n k backward stop) (number : ℕ) (from : stop.number ≤ number) (l : number < length (blocks n k))
      (others : (i : ℕ) → stop.number ≤ i → i < number → i ≡ s.extension → ⊥) where
    run-start : stop.start + (number - stop.number) * s.inserted ≡ before n k backward number
    run-start =
        let e : stop.number + (number - stop.number) ≡ number = omega arith in
        ap (λ (x : ℕ). x + (number - stop.number) * s.inserted) g.start_is
        ∙ sym (past-run stop.number (number - stop.number) (omega arith) (λ i u v. others i u (omega arith)))
        ∙ ap (before n k backward) e

    pub may-run : (stop.number ≤ number) × (number ≤ 20) × (stop.additions ≤ stop.number) × (stop.start + (number - stop.number) * s.inserted < 2 ^ 64)
    may-run = (
      from,
      omega (arith, few_blocks n k, h.small.1),
      omega (arith, g.counted),
      omega (arith, run-start, before-most n k backward number h.small.0, fits n k h.small.1),
    )

    pub runs_on : {r : Stop}
        → r ≡ record { number = number; start = stop.start + (number - stop.number) * s.inserted; additions = stop.additions + (number - stop.number) }
        → IsStop n k backward r × (r.number ≡ number)
    runs_on e =
        rw e (record { inside = l; start = run-start; additions = omega (arith, g.counted) }, refl)
