-- The part of the block at which a search stops. Assumes nothing.
use mathlib.Core.Path.{◌≡◌, refl, sym, ap, ◌∙◌}
use Prim.Native.Nat.{ℕ, suc, ◌≤◌, ◌<◌}
use mathlib.Core.Bool.{Bool, true, false, not, beq}
use Rattle.gray.specs.declared.Block.{Block}
use Rattle.gray.specs.Blocks.{blocks, number_of}
use Rattle.gray.proofs.Indexed.{block}
use Rattle.rank.specs.declared.Stop.{Stop}
use Rattle.rank.specs.declared.Below.{Below}
use Rattle.rank.specs.declared.Part.{Part}
use Rattle.rank.specs.Search.{turned, before, number_read, IsStop, below_block, part_of, HoldsPlace}
use Rattle.rank.proofs.Starts.{number_inside, number_back}
use Rattle.rank.proofs.Around.{start-next}

-- a reading is turned where the two differ
pub differs : (backward odd : Bool) → not (beq backward odd) ≡ turned backward odd
differs true true = refl
differs true false = refl
differs false true = refl
differs false false = refl

-- the part of a block, from the block's number in the reading
pub part_of_lem : {n k : ℕ} {backward : Bool} {stop : Stop} → IsStop n k backward stop → {j : ℕ} {b : Block} {u : Below}
    → j ≡ number_read n k backward stop.number
    → b ≡ block (blocks n k) j
    → u ≡ below_block n k backward b
    → ◌≡◌ {A = Part}
    (record { block = j; start = stop.start; additions = stop.additions; below = u })
    (part_of n k backward (number_read n k backward stop.number))
part_of_lem {n} {k} {backward} {stop} w {j} {b} {u} e f g =
    let i = number_read n k backward stop.number in
    let back : stop.number ≡ number_read n k backward i = sym (number_back n k backward stop.number w.inside) in
    let start_is : stop.start ≡ before n k backward (number_read n k backward i) = w.start ∙ ap (before n k backward) back in
    let added : stop.additions ≡ number_read n k backward i = w.additions ∙ back in
    let under : u ≡ below_block n k backward (block (blocks n k) i) =
    g ∙ ap (below_block n k backward) (f ∙ ap (block (blocks n k)) e) in
    λ t. record { block = e t; start = start_is t; additions = added t; below = under t }

-- the part of the block that holds a place
pub holds_place : {n k : ℕ} {backward : Bool} {place : ℕ} {stop : Stop} {p : Part} → 1 ≤ n
    → IsStop n k backward stop
    → (before n k backward stop.number ≤ place) × (place < before n k backward (suc stop.number))
    → p ≡ part_of n k backward (number_read n k backward stop.number)
    → HoldsPlace n k backward place p
holds_place {n} {k} {backward} {place} {stop} h w held e =
    let j = number_read n k backward stop.number in
    let l = number_inside n k backward stop.number w.inside in
    let back = number_back n k backward stop.number w.inside in
    rw e
    (record {
      number = j;
      inside = l;
      part = refl;
      from = rw back held.0;
      below = rw (← start-next n k j h l backward, back) held.1;
    })

-- the part of the block that puts n at position i
pub names-part : (i : ℕ) {n k : ℕ} {backward : Bool} {stop : Stop} {number : ℕ} {u : Below}
    → IsStop n k backward stop
    → stop.number ≡ number_read n k backward number
    → number ≡ number_of n k i
    → u ≡ below_block n k backward (block (blocks n k) number)
    → ◌≡◌ {A = Part}
    (record { block = number; start = stop.start; additions = stop.additions; below = u })
    (part_of n k backward (number_of n k i))
names-part i {n} {k} {backward} {stop} {number} {u} w reads e g =
    let j = number_of n k i in
    let at : stop.number ≡ number_read n k backward j = reads ∙ ap (number_read n k backward) e in
    let start_is : stop.start ≡ before n k backward (number_read n k backward j) = w.start ∙ ap (before n k backward) at in
    let added : stop.additions ≡ number_read n k backward j = w.additions ∙ at in
    let under : u ≡ below_block n k backward (block (blocks n k) j) = g ∙ ap (λ (x : ℕ). below_block n k backward (block (blocks n k) x)) e in
    λ t. record { block = e t; start = start_is t; additions = added t; below = under t }
