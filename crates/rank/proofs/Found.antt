-- The block of S(n,k) that a permutation stands in: the one that puts n where the permutation has it, made from rows with the shorter permutation's cycles. Assumes
-- nothing.
use mathlib.Core.Path.{◌≡◌, sym, ap, ◌∙◌}
use Prim.Native.Nat.{ℕ, zero, suc, ◌+◌, ◌-◌, ◌<◌}
use native.Mathlib.Omega.{arith}
use mathlib.Core.Bool.{Bool, false}
use mathlib.Core.List.{List, [], ◌∷◌}
use lib.Dec.{eqb}
use borrow.Table.Steps.{cases}
use borrow.Author.Tests.{eqb-true, eq-eqb}
use lib.ListN.{length}
use Rattle.perm.specs.Array.{position}
use Rattle.gray.specs.declared.Block.{Block}
use Rattle.gray.specs.Order.{Row, S}
use Rattle.gray.specs.Blocks.{blocks, position_of, number_in, number_of}
use Rattle.gray.specs.Listing.{row_at, HasCycles}
use Rattle.gray.proofs.Indexed.{block}
use Rattle.gray.proofs.InPlace.{in_place}
use Rattle.gray.proofs.Once.{length-S, complete}
use Rattle.rank.specs.Search.{grown, cycles_of, backward_of, turned, size_of, before, number_read}
use Rattle.rank.specs.Ranking.{cycles_left, PlaceIn}
use Rattle.rank.specs.Descent.{block_with, shorter}
use Rattle.rank.proofs.Reversed.{row-cycles}
use Rattle.rank.proofs.Starts.{block_rows, block_row, in_range, before-suc, some_block}
use Rattle.rank.proofs.Without.{made, one-position}
use Rattle.rank.proofs.Around.{left_of, from_block, placed_in}

-- where some block puts n at position i, the first that does so is found by `number_in`
numbered : (n i : ℕ) (bs : List Block) (j : ℕ) → j < length bs → position_of n (block bs j) ≡ i → number_in n i bs < length bs
unfolding number_in
numbered n i [] j h e = absurd (omega arith)
numbered n i (b ∷ bs) zero h e = rw (eq-eqb (position_of n b) i e) (omega arith)
numbered n i (b ∷ bs) (suc j) h e =
    cases (eqb (position_of n b) i) (λ t. rw t (omega arith)) (λ t. let l = numbered n i bs j (omega arith) e in rw t (omega arith))

-- and puts n there
pub puts_there : (n i : ℕ) (bs : List Block) → number_in n i bs < length bs → position_of n (block bs (number_in n i bs)) ≡ i
unfolding number_in
puts_there n i [] h = absurd (omega arith)
puts_there n i (b ∷ bs) h =
    cases (eqb (position_of n b) i)
    (λ t. rw t (eqb-true (position_of n b) i t))
    (λ t. rw t (puts_there n i bs (omega (arith, rw t at h))))

-- a block that holds a permutation puts n where the permutation has it
puts : {m k : ℕ} {s : Row} → HasCycles (suc m) k s → (j r : ℕ) → r < size_of (suc m) k (block (blocks (suc m) k) j)
    → row_at (block_rows (suc m) k (block (blocks (suc m) k) j)) r ≡ s
    → position_of (suc m) (block (blocks (suc m) k) j) ≡ position (suc m) s
puts {m} {k} w j r l e =
    let n = suc m in
    let b = block (blocks n k) j in
    let y : n - 1 ≡ m = omega arith in
    let shape = made w.permutation in
    one-position n (position_of n b) _ (in_range n b (omega arith) (in_place n k j)) shape.here
    (row-cycles (n - 1) (cycles_of k b) r (backward_of b) l).permutation
    (rw y shape.permutation)
    (sym (block_row n k b r (omega arith) (in_place n k j) l) ∙ e ∙ shape.grows)

-- so the block that puts n there is found
pub found : {m k : ℕ} {s : Row} → HasCycles (suc m) k s
    → (number_of (suc m) k (position (suc m) s) < length (blocks (suc m) k))
    × (position_of (suc m) (block_with (suc m) k (position (suc m) s)) ≡ position (suc m) s)
found {m} {k} {s} w =
    let n = suc m in
    let (r, h, e) = (complete n k).place s w in
    let (j, l, u, v) = some_block n k false r (omega arith) (rw (← length-S n k) h) in
    let b = block (blocks n k) j in
    let size : r - before n k false j < size_of n k b = omega (arith, u, v, before-suc n k false j l) in
    let there : before n k false j + (r - before n k false j) ≡ r = omega (arith, u) in
    let inside : number_of n k (position n s) < length (blocks n k) =
    numbered n (position n s) (blocks n k) j l
    (puts w j (r - before n k false j) size (sym (from_block n k j (omega arith) l false _ size) ∙ ap (row_at (S n k)) there ∙ e)) in
    (inside, puts_there n (position n s) (blocks n k) inside)

-- and it is made from rows with the cycles that the shorter permutation has
pub left : {m k : ℕ} {s : Row} → HasCycles (suc m) k s → HasCycles m (cycles_of k (block_with (suc m) k (position (suc m) s))) (shorter m s)
left {m} {k} {s} w =
    let shape = made w.permutation in
    let i = position (suc m) s in
    record {
      permutation = shape.permutation;
      count =
          shape.count
          ∙ ap (λ (j : ℕ). cycles_left (suc m) j i) w.count
          ∙ sym (left_of (suc m) k i (block_with (suc m) k i) (in_place (suc m) k (number_of (suc m) k i)) (found w).1);
    }

-- so where the shorter permutation stands, as the block reads its list, tells where the permutation stands: the rows before the block come first
pub more_placed : (backward : Bool) {m k : ℕ} {s : Row} → HasCycles (suc m) k s → (r : ℕ)
    → PlaceIn
    (turned backward (backward_of (block_with (suc m) k (position (suc m) s))))
    m
    (cycles_of k (block_with (suc m) k (position (suc m) s)))
    (shorter m s)
    r
    → PlaceIn backward (suc m) k s (before (suc m) k backward (number_read (suc m) k backward (number_of (suc m) k (position (suc m) s))) + r)
more_placed backward {m} {k} {s} w r inner =
    let n = suc m in
    let y : n - 1 ≡ m = omega arith in
    let (inside, here) = found w in
    placed_in backward n k (number_of n k (position n s)) r (omega arith) inside
    ((made w.permutation).grows ∙ ap (λ (i : ℕ). grown n i (shorter m s)) (sym here))
    (rw y inner)
