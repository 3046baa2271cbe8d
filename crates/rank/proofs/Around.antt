-- S(n,k) around one of its blocks: how many rows stand before the block in either reading, and the rows of a reading from there on. Assumes nothing.
use mathlib.Core.Path.{◌≡◌, refl, sym, ap, ◌∙◌}
use Prim.Native.Nat.{ℕ, suc, ◌+◌, ◌-◌, ◌≤◌, ◌<◌}
use native.Mathlib.Omega.{arith}
use mathlib.Core.Bool.{Bool, true, false, not, cond}
use mathlib.Core.List.{List, [], ◌++◌, reverse, append_assoc, reverse-append}
use borrow.Author.Tests.{eq-eqb, ne_eqb}
use lib.ListN.{length, take, drop, take-append-drop, length-drop, length-reverse, get_or-append}
use lib.Seq.{drop-cons, take_at, get_or-append-add}
use Rattle.stirling.specs.Count.{c}
use Rattle.gray.specs.declared.Block.{Block}
use Rattle.gray.specs.declared.Block.TheVariants.{Insert as I, Extend as E}
use Rattle.gray.specs.Order.{Row, S, odd, joined}
use Rattle.gray.specs.Blocks.{blocks, position_of}
use Rattle.gray.specs.Listing.{row_at}
use Rattle.gray.proofs.Indexed.{block}
use Rattle.gray.proofs.InPlace.{InPlace, in_place}
use Rattle.gray.proofs.Joined.{joined-append, turn, reverse-rows}
use Rattle.rank.specs.Search.{reading_of, grown, cycles_of, backward_of, turned, size_of, sizes, blocks_read, rows_read, before, number_read}
use Rattle.rank.specs.Ranking.{cycles_left, PlaceIn}
use Rattle.rank.proofs.Starts.{block_rows, held, length-block, length-held, block_row, all_held, sizes-reverse, before-suc, before-most, number_inside, number_back, block_read}

-- a block that puts n at position i is made from a list with the cycles that are left
pub left_of : (n k i : ℕ) (b : Block) → InPlace n b → position_of n b ≡ i → cycles_of k b ≡ cycles_left n k i
left_of n k i (I x e) p q = rw (ne_eqb i n (omega arith))
left_of n k i (E e) p q = rw (eq-eqb i n (sym q))

-- what is left of the reversed list where the last m elements of it are taken away
take-reverse : {A : Type 0} (l : List A) (m : ℕ) → m ≤ length l → take (length l - m) (reverse l) ≡ reverse (drop m l)
take-reverse l m h =
    let e : length (reverse (drop m l)) ≡ length l - m = length-reverse (drop m l) ∙ length-drop m l in
    ap (λ (s : List _). take (length l - m) (reverse s)) (sym (take-append-drop m l))
    ∙ ap (take (length l - m)) (reverse-append (take m l) (drop m l))
    ∙ take_at (reverse (drop m l)) (reverse (take m l)) (length l - m) e

-- S(n,k) around its block j
module _ (n k j : ℕ) (h : 1 ≤ n) (l : j < length (blocks n k)) where
  abbrev b : Block
  b = block (blocks n k) j

  abbrev A : List Row
  A = held n k (take j (blocks n k))

  abbrev B : List Row
  B = block_rows n k b

  abbrev C : List Row
  C = held n k (drop (suc j) (blocks n k))

  around : S n k ≡ A ++ (B ++ C)
  unfolding joined
  around =
      all_held n k h
      ∙ ap (held n k) (sym (take-append-drop j (blocks n k)))
      ∙ joined-append n (S (n - 1) k) (S (n - 1) (k - 1)) (take j (blocks n k)) (drop j (blocks n k))
      ∙ ap (λ (bs : List Block). A ++ held n k bs) (drop-cons (blocks n k) j (E 0) l)

  -- in either reading the rows before it come first, then its own, read that way too, and then the rest
  abbrev earlier : Bool → List Row
  earlier backward = cond backward (reverse C) A

  abbrev own : Bool → List Row
  own backward = rows_read n k backward b

  abbrev later : Bool → List Row
  later backward = cond backward (reverse A) C

  cut-reading : (backward : Bool) → reading_of backward n k ≡ earlier backward ++ (own backward ++ later backward)
  cut-reading false = around
  cut-reading true =
      ap reverse around
      ∙ reverse-append A (B ++ C)
      ∙ ap (λ (rs : List Row). rs ++ reverse A) (reverse-append B C)
      ∙ append_assoc (reverse C) (reverse B) (reverse A)

  -- its start is the number of rows that stand before it
  start_is : (backward : Bool) → before n k backward (number_read n k backward j) ≡ length (earlier backward)
  unfolding before
  start_is false = sym (length-held n k (take j (blocks n k)))
  start_is true =
      ap (sizes n k) (take-reverse (blocks n k) (suc j) l)
      ∙ sizes-reverse n k (drop (suc j) (blocks n k))
      ∙ sym (length-held n k (drop (suc j) (blocks n k)))
      ∙ sym (length-reverse C)

  own-size : (backward : Bool) → length (own backward) ≡ size_of n k b
  own-size false = length-block n k b
  own-size true = length-reverse B ∙ length-block n k b

  -- so its rows stand from there on
  pub from_block : (backward : Bool) (r : ℕ) → r < size_of n k b
      → row_at (reading_of backward n k) (before n k backward (number_read n k backward j) + r) ≡ row_at (own backward) r
  from_block backward r u =
      rw (start_is backward)
      (ap (λ (rs : List Row). row_at rs (length (earlier backward) + r)) (cut-reading backward)
      ∙ get_or-append-add (earlier backward) (own backward ++ later backward) r []
      ∙ get_or-append (own backward) (later backward) [] r (rw (own-size backward) u))

  -- one block more: its own rows are before too
  pub start-next : (backward : Bool)
      → before n k backward (suc (number_read n k backward j)) ≡ before n k backward (number_read n k backward j) + size_of n k b
  start-next backward =
      before-suc n k backward (number_read n k backward j) (number_inside n k backward j l)
      ∙ ap (λ (d : Block). before n k backward (number_read n k backward j) + size_of n k d)
      (block_read n k backward (number_read n k backward j) (number_inside n k backward j l) ∙ ap (block (blocks n k)) (number_back n k backward j l))

  -- and they are rows of the list
  below-block : (backward : Bool) (r : ℕ) → r < size_of n k b → before n k backward (number_read n k backward j) + r < c n k
  below-block backward r u =
      omega (arith, start-next backward, before-most n k backward (suc (number_read n k backward j)) h)

-- the two readings of a block's own reading
pub turned-forward : (odd : Bool) → turned false odd ≡ odd
turned-forward true = refl
turned-forward false = refl

turned-backward : (odd : Bool) → turned true odd ≡ not odd
turned-backward true = refl
turned-backward false = refl

-- a block's rows in either reading: n is put into the rows of the shorter list, whose reading is turned where the block's own is odd
block-turned : (backward : Bool) (n k : ℕ) (b : Block) (r : ℕ) → 1 ≤ n → InPlace n b → r < size_of n k b
    → row_at (cond backward (reverse (block_rows n k b)) (block_rows n k b)) r
    ≡ grown n (position_of n b) (row_at (reading_of (turned backward (backward_of b)) (n - 1) (cycles_of k b)) r)
unfolding turn odd
block-turned false n k b r h p u = rw (turned-forward (backward_of b)) (block_row n k b r h p u)
block-turned true n k (I i e) r h p u = rw (turned-backward (odd e), reverse-rows n _ _ (I i e)) (block_row n k (I i (suc e)) r h p u)
block-turned true n k (E e) r h p u = rw (turned-backward (odd e), reverse-rows n _ _ (E e)) (block_row n k (E (suc e)) r h p u)

-- so where γ stands in the shorter list, as the block reads it, tells where the permutation that the block makes of it stands: the rows before the block come first
pub placed_in : (backward : Bool) (n k j r : ℕ) {s γ : Row}
    → 1 ≤ n
    → j < length (blocks n k)
    → s ≡ grown n (position_of n (block (blocks n k) j)) γ
    → PlaceIn (turned backward (backward_of (block (blocks n k) j))) (n - 1) (cycles_of k (block (blocks n k) j)) γ r
    → PlaceIn backward n k s (before n k backward (number_read n k backward j) + r)
placed_in backward n k j r h l e inner =
    let b = block (blocks n k) j in
    record {
      below = below-block n k j h l backward r inner.below;
      row =
          from_block n k j h l backward r inner.below
          ∙ block-turned backward n k b r h (in_place n k j) inner.below
          ∙ ap (grown n (position_of n b)) inner.row
          ∙ sym e;
    }

-- a reading around its j-th block: as many rows come before it as its start says
pub starts_at : (n k : ℕ) (backward : Bool) (j : ℕ) → 1 ≤ n → j < length (blocks n k)
    → (earlier : List Row) × (later : List Row)
    × (reading_of backward n k ≡ earlier ++ (rows_read n k backward (block (blocks_read n k backward) j) ++ later))
    × (length earlier ≡ before n k backward j)
starts_at n k backward j h l =
    let i = number_read n k backward j in
    let m = number_inside n k backward j l in
    let back = number_back n k backward j l in (
      earlier n k i h m backward,
      later n k i h m backward,
      rw (block_read n k backward j l) (cut-reading n k i h m backward),
      sym (start_is n k i h m backward) ∙ ap (before n k backward) back,
    )
