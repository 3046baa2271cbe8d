-- S(n,k) has at most n blocks, and each insertion is at a position from 1 to n−1. Assumes nothing.
use mathlib.Core.Path.{◌≡◌, refl}
use Prim.Native.Nat.{ℕ, zero, suc, ◌+◌, ◌-◌, ◌≤◌, ◌<◌}
use native.Mathlib.Omega.{arith}
use mathlib.Core.Bool.{Bool, true, false, cond}
use mathlib.Core.List.{List, [], ◌∷◌, ◌++◌}
use lib.Dec.{eqb}
use borrow.Author.Tests.{eqb-false}
use lib.ListN.{length, length-append}
use Rattle.gray.specs.declared.Block.{Block}
use Rattle.gray.specs.declared.Block.TheVariants.{Insert as I, Extend as E}
use Rattle.gray.specs.Order.{rising, falling, blocks_c3, blocks_c, blocks_d, blocks_e}
use Rattle.gray.specs.Blocks.{blocks_of_a, blocks_of, blocks}
use Rattle.gray.proofs.Which.{Which, is_none, is-a, is_b, is_c, is-d, is-e, which}
use Rattle.gray.proofs.Indexed.{block, length-falling, length-rising}

-- an insertion is at a position from 1 to n−1
abbrev pub InPlace : ℕ → Block → Type 0
InPlace n (I i e) = (1 ≤ i) × (i < n)
InPlace n (E e) = Unit

-- each block of a list is in place
data Each (n : ℕ) : List Block → Type 0 where
  nil : Each n []
  inserts : (i : ℕ) {e : ℕ} {bs : List Block} → (1 ≤ i) × (i < n) → Each n bs → Each n (I i e ∷ bs)
  extends : {e : ℕ} {bs : List Block} → Each n bs → Each n (E e ∷ bs)

at-index : {n : ℕ} {bs : List Block} → Each n bs → (j : ℕ) → InPlace n (block bs j)
at-index nil j = tt
at-index (inserts i h p) zero = h
at-index (inserts i h p) (suc j) = at-index p j
at-index (extends p) zero = tt
at-index (extends p) (suc j) = at-index p j

append : {n : ℕ} {s t : List Block} → Each n s → Each n t → Each n (s ++ t)
append nil q = q
append (inserts i h p) q = inserts i h (append p q)
append (extends p) q = extends (append p q)

module _ (n : ℕ) where
  falling-in : (g : ℕ → ℕ) (a m : ℕ) → m ≤ a → a < n → Each n (falling (λ i. I i (g i)) a m)
  unfolding falling
  falling-in g a zero h l = nil
  falling-in g a (suc m) h l = inserts a (omega arith) (falling-in g (a - 1) m (omega arith) (omega arith))

  rising-in : (g : ℕ → ℕ) (a m : ℕ) → 1 ≤ a → a + m ≤ n → Each n (rising (λ i. I i (g i)) a m)
  unfolding rising
  rising-in g a zero h l = nil
  rising-in g a (suc m) h l = inserts a (omega arith) (rising-in g (suc a) m (omega arith) (omega arith))

  c-in : (b : Bool) → eqb n 3 ≡ b → 3 ≤ n → Each n (cond b blocks_c3 (blocks_c n))
  c-in true t h = inserts 1 (omega arith) (inserts 2 (omega arith) (extends nil))
  c-in false t h =
      let g = eqb-false n 3 t in
      inserts 1 (omega arith)
      (inserts (n - 1) (omega arith)
      (append (falling-in _ (n - 3) (suc (n - 3) - 2) (omega arith) (omega arith)) (inserts (n - 2) (omega arith) (extends nil))))

  d-in : 4 ≤ n → Each n (blocks_d n)
  d-in h =
      inserts 1 (omega arith)
      (append (rising-in _ 3 (suc (n - 1) - 3) (omega arith) (omega arith)) (extends (inserts 2 (omega arith) nil)))

  e-in : (k : ℕ) → 2 ≤ k → k + 3 ≤ n → Each n (blocks_e n k)
  e-in k h l =
      inserts 1 (omega arith)
      (append (falling-in _ (n - 1) (suc (n - 1) - (k + 1)) (omega arith) (omega arith))
      (extends (falling-in _ k (suc k - 2) (omega arith) (omega arith))))

a_in : (n : ℕ) → Each n (blocks_of_a n)
unfolding blocks_of_a
a_in zero = nil
a_in (suc zero) = extends nil
a_in (suc (suc zero)) = inserts 1 (omega arith) nil
a_in (suc (suc (suc zero))) = inserts 1 (omega arith) (inserts 2 (omega arith) nil)
a_in (suc (suc (suc (suc zero)))) =
    inserts 1 (omega arith) (inserts 2 (omega arith) (inserts 3 (omega arith) nil))
a_in (suc (suc (suc (suc (suc m))))) =
    inserts 1 (omega arith)
    (append (falling-in _ _ (5 + m - 1) (suc (5 + m - 1) - 4) (omega arith) (omega arith))
    (inserts 2 (omega arith) (inserts 3 (omega arith) nil)))

by-letter : (n k : ℕ) → Which n k → Each n (blocks n k)
unfolding blocks blocks_of
by-letter n k (is_none e _) = rw e nil
by-letter n k (is-a e _ _) = rw e (a_in n)
by-letter n k (is_b e _ _) = rw e (extends nil)
by-letter n k (is_c e _ h) = rw e (c-in n (eqb n 3) refl h)
by-letter n k (is-d e _ h) = rw e (d-in n h)
by-letter n k (is-e e h l) = rw e (e-in n k h l)

-- past the last block stands E 0, which inserts nowhere, so that j is any
pub in_place : (n k j : ℕ) → InPlace n (block (blocks n k) j)
in_place n k = at-index (by-letter n k (which n k))

count-a : (n : ℕ) → length (blocks_of_a n) ≤ n
unfolding blocks_of_a
count-a zero = omega arith
count-a (suc zero) = omega arith
count-a (suc (suc zero)) = omega arith
count-a (suc (suc (suc zero))) = omega arith
count-a (suc (suc (suc (suc zero)))) = omega arith
count-a (suc (suc (suc (suc (suc m))))) = simp (length-append, length-falling) (omega arith)

count-c : (n : ℕ) (b : Bool) → eqb n 3 ≡ b → 3 ≤ n → length (cond b blocks_c3 (blocks_c n)) ≤ n
count-c n true t h = h
count-c n false t h = let g = eqb-false n 3 t in simp (length-append, length-falling) (omega arith)

count : (n k : ℕ) → Which n k → length (blocks n k) ≤ n
unfolding blocks blocks_of
count n k (is_none e _) = rw e (omega arith)
count n k (is-a e _ _) = rw e (count-a n)
count n k (is_b e _ h) = rw e (omega arith)
count n k (is_c e _ h) = rw e (count-c n (eqb n 3) refl h)
count n k (is-d e _ h) = rw e (simp (length-append, length-rising) (omega arith))
count n k (is-e e h l) = rw e (simp (length-append, length-falling) (omega arith))

-- how many blocks there are, at most
pub few_blocks : (n k : ℕ) → length (blocks n k) ≤ n
few_blocks n k = count n k (which n k)
