-- What stands at an index of a block, a run of blocks and what follows. Assumes nothing.
use mathlib.Core.Path.{◌≡◌, refl, ap, ◌∙◌}
use Prim.Native.Nat.{ℕ, zero, suc, ◌+◌, ◌-◌, ◌≤◌, ◌<◌}
use native.Mathlib.Omega.{arith}
use mathlib.Core.List.{List, ◌∷◌, ◌++◌}
use lib.ListN.{length, get_or, get_or-append}
use lib.Seq.{get_or-append-add}
use Rattle.gray.specs.declared.Block.{Block}
use Rattle.gray.specs.declared.Block.TheVariants.{Insert as I, Extend as E}
use Rattle.gray.specs.Order.{rising, falling, blocks_a}
use Rattle.gray.specs.Blocks.{blocks_of_a}

pub length-falling : (f : ℕ → Block) (a m : ℕ) → length (falling f a m) ≡ m
unfolding falling
length-falling f a zero = refl
length-falling f a (suc m) = ap suc (length-falling f (a - 1) m)

pub length-rising : (f : ℕ → Block) (a m : ℕ) → length (rising f a m) ≡ m
unfolding rising
length-rising f a zero = refl
length-rising f a (suc m) = ap suc (length-rising f (suc a) m)

-- past the end of a list of blocks stands E 0, as in the contract of `block_at`
abbrev pub block : List Block → ℕ → Block
block bs j = get_or bs j (E 0)

-- f(i) stands at index j of f(i+j), f(i+j−1), …
pub block-falling : (f : ℕ → Block) (a m j i : ℕ) → j < m → i + j ≡ a → block (falling f a m) j ≡ f i
unfolding falling
block-falling f a zero j i h e = absurd (omega arith)
block-falling f a (suc m) zero i h e = let g : a ≡ i = omega arith in ap f g
block-falling f a (suc m) (suc j) i h e = block-falling f (a - 1) m j i (omega arith) (omega arith)

-- f(a+j) stands at index j of f(a), f(a+1), …
block-rising : (f : ℕ → Block) (a m j i : ℕ) → j < m → a + j ≡ i → block (rising f a m) j ≡ f i
unfolding rising
block-rising f a zero j i h e = absurd (omega arith)
block-rising f a (suc m) zero i h e = let g : a ≡ i = omega arith in ap f g
block-rising f a (suc m) (suc j) i h e = block-rising f (suc a) m j i (omega arith) (omega arith)

-- in a list that is b, then s, then t: within s, and within t
module _ (b : Block) (s t : List Block) (j i : ℕ) where
  in-run : j ≡ suc i → i < length s → block (b ∷ (s ++ t)) j ≡ block s i
  in-run e h = rw e (get_or-append s t (E 0) i h)

  past-run : j ≡ suc (length s + i) → block (b ∷ (s ++ t)) j ≡ block t i
  past-run e = rw e (get_or-append-add s t i (E 0))

-- in a list that is b, then m blocks f(a), f(a−1), … or f(a), f(a+1), …, then t: within the run, and within t
module _ (b : Block) (f : ℕ → Block) (a m : ℕ) (t : List Block) (j i : ℕ) where
  pub falling-at : 1 ≤ j → j ≤ m → i + j ≡ suc a → block (b ∷ (falling f a m ++ t)) j ≡ f i
  falling-at l h e =
      in-run b (falling f a m) t j (j - 1) (omega arith) (rw length-falling (omega arith))
      ∙ block-falling f a m (j - 1) i (omega arith) (omega arith)

  pub falling-past : j ≡ suc (m + i) → block (b ∷ (falling f a m ++ t)) j ≡ block t i
  falling-past e = past-run b (falling f a m) t j i (rw length-falling e)

  pub rising-at : 1 ≤ j → j ≤ m → a + j ≡ suc i → block (b ∷ (rising f a m ++ t)) j ≡ f i
  rising-at l h e =
      in-run b (rising f a m) t j (j - 1) (omega arith) (rw length-rising (omega arith))
      ∙ block-rising f a m (j - 1) i (omega arith) (omega arith)

  pub rising-past : j ≡ suc (m + i) → block (b ∷ (rising f a m ++ t)) j ≡ block t i
  rising-past e = past-run b (rising f a m) t j i (rw length-rising e)

-- (a): the first block, and all of them for n ≥ 5
pub first-a : (n j : ℕ) → 2 ≤ n → j ≡ 0 → block (blocks_of_a n) j ≡ I 1 0
unfolding blocks_of_a
first-a zero j h e = absurd (omega arith)
first-a (suc zero) j h e = absurd (omega arith)
first-a (suc (suc zero)) j h e = rw e
first-a (suc (suc (suc zero))) j h e = rw e
first-a (suc (suc (suc (suc zero)))) j h e = rw e
first-a (suc (suc (suc (suc (suc n))))) j h e = rw e

pub long_a : (n : ℕ) → 5 ≤ n → blocks_of_a n ≡ blocks_a n
unfolding blocks_of_a
long_a zero h = absurd (omega arith)
long_a (suc zero) h = absurd (omega arith)
long_a (suc (suc zero)) h = absurd (omega arith)
long_a (suc (suc (suc zero))) h = absurd (omega arith)
long_a (suc (suc (suc (suc zero)))) h = absurd (omega arith)
long_a (suc (suc (suc (suc (suc n))))) h = let e : 5 + n ≡ suc (suc (suc (suc (suc n)))) = omega arith in ap blocks_a e
