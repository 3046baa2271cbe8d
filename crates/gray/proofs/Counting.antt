-- One equation for all relations: what a test counts in S(n+1,k+1) is what it counts in I(i,S(n,k+1)) for i = 1 to n and in E(S(n,k)).
-- After it no relation is mentioned again. Assumes nothing.
use mathlib.Core.Path.{◌≡◌, refl}
use mathlib.Core.Logic.{inl, inr}
use Prim.Native.Nat.{ℕ, zero, suc, ◌+◌, ◌-◌, ◌≤◌, ◌<◌}
use native.Mathlib.Omega.{arith}
use mathlib.Core.Bool.{Bool, true, false, cond}
use mathlib.Core.List.{List, [], ◌∷◌, reverse}
use lib.Dec.{eqb}
use borrow.Author.Tests.{ne_eqb}
use Rattle.perm.specs.Lists.{tally}
use Rattle.perm.specs.Permutation.{extend, insert}
use Rattle.gray.specs.declared.Block.{Block}
use Rattle.gray.specs.declared.Block.TheVariants.{Insert as I, Extend as E}
use Rattle.gray.specs.Order.{Row, S, odd, reading, rows, joined, rising, falling, blocks_c3, blocks_c, blocks_d, blocks_e}
use Rattle.gray.specs.Blocks.{blocks, blocks_of, blocks_of_a}
use Rattle.perm.proofs.Tally.{tally-append, tally-map, tally-reverse}
use Rattle.gray.proofs.Which.{Which, is_none, is-a, is_b, is_c, is-d, is-e, which}
use Rattle.gray.proofs.Joined.{S-blocks, S-zero, S_beyond}
use Rattle.gray.proofs.Sum.{sum, sum-zero}
use Rattle.gray.proofs.Total.{weight, total, total-append}

-- the direction of a reading does not matter
tally-reading : (p : Row → Bool) (e : ℕ) (L : List Row) → tally p (reading e L) ≡ tally p L
unfolding reading
tally-reading p e L = by-parity (odd e)
  where
    by-parity : (b : Bool) → tally p (cond b (reverse L) L) ≡ tally p L
    by-parity true = tally-reverse p L
    by-parity false = refl

-- a test counts in joined blocks what it counts in each
module _ (p : Row → Bool) (n : ℕ) (L M : List Row) where
  tally-rows : (b : Block) → tally p (rows n L M b) ≡ weight (λ i. tally (λ γ. p (insert n i γ)) L) (tally (λ γ. p (extend n γ)) M) b
  unfolding rows weight
  tally-rows (I i e) = rw (tally-map, tally-reading)
  tally-rows (E e) = rw (tally-map, tally-reading)

  tally-joined : (bs : List Block) → tally p (joined n L M bs) ≡ total (λ i. tally (λ γ. p (insert n i γ)) L) (tally (λ γ. p (extend n γ)) M) bs
  unfolding joined total tally
  tally-joined [] = refl
  tally-joined (b ∷ bs) = rw (tally-append, tally-rows b, tally-joined bs)

-- the blocks of each relation have each insertion once, and the extension once
module _ (f : ℕ → ℕ) (e : ℕ) where
  -- insertions at a, a−1, …, b+1, with any readings
  total-falling : (g : ℕ → ℕ) (c a b : ℕ) → b + c ≡ a → total f e (falling (λ i. I i (g i)) a c) + sum f b ≡ sum f a
  unfolding total falling weight sum
  total-falling g zero a b h = let q : b ≡ a = omega arith in rw q (omega arith)
  total-falling g (suc c) zero b h = absurd (omega arith)
  total-falling g (suc c) (suc a) b h =
      let q : suc a - 1 ≡ a = omega arith in
      rw q (omega (arith, total-falling g c a b (omega arith)))

  -- insertions at b+1, b+2, …, a
  total-rising : (g : ℕ → ℕ) (c a b : ℕ) → b + c ≡ a → total f e (rising (λ i. I i (g i)) (suc b) c) + sum f b ≡ sum f a
  unfolding total rising weight sum
  total-rising g zero a b h = let q : b ≡ a = omega arith in rw q (omega arith)
  total-rising g (suc c) a b h = omega (arith, total-rising g c a (suc b) (omega arith))

  total_a : (m : ℕ) → (1 ≤ m → e ≡ 0) → total f e (blocks_of_a (suc m)) ≡ sum f m + e
  unfolding total weight sum blocks_of_a
  total_a zero h = omega arith
  total_a (suc zero) h = omega (arith, h (omega arith))
  total_a (suc (suc zero)) h = omega (arith, h (omega arith))
  total_a (suc (suc (suc zero))) h = omega (arith, h (omega arith))
  total_a (suc (suc (suc (suc m)))) h =
      let q : 5 + m - 1 ≡ suc (suc (suc (suc m))) = omega arith in
      rw (total-append f e, q)
      (omega (arith, h (omega arith), total-falling (λ i. i + 1) (suc (suc (suc (suc (suc m)))) - 4) (suc (suc (suc (suc m)))) 3 (omega arith)))

  total_c : (m : ℕ) → 2 ≤ m → total f e (cond (eqb (suc m) 3) blocks_c3 (blocks_c (suc m))) ≡ sum f m + e
  unfolding total weight sum
  total_c zero h = absurd (omega arith)
  total_c (suc zero) h = absurd (omega arith)
  total_c (suc (suc zero)) h = omega arith
  total_c (suc (suc (suc m))) h =
      let t : eqb (suc (suc (suc (suc m)))) 3 ≡ false = ne_eqb (suc (suc (suc (suc m)))) 3 (omega arith) in
      let q₁ : suc (suc (suc (suc m))) - 1 ≡ suc (suc (suc m)) = omega arith in
      let q₂ : suc (suc (suc (suc m))) - 2 ≡ suc (suc m) = omega arith in
      let q₃ : suc (suc (suc (suc m))) - 3 ≡ suc m = omega arith in
      rw (t, total-append f e, q₁, q₂, q₃) (omega (arith, total-falling (λ i. 0) (suc (suc m) - 2) (suc m) 1 (omega arith)))

  total-d : (m : ℕ) → 3 ≤ m → total f e (blocks_d (suc m)) ≡ sum f m + e
  unfolding total weight sum
  total-d m h =
      let q : suc m - 1 ≡ m = omega arith in
      rw (total-append f e, q) (omega (arith, total-rising (λ i. i) (suc m - 3) m 2 (omega arith)))

  total-e : (m k : ℕ) → 2 ≤ k → k ≤ m → total f e (blocks_e (suc m) k) ≡ sum f m + e
  unfolding total weight sum
  total-e m k h l =
      let q : suc m - 1 ≡ m = omega arith in
      rw (total-append f e, q)
      (omega
      (arith, total-falling (λ i. i) (suc m - (k + 1)) m k (omega arith), total-falling (λ i. i - 1) (suc k - 2) k 1 (omega arith)))

  -- where the blocks lack the extension (k = 0 or k > m) or the insertions (k ≥ m), there is nothing to count
  pub total-blocks : (m k : ℕ)
      → (k ≡ 0 → 1 ≤ m → e ≡ 0)
      → (m < k → e ≡ 0)
      → (m ≤ k → sum f m ≡ 0)
      → Which (suc m) (suc k)
      → total f e (blocks (suc m) (suc k)) ≡ sum f m + e
  unfolding total weight blocks blocks_of
  total-blocks m k ha hn hb (is_none l (inl p)) = absurd (omega arith)
  total-blocks m k ha hn hb (is_none l (inr p)) = rw l (omega (arith, hn (omega arith), hb (omega arith)))
  total-blocks m k ha hn hb (is-a l p q) = rw l (total_a m (ha (omega arith)))
  total-blocks m k ha hn hb (is_b l p q) = rw l (omega (arith, hb (omega arith)))
  total-blocks m k ha hn hb (is_c l p q) = rw l (total_c m (omega arith))
  total-blocks m k ha hn hb (is-d l p q) = rw l (total-d m (omega arith))
  total-blocks m k ha hn hb (is-e l p q) = rw l (total-e m (suc k) p (omega arith))

-- nothing is counted in an empty list
pub tally_empty : (p : Row → Bool) {L : List Row} → L ≡ [] → tally p L ≡ 0
unfolding tally
tally_empty p e = rw e

-- for any test and any n and k: each row of S(n+1,k+1) is made from one of S(n,k+1) or of S(n,k)
pub tally-S : (p : Row → Bool) (n k : ℕ)
    → tally p (S (suc n) (suc k)) ≡ sum (λ i. tally (λ γ. p (insert (suc n) i γ)) (S n (suc k))) n + tally (λ γ. p (extend (suc n) γ)) (S n k)
tally-S p n k =
    let q : suc k - 1 ≡ k = omega arith in
    rw (S-blocks n (suc k), q, tally-joined)
    (total-blocks
    (λ i. tally (λ γ. p (insert (suc n) i γ)) (S n (suc k)))
    (tally (λ γ. p (extend (suc n) γ)) (S n k))
    n
    k
    (λ z h. tally_empty _ (rw z (S-zero n h)))
    (λ h. tally_empty _ (S_beyond n k h))
    (λ h. sum-zero _ n (λ i l u. tally_empty _ (S_beyond n (suc k) (omega arith))))
    (which (suc n) (suc k)))
