-- Every S(n,k) has one row or none, or is a run, of any kind, whose last row is a step from its first. So what holds of rows whose ends are a step apart holds of all
-- neighbours in it, and of its last and first row. Assumes nothing.
use mathlib.Core.Path.{◌≡◌, refl, subst}
use mathlib.Core.Logic.{◌⊎◌, inl, inr, ⊎_elim}
use Prim.Native.Nat.{ℕ, zero, suc, ◌+◌, ◌-◌, ◌≤◌, ◌<◌}
use native.Mathlib.Omega.{arith}
use native.Mathlib.Decide.{dec_lt}
use lib.ListN.{length}
use Rattle.gray.specs.Order.{Row, S, letter, relation, relation_a}
use Rattle.gray.specs.Listing.{row_at}
use Rattle.gray.proofs.Joined.{S-zero, S_beyond, S_identity}
use Rattle.gray.proofs.Run.{Kind, Run, run-neighbours, run-closed}
use Rattle.gray.proofs.Ends.{Seams, step-ring}
use Rattle.gray.proofs.Induction.{run-S}

-- either no permutation of n ≥ 1 has k cycles, or k is 1 to n
pub inside : (n k : ℕ) → ((k ≡ 0) ⊎ (n < k)) ⊎ ((1 ≤ k) × (k ≤ n))
inside n zero = inl (inl refl)
inside n (suc k) = go (dec_lt n (suc k))
  where
    go : Dec (n < suc k) → ((suc k ≡ 0) ⊎ (n < suc k)) ⊎ ((1 ≤ suc k) × (suc k ≤ n))
    go (yes l) = inl (inr l)
    go (no l) = inr (omega arith, omega arith)

-- in the first case there is one row or none: S(0,0) has one
pub no_cycles : (n k : ℕ) → (k ≡ 0) ⊎ (n < k) → length (S n k) ≤ 1
no_cycles n k h = ⊎_elim (λ e. rw e (zero-cycles n)) (λ l. rw (S_beyond n k l) (omega arith)) h
  where
    zero-cycles : (m : ℕ) → length (S m 0) ≤ 1
    zero-cycles zero = rw (S_identity 0) (omega arith)
    zero-cycles (suc m) = rw (S-zero (suc m) (omega arith)) (omega arith)

-- S(2,1) has the row (2,1) only
two_one : length (S 2 1) ≡ 1
unfolding S letter relation relation_a
two_one = refl

module _ (K : Kind) (seams : Seams K) where
  -- S(n,k) has one row or none, or is a run whose last row is a step from its first
  data Extent (n k : ℕ) : Type 0 where
    few : length (S n k) ≤ 1 → Extent n k
    ring : {c m : ℕ} {f g : K.End} → Run K n m f g (S n k) → K.Step n c g f → Extent n k

  -- where there are such permutations
  listed : (k d : ℕ) → 1 ≤ k → Extent (k + d) k
  listed k zero h =
      let p : k + 0 ≡ k = omega arith in
      rw p (few (rw (S_identity k) (omega arith)))
  listed zero (suc d) h = absurd (omega arith)
  listed (suc zero) (suc zero) h = few (omega (arith, two_one))
  listed (suc (suc k)) (suc zero) h =
      let p : suc (suc k) + 1 ≡ suc (suc (suc k)) = omega arith in
      rw p (ring (run-S K seams (suc (suc (suc k))) (suc (suc k)) 1 (omega arith)) (seams.ring_one (suc k) (omega arith)))
  listed (suc k) (suc (suc d)) h =
      let p : suc k + suc (suc d) ≡ suc (suc k + suc d) = omega arith in
      rw p (ring (run-S K seams (suc (suc k + suc d)) (suc k) (suc (suc d)) (omega arith)) (step-ring K (suc k) d (suc k + suc d) (omega arith)))

  -- the same, by n and k
  within : (n k : ℕ) → 1 ≤ k → k ≤ n → Extent n k
  within n k h l = subst (λ m. Extent m k) (omega arith) (listed k (n - k) h)

  -- every list is one of the two
  extent : (n k : ℕ) → Extent n k
  extent n k = ⊎_elim (λ none. few (no_cycles n k none)) (λ some. within n k some.0 some.1) (inside n k)

  module _ {n : ℕ} {R : Row → Row → Type 0} (near : (c : ℕ) (s t : Row) (f g : K.End) → K.Has n s f → K.Has n t g → K.Step n c f g → R s t) where
    -- what holds of rows whose ends are a step apart holds of each row of S(n,k) and the one after it
    pub each-neighbour : (k place : ℕ) → suc place < length (S n k) → R (row_at (S n k) place) (row_at (S n k) (suc place))
    each-neighbour k = go (extent n k)
      where
        go : Extent n k → (place : ℕ) → suc place < length (S n k) → R (row_at (S n k) place) (row_at (S n k) (suc place))
        go (few h) place l = absurd (omega arith)
        go (ring run st) place l = run-neighbours near run place l

    -- and of its last and its first row, where there are two rows or more
    pub last-first : (k : ℕ) → 2 ≤ length (S n k) → R (row_at (S n k) (length (S n k) - 1)) (row_at (S n k) 0)
    last-first k = go (extent n k)
      where
        go : Extent n k → 2 ≤ length (S n k) → R (row_at (S n k) (length (S n k) - 1)) (row_at (S n k) 0)
        go (few h) l = absurd (omega arith)
        go (ring run st) l = run-closed near run st
