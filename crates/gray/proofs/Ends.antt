-- The first and the last row of S(k+d,k) as ends of a run, and the steps that a kind of run has between them. Assumes nothing.
use mathlib.Core.Path.{◌≡◌, refl, ap}
use Prim.Native.Nat.{ℕ, zero, suc, ◌+◌, ◌-◌, ◌≤◌}
use native.Mathlib.Omega.{arith}
use lib.Dec.{eqb}
use Rattle.perm.specs.Lists.{one}
use Rattle.gray.proofs.Run.{Kind, end}

-- where the last row of S(n,k), n = k+d+2, has the value n: at 3 for k = 1 and n ≥ 4, otherwise at 2
unfoldable pub place : ℕ → ℕ → ℕ
place k zero = 2
place k (suc d) = 2 + (2 - k)

-- 2 ≤ place < n
pub place_in : (k d : ℕ) → 1 ≤ k → (2 ≤ place k d) × (place k d ≤ k + suc d)
unfolding place
place_in k zero h = omega arith
place_in k (suc d) h = omega arith

-- for k ≥ 2 it is 2
pub place_two : (k d : ℕ) → 2 ≤ k → place k d ≡ 2
unfolding place
place_two k zero h = refl
place_two k (suc d) h = omega arith

module _ (K : Kind) where
  -- (1,2,…,n): E again and again
  unfoldable pub identity : ℕ → K.End
  identity zero = K.none
  identity (suc n) = K.extended (suc n) (identity n)

  -- the first row of S(k+d,k): (1,2,…,k), then I(1,·) d times
  unfoldable pub first : ℕ → ℕ → K.End
  first k zero = identity k
  first k (suc d) = K.inserted (suc (k + d)) 1 (first k d)

  -- the last row of S(k+1,k): E of the first row of S(k,k−1) for k ≥ 2; S(2,1) has one row
  unfoldable pub lastOne : ℕ → K.End
  lastOne zero = first 0 1
  lastOne (suc zero) = first 1 1
  lastOne (suc (suc k)) = K.extended (suc (suc (suc k))) (first (suc k) 1)

  -- the last row of S(k+d,k)
  unfoldable pub last : ℕ → ℕ → K.End
  last k zero = identity k
  last k (suc zero) = lastOne k
  last k (suc (suc d)) = K.inserted (suc (k + suc d)) (place k d) (first k (suc d))

  -- with one value more, n + 1
  pub first_next : (k d n : ℕ) → k + d ≡ n → first k (suc d) ≡ K.inserted (suc n) 1 (first k d)
  unfolding first
  first_next k d n e = ap (λ m. K.inserted (suc m) 1 (first k d)) e

  pub last-next : (k d n : ℕ) → k + suc d ≡ n → last k (suc (suc d)) ≡ K.inserted (suc n) (place k d) (first k (suc d))
  unfolding last
  last-next k d n e = ap (λ m. K.inserted (suc m) (place k d) (first k (suc d))) e

  -- the last row of S(n,n−1), n ≥ 3
  pub last_one : (k : ℕ) → last (suc (suc k)) 1 ≡ K.extended (suc (suc (suc k))) (first (suc k) 1)
  unfolding last lastOne
  last_one k = refl

  -- from I(1,·) of the last row to I(n,·) of the first
  pub step-turn : (k d n : ℕ) → (k + suc (suc d) ≡ n) × (1 ≤ k)
      → K.Step (suc n) 0 (K.inserted (suc n) 1 (last k (suc (suc d)))) (K.inserted (suc n) n (first k (suc (suc d))))
  step-turn k d zero h = absurd (omega arith)
  step-turn k d (suc m) h =
      let p : (2 ≤ place k d) × (place k d ≤ k + suc d) = place_in k d h.1 in
      rw (last-next k d m (omega arith), first_next k (suc d) m (omega arith))
      (K.step_twice (first k (suc d)) (place k d) 1 (suc m) (omega arith) (omega arith))

  -- from the last row to the first, n ≥ k + 2
  pub step-ring : (k d n : ℕ) → (k + suc d ≡ n) × (1 ≤ k) → K.Step (suc n) 0 (last k (suc (suc d))) (first k (suc (suc d)))
  step-ring k d n h =
      let p : (2 ≤ place k d) × (place k d ≤ k + suc d) = place_in k d h.1 in
      rw (last-next k d n h.0, first_next k (suc d) n h.0) (K.step-position (first k (suc d)) (place k d) 1 (omega arith))

-- the other steps, for the kind at hand
pub record Seams (K : Kind) : Type 0 where
  -- (c), n = 3: from I(2,·) to E
  pub c_three : K.Step 3 0 (K.inserted 3 2 (identity K 2)) (K.extended 3 (first K 1 1))
  -- (c), n = j + 3 ≥ 4: from I(n−2,·) to E of M's last row
  pub c_more : (j : ℕ) → 1 ≤ j
      → K.Step (suc (suc (suc j))) 0 (K.inserted (suc (suc (suc j))) (suc j) (identity K (suc (suc j)))) (K.extended (suc (suc (suc j))) (last K (suc j) 1))
  -- (d), n = j + 3, where M = S(n−1,j): from I(n−1,·) of L's first row, or of its last, to E of M's first, and from E of M's last to I(2,·) of L's last
  pub d_first : (j : ℕ) → 1 ≤ j
      → K.Step (suc (suc (suc j))) 0 (K.inserted (suc (suc (suc j))) (suc (suc j)) (first K (suc j) 1)) (K.extended (suc (suc (suc j))) (first K j 2))
  pub d_last : (j : ℕ) → 1 ≤ j
      → K.Step (suc (suc (suc j))) 0 (K.inserted (suc (suc (suc j))) (suc (suc j)) (last K (suc j) 1)) (K.extended (suc (suc (suc j))) (first K j 2))
  pub d_back : (j : ℕ) → 1 ≤ j
      → K.Step (suc (suc (suc j))) 0 (K.extended (suc (suc (suc j))) (last K j 2)) (K.inserted (suc (suc (suc j))) 2 (last K (suc j) 1))
  -- (e), for n + 1, where k = j + 1 and M = S(n,j): from I(k+1,·) to E, and from E to I(k,·), which counts for k = 2
  pub e_to : (j d n : ℕ) → (suc j + suc (suc d) ≡ n) × (1 ≤ j)
      → K.Step (suc n) 0
      (K.inserted (suc n) (suc (suc j)) (end (suc j) (first K (suc j) (suc (suc d))) (last K (suc j) (suc (suc d)))))
      (K.extended (suc n) (end (suc j) (first K j (suc (suc (suc d)))) (last K j (suc (suc (suc d))))))
  pub e_from : (j d n : ℕ) → (suc j + suc (suc d) ≡ n) × (1 ≤ j)
      → K.Step (suc n) (one (eqb (suc j) 2))
      (K.extended (suc n) (end (suc (suc j)) (first K j (suc (suc (suc d)))) (last K j (suc (suc (suc d))))))
      (K.inserted (suc n) (suc j) (end (suc (suc j)) (first K (suc j) (suc (suc d))) (last K (suc j) (suc (suc d)))))
  -- from the last row of S(n,n−1) to the first, n = j + 2 ≥ 3
  pub ring_one : (j : ℕ) → 1 ≤ j → K.Step (suc (suc j)) 0 (last K (suc j) 1) (first K (suc j) 1)
