-- S(n,k) is a run from its first row to its last, of every kind that has the steps between blocks, by induction on n: each relation, with the ends of its L and M.
-- Its steps count t(n,k). Assumes nothing.
use mathlib.Core.Path.{◌≡◌, refl, subst}
use mathlib.Core.Logic.{⊎_elim}
use Prim.Native.Nat.{ℕ, zero, suc, ◌+◌, ◌-◌, ◌≤◌}
use native.Mathlib.Omega.{arith}
use mathlib.Core.Bool.{cond}
use mathlib.Core.List.{List, [], ◌∷◌}
use lib.Dec.{eqb}
use borrow.Author.Tests.{ne_eqb}
use Rattle.perm.specs.Lists.{one}
use Rattle.gray.specs.declared.Block.{Block}
use Rattle.gray.specs.declared.Block.TheVariants.{Extend as E}
use Rattle.gray.specs.Order.{S, letter, blocks_a, blocks_c3, blocks_c, blocks_d, blocks_e}
use Rattle.gray.specs.Blocks.{blocks_of_a, blocks_of, blocks}
use Rattle.gray.specs.Threes.{t}
use Rattle.gray.proofs.Which.{Which, is_none, is-a, is_b, is_c, is-d, is-e, which}
use Rattle.gray.proofs.Joined.{S-blocks}
use Rattle.gray.proofs.Run.{Kind, Run, single}
use Rattle.gray.proofs.Chained.{Blocks, less_one, relation-a, relation-a4, relation-a3, relation-a2, relation-b}
use Rattle.gray.proofs.Chained.{relation-c3, relation-c, relation-d, relation-e}
use Rattle.gray.proofs.Ends.{identity, first, place, lastOne, last, first_next, last-next, last_one, place_two, step-turn, Seams}
use Rattle.gray.proofs.Threes.{seam, t-blocks}

module _ (K : Kind) (seams : Seams K) where
  -- each S(n,k), n = k + d, is a run from its first row to its last
  abbrev pub Runs : ℕ → Type 0
  Runs n = (k d : ℕ) → (k + d ≡ n) × (1 ≤ k) → Run K n (t n k) (first K k d) (last K k d) (S n k)

  -- the rows of blocks over L = S(n,k) and M = S(n,k−1) are what S(n+1,k), n + 1 = k + d, is to be; the steps between blocks count z
  abbrev Made : ℕ → ℕ → ℕ → ℕ → List Block → Type 0
  Made n k d z bs = Blocks K n (S n k) (S n (k - 1)) (t n k) (t n (k - 1)) z (first K k d) (last K k d) bs

  -- S(n,n) starts and ends at (1,2,…,n)
  run-same : {n : ℕ} → 1 ≤ n → Runs n → Run K n (t n n) (identity K n) (identity K n) (S n n)
  unfolding first last
  run-same {n} h runs = runs n 0 (omega arith)

  -- S(0,0) has the row of nothing
  run_none : Run K 0 (t 0 0) (identity K 0) (identity K 0) (S 0 0)
  unfolding S t identity
  run_none = single K.has_none K.has_none refl

  -- (b), and (a) for n = 1
  made-b : (n : ℕ) → Run K n (t n n) (identity K n) (identity K n) (S n n) → Made n (suc n) 0 0 (E 0 ∷ [])
  unfolding first last identity
  made-b n run = rw (less_one n) (relation-b K n (S n (suc n)) (S n n) _ _ run)

  -- (a), n ≥ 5
  made-a5 : (n d : ℕ) → (suc (suc (suc d)) ≡ n) × (1 ≤ d) → Runs n → Made n 1 (suc (suc (suc d))) 0 (blocks_a (suc n))
  unfolding place
  made-a5 n d h runs =
      rw (first_next K 1 (suc (suc d)) n (omega arith), last-next K 1 (suc d) n (omega arith))
      (relation-a K n _ _ _ _ (runs 1 (suc (suc d)) (omega arith)) (omega arith) (step-turn K 1 d n (omega arith)))

  -- (a)
  made-a : (n : ℕ) → Runs n → Made n 1 n 0 (blocks_of_a (suc n))
  unfolding blocks_of_a first last lastOne place
  made-a zero runs = made-b 0 run_none
  made-a (suc zero) runs = relation-a2 K 1 _ _ _ _ (runs 1 0 (omega arith)) (omega arith)
  made-a (suc (suc zero)) runs = relation-a3 K 2 _ _ _ _ (runs 1 1 (omega arith)) (omega arith)
  made-a (suc (suc (suc zero))) runs =
      relation-a4 K 3 _ _ _ _ (runs 1 2 (omega arith)) refl (K.step_twice (first K 1 1) 1 2 3 (omega arith) (omega arith))
  made-a (suc (suc (suc (suc n)))) runs =
      let p : 5 + n ≡ suc (suc (suc (suc (suc n)))) = omega arith in
      rw p (made-a5 (suc (suc (suc (suc n)))) (suc n) (omega arith) runs)

  -- (c), n = 3
  made-c3 : Runs 2 → Made 2 2 1 0 blocks_c3
  unfolding identity first last lastOne
  made-c3 runs = relation-c3 K 2 _ _ _ _ (run-same (omega arith) runs) (runs 1 1 (omega arith)) (omega arith) seams.c_three

  -- (c), n ≥ 4
  made-c4 : (n : ℕ) → 2 ≤ n → Runs (suc n) → Made (suc n) (suc n) 1 0 (blocks_c (suc (suc n)))
  unfolding first
  made-c4 zero l runs = absurd (omega arith)
  made-c4 (suc n) l runs =
      let e : suc (suc n) + 0 ≡ suc (suc n) = omega arith in
      rw (less_one (suc n), first_next K (suc (suc n)) 0 (suc (suc n)) e, last_one K n)
      (relation-c K (suc (suc n)) _ _ _ _ (run-same (omega arith) runs) (runs (suc n) 1 (omega arith)) (omega arith)
      (rw (less_one (suc n)) (seams.c_more n (omega arith))))

  -- (c)
  made-c : (n : ℕ) → 2 ≤ n → Runs n → Made n n 1 0 (cond (eqb (suc n) 3) blocks_c3 (blocks_c (suc n)))
  made-c zero l runs = absurd (omega arith)
  made-c (suc zero) l runs = absurd (omega arith)
  made-c (suc (suc zero)) l runs = made-c3 runs
  made-c (suc (suc (suc n))) l runs = rw (ne_eqb (suc (suc (suc (suc n)))) 3 (omega arith)) (made-c4 (suc (suc n)) (omega arith) runs)

  -- (d), with M = S(n,j), j = k − 1
  made-d-suc : (j : ℕ) → 1 ≤ j → Runs (suc (suc j)) → Made (suc (suc j)) (suc j) 2 0 (blocks_d (suc (suc (suc j))))
  made-d-suc j h runs =
      let n = suc (suc j) in
      rw (less_one j, first_next K (suc j) 1 n (omega arith), last-next K (suc j) 0 n (omega arith), place_two (suc j) 0 (omega arith))
      (relation-d K n _ _ _ _ (runs (suc j) 1 (omega arith)) (runs j 2 (omega arith)) (omega arith) (seams.d_first j h) (seams.d_last j h) (seams.d_back j h))

  -- (d)
  made-d : (n k : ℕ) → (suc k ≡ n) × (2 ≤ k) → Runs n → Made n k 2 0 (blocks_d (suc n))
  made-d n zero h runs = absurd (omega arith)
  made-d n (suc j) h runs = subst (λ m. Runs m → Made m (suc j) 2 0 (blocks_d (suc m))) h.0 (made-d-suc j (omega arith)) runs

  -- (e)
  made-e : (n k d : ℕ) → (k + d ≡ suc n) × (2 ≤ k) × (3 ≤ d) → Runs n → Made n k d (one (eqb k 2)) (blocks_e (suc n) k)
  made-e n zero d h runs = absurd (omega arith)
  made-e n (suc k) zero h runs = absurd (omega arith)
  made-e n (suc k) (suc zero) h runs = absurd (omega arith)
  made-e n (suc k) (suc (suc zero)) h runs = absurd (omega arith)
  made-e n (suc k) (suc (suc (suc d))) h runs =
      rw (less_one k, first_next K (suc k) (suc (suc d)) n (omega arith), last-next K (suc k) (suc d) n (omega arith), place_two (suc k) (suc d) h.1)
      (relation-e K n _ _ _ _ (runs (suc k) (suc (suc d)) (omega arith)) (runs k (suc (suc (suc d))) (omega arith)) (suc k) (omega arith)
      (step-turn K (suc k) d n (omega arith))
      (seams.e_to k d n (omega arith))
      (seams.e_from k d n (omega arith)))

  -- each relation in its case
  made : (n k d : ℕ) → (k + d ≡ suc n) × (1 ≤ k) → Which (suc n) k → Runs n → Made n k d (seam (letter (suc n) k) k) (blocks (suc n) k)
  unfolding blocks blocks_of seam
  made n k d h (is_none q p) runs = absurd (⊎_elim (λ z. omega arith) (λ z. omega arith) p)
  made n k d h (is-a q p l) runs = let r : d ≡ n = omega arith in rw (q, p, r) (made-a n runs)
  made n k d h (is_b q p l) runs = let r : d ≡ 0 = omega arith in rw (q, p, r) (made-b n (run-same (omega arith) runs))
  made n k d h (is_c q p l) runs =
      let r : d ≡ 1 = omega arith in
      let s : k ≡ n = omega arith in
      rw (q, s, r) (made-c n (omega arith) runs)
  made n k d h (is-d q p l) runs = let r : d ≡ 2 = omega arith in rw (q, r) (made-d n k (omega arith) runs)
  made n k d h (is-e q l m) runs = rw q (made-e n k d (omega arith) runs)

  -- S(n,k) is a run from its first row to its last
  pub run-S : (n : ℕ) → Runs n
  run-S zero k d h = absurd (omega arith)
  run-S (suc n) k d h = rw (S-blocks n k, t-blocks n k h.1) (made n k d h (which (suc n) k) (run-S n)).run
