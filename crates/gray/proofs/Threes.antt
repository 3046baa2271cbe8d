-- t(n,k) by the blocks of S(n,k): what t counts in each block, and 1 more for (e) with k = 2. Assumes nothing.
use mathlib.Core.Path.{◌≡◌, refl, ap, ◌∙◌}
use mathlib.Core.Logic.{⊎_elim}
use Prim.Native.Nat.{ℕ, zero, suc, ◌+◌, ◌-◌, ◌*◌, ◌≤◌, ◌<◌}
use native.Mathlib.Nat.{mul-zero}
use native.Mathlib.Omega.{arith}
use native.Mathlib.Decide.{dec_lt}
use mathlib.Core.Bool.{Bool, true, false, cond, ◌||◌}
use lib.Dec.{eqb, leb}
use borrow.Author.Tests.{ne_eqb, le-leb, lt-leb}
use Rattle.perm.specs.Lists.{one}
use Rattle.gray.specs.declared.Letter.{Letter}
use Rattle.gray.specs.declared.Letter.TheVariants.{Nothing as none, A as by_a, B as by_b, C as by_c, D as by_d, E as by_e}
use Rattle.gray.specs.Order.{letter}
use Rattle.gray.specs.Blocks.{blocks}
use Rattle.gray.specs.Threes.{t}
use Rattle.gray.proofs.Which.{Which, is_none, is-a, is_b, is_c, is-d, is-e, which}
use Rattle.gray.proofs.Sum.{sum_equal}
use Rattle.gray.proofs.Total.{total}
use Rattle.gray.proofs.Counting.{total-blocks}

-- t(n,k) is 0 for n ≤ 4
pub t_few : (n k : ℕ) → n ≤ 4 → t n k ≡ 0
unfolding t
t_few zero k h = refl
t_few (suc n) k h = rw (le-leb (suc n) 4 h)

-- and for k = 0
pub t_none : (n : ℕ) → t n 0 ≡ 0
unfolding t
t_none zero = refl
t_none (suc n) = go (leb (suc n) 4)
  where
    go : (b : Bool) → cond (b || true) 0 (n * t n 0 + t n 0 + 0) ≡ 0
    go true = refl
    go false = refl

-- otherwise the sum
t_more : (n j : ℕ) → 4 ≤ n → t (suc n) (suc j) ≡ n * t n (suc j) + t n j + one (eqb (suc j) 2)
unfolding t
t_more n j h = let e : suc j - 1 ≡ j = omega arith in rw (lt-leb (suc n) 4 (omega arith), ne_eqb (suc j) 0 (omega arith), e)

-- no permutation of n has more than n cycles
pub t_beyond : (n k : ℕ) → n < k → t n k ≡ 0
t_beyond n zero h = absurd (omega arith)
t_beyond zero (suc j) h = t_few 0 (suc j) (omega arith)
t_beyond (suc n) (suc j) h = go (t_beyond n (suc j) (omega arith)) (t_beyond n j (omega arith)) (dec_lt n 4)
  where
    go : t n (suc j) ≡ 0 → t n j ≡ 0 → Dec (n < 4) → t (suc n) (suc j) ≡ 0
    go e q (yes l) = t_few (suc n) (suc j) (omega arith)
    go e q (no l) = rw (t_more n j (omega arith), e, q, mul-zero, ne_eqb (suc j) 2 (omega arith))

-- what the steps between the blocks of a relation count
unfoldable pub seam : Letter → ℕ → ℕ
seam none k = 0
seam by_a k = 0
seam by_b k = 0
seam by_c k = 0
seam by_d k = 0
seam by_e k = one (eqb k 2)

-- where a relation has no such step, n < 4 or k is not 2
seam_few : (n k : ℕ) → n < 4 → Which (suc n) k → seam (letter (suc n) k) k ≡ 0
unfolding seam
seam_few n k h (is_none q p) = rw q
seam_few n k h (is-a q p l) = rw q
seam_few n k h (is_b q p l) = rw q
seam_few n k h (is_c q p l) = rw q
seam_few n k h (is-d q p l) = rw q
seam_few n k h (is-e q l m) = absurd (omega arith)

seam_more : (n k : ℕ) → 4 ≤ n → Which (suc n) k → seam (letter (suc n) k) k ≡ one (eqb k 2)
unfolding seam
seam_more n k h (is_none q p) = rw (q, ne_eqb k 2 (⊎_elim (λ z. omega arith) (λ z. omega arith) p))
seam_more n k h (is-a q p l) = rw (q, ne_eqb k 2 (omega arith))
seam_more n k h (is_b q p l) = rw (q, ne_eqb k 2 (omega arith))
seam_more n k h (is_c q p l) = rw (q, ne_eqb k 2 (omega arith))
seam_more n k h (is-d q p l) = rw (q, ne_eqb k 2 (omega arith))
seam_more n k h (is-e q l m) = rw q

-- t counts in I(i,S(n,k)) what it counts in S(n,k), n times, and in E(S(n,k−1)) what it counts there
total-t : (n j : ℕ) → total (λ i. t n (suc j)) (t n j) (blocks (suc n) (suc j)) ≡ n * t n (suc j) + t n j
total-t n j =
    total-blocks (λ i. t n (suc j)) (t n j) n j
    (λ z h. rw z (t_none n))
    (λ h. t_beyond n j h)
    (λ h. sum_equal (t n (suc j)) n ∙ rw (t_beyond n (suc j) (omega arith)) (mul-zero n))
    (which (suc n) (suc j))
    ∙ ap (λ s. s + t n j) (sum_equal (t n (suc j)) n)

pub t-blocks : (n k : ℕ) → 1 ≤ k → t (suc n) k ≡ total (λ i. t n k) (t n (k - 1)) (blocks (suc n) k) + seam (letter (suc n) k) k
t-blocks n zero h = absurd (omega arith)
t-blocks n (suc j) h = go (dec_lt n 4)
  where
    e : suc j - 1 ≡ j
    e = omega arith

    go : Dec (n < 4) → t (suc n) (suc j) ≡ total (λ i. t n (suc j)) (t n (suc j - 1)) (blocks (suc n) (suc j)) + seam (letter (suc n) (suc j)) (suc j)
    go (yes l) =
        rw (e, total-t n j, seam_few n (suc j) l (which (suc n) (suc j)), t_few (suc n) (suc j) (omega arith), t_few n (suc j) (omega arith), t_few n j (omega arith), mul-zero)
    go (no l) = rw (e, total-t n j, seam_more n (suc j) (omega arith) (which (suc n) (suc j))) (t_more n j (omega arith))
