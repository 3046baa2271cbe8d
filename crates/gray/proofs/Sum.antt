-- Sums f(1) + … + f(n). Assumes nothing.
use mathlib.Core.Path.{◌≡◌, refl, sym, ap}
use Prim.Native.Nat.{ℕ, zero, suc, ◌+◌, ◌*◌, ◌≤◌}
use native.Mathlib.Nat.{zero-mul, suc-mul}
use native.Mathlib.Omega.{arith}
use mathlib.Core.Bool.{Bool, true, false}
use lib.Dec.{eqb}
use borrow.Author.Tests.{eqb-true, eqb-false}

-- f(1) + f(2) + … + f(n)
unfoldable pub sum : (ℕ → ℕ) → ℕ → ℕ
sum f zero = 0
sum f (suc n) = sum f n + f (suc n)

-- of equal parts
pub sum_equal : (x n : ℕ) → sum (λ i. x) n ≡ n * x
unfolding sum
sum_equal x zero = sym (zero-mul x)
sum_equal x (suc n) = omega (arith, sum_equal x n, suc-mul n x)

-- of parts that are all 0
pub sum-zero : (f : ℕ → ℕ) (n : ℕ) → ((i : ℕ) → 1 ≤ i → i ≤ n → f i ≡ 0) → sum f n ≡ 0
unfolding sum
sum-zero f zero h = refl
sum-zero f (suc n) h = omega (arith, sum-zero f n (λ i l u. h i l (omega arith)), h (suc n) (omega arith) (omega arith))

-- of parts that are all 0 but one
pub sum_one : (f : ℕ → ℕ) (n i : ℕ) → 1 ≤ i → i ≤ n → ((j : ℕ) → 1 ≤ j → j ≤ n → (i ≡ j → ⊥) → f j ≡ 0) → sum f n ≡ f i
unfolding sum
sum_one f zero i l u h = absurd (omega arith)
sum_one f (suc n) i l u h = by-test (eqb i (suc n)) refl (λ v. sum_one f n i l v (λ j m w. h j m (omega arith)))
  where
    by-test : (b : Bool) → eqb i (suc n) ≡ b → (i ≤ n → sum f n ≡ f i) → sum f n + f (suc n) ≡ f i
    by-test true t earlier =
        let q : i ≡ suc n = eqb-true i (suc n) t in
        omega (arith, ap f q, sum-zero f n (λ j m w. h j m (omega arith) (omega arith)))
    by-test false t earlier =
        let q : i ≡ suc n → ⊥ = eqb-false i (suc n) t in
        omega (arith, earlier (omega arith), h (suc n) (omega arith) (omega arith) q)

-- a sum that is not 0 has a part that is not 0
pub sum-part : (f : ℕ → ℕ) (n : ℕ) → 1 ≤ sum f n → (i : ℕ) × (1 ≤ i) × (i ≤ n) × (1 ≤ f i)
unfolding sum
sum-part f zero h = absurd (omega arith)
sum-part f (suc n) h = by_value (f (suc n)) refl (sum-part f n)
  where
    by_value : (v : ℕ) → f (suc n) ≡ v → (1 ≤ sum f n → (i : ℕ) × (1 ≤ i) × (i ≤ n) × (1 ≤ f i)) → (i : ℕ) × (1 ≤ i) × (i ≤ suc n) × (1 ≤ f i)
    by_value zero e later = let (i, l, u, g) = later (omega arith) in (i, l, omega arith, g)
    by_value (suc v) e later = (suc n, omega arith, omega arith, omega arith)
