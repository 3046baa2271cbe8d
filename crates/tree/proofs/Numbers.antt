-- The lengths of the lists of document 02, k), are the Bell numbers. Assumes nothing.
use mathlib.Core.Path.{◌≡◌, refl, sym, ap, ap₂, ◌∙◌}
use Prim.Native.Nat.{ℕ, zero, suc, ◌+◌, ◌*◌, ◌<◌}
use native.Mathlib.Omega.{arith}
use native.Mathlib.Nat.{add-mul, mul-add, mul_assoc, mul_comm}
use lib.ListN.{length}
use Rattle.tree.specs.Kind.{bells}
use Rattle.tree.specs.Numbers.{choose, sum, AreBellNumbers}
use Rattle.tree.specs.Sizes.{size}
use Rattle.tree.specs.declared.Kind.TheVariants.{Bell}
use Rattle.tree.proofs.Places.{size-listed}

-- sums of equal terms
sum_cong : (f g : ℕ → ℕ) (n : ℕ) → ((i : ℕ) → f i ≡ g i) → sum f n ≡ sum g n
unfolding sum
sum_cong f g zero e = e 0
sum_cong f g (suc n) e = ap₂ ◌+◌ (sum_cong f g n e) (e (suc n))

-- more cannot be chosen than there are
choose-above : (n i : ℕ) → n < i → choose n i ≡ 0
unfolding choose
choose-above n zero u = absurd (omega arith)
choose-above zero (suc i) u = refl
choose-above (suc n) (suc i) u = omega (arith, choose-above n i (omega arith), choose-above n (suc i) (omega arith))

-- a sum with n + 1 to choose from, by those that leave the last out and those that have it
module _ (f : ℕ → ℕ) (n : ℕ) where
  pascal-to : (k : ℕ) → sum (λ i. choose (suc n) i * f i) (suc k) ≡ sum (λ i. choose n i * f i) (suc k) + sum (λ i. choose n i * f (suc i)) k
  unfolding sum choose
  pascal-to zero = omega (arith, add-mul 1 (choose n 1) (f 1))
  pascal-to (suc k) = omega (arith, pascal-to k, add-mul (choose n (suc k)) (choose n (suc (suc k))) (f (suc (suc k))))

  pascal : sum (λ i. choose (suc n) i * f i) (suc n) ≡ sum (λ i. choose n i * f i) n + sum (λ i. choose n i * f (suc i)) n
  unfolding sum
  pascal = omega (arith, pascal-to n, ap (λ (x : ℕ). x * f (suc n)) (choose-above n (suc n) (omega arith)))

-- a sum of sums
term : (c x b y : ℕ) → c * (x + b * y) ≡ c * x + b * (c * y)
term c x b y = mul-add c x (b * y) ∙ ap (λ (z : ℕ). c * x + z) (sym (mul_assoc c b y) ∙ ap (λ (z : ℕ). z * y) (mul_comm c b) ∙ mul_assoc b c y)

sum_linear : (c x y : ℕ → ℕ) (b n : ℕ) → sum (λ i. c i * (x i + b * y i)) n ≡ sum (λ i. c i * x i) n + b * sum (λ i. c i * y i) n
unfolding sum
sum_linear c x y b zero = term (c 0) (x 0) b (y 0)
sum_linear c x y b (suc n) =
    omega (arith, sum_linear c x y b n, term (c (suc n)) (x (suc n)) b (y (suc n)), mul-add b (sum (λ i. c i * y i) n) (c (suc n) * y (suc n)))

-- with one cycle more, the positions that remain join it or do not
one_cycle_more : (m b : ℕ) → size Bell (suc b) m ≡ sum (λ i. choose m i * size Bell b i) m
unfolding size sum choose
one_cycle_more zero b = refl
one_cycle_more (suc m) b =
    omega (
      arith,
      pascal (size Bell b) m,
      sum_linear (choose m) (size Bell (suc b)) (size Bell b) b m,
      one_cycle_more m b,
      one_cycle_more m (suc b),
      ap (λ (x : ℕ). b * x) (one_cycle_more m b),
      add-mul b 1 (size Bell (suc b) m),
    )

-- so the sizes of the whole lists are the Bell numbers
pub bell_numbers : AreBellNumbers (λ n. length (bells n))
unfolding size
bell_numbers = record {
  first = size-listed Bell 0;
  next = λ n. size-listed Bell (suc n) ∙ omega (arith, one_cycle_more n 0) ∙ sum_cong _ _ n (λ i. ap (λ (x : ℕ). choose n i * x) (sym (size-listed Bell i)));
}
