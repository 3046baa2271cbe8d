-- The Bell numbers. These are definitions; nothing is assumed.
use Rattle.std.specs.Prelude.{◌≡◌, ℕ, zero, suc, ◌+◌, ◌*◌}

-- in how many ways i things can be chosen of n
unfoldable pub choose : ℕ → ℕ → ℕ
choose n zero = 1
choose zero (suc i) = 0
choose (suc n) (suc i) = choose n i + choose n (suc i)

-- f(0) + f(1) + … + f(n)
unfoldable pub sum : (ℕ → ℕ) → ℕ → ℕ
sum f zero = f 0
sum f (suc n) = sum f n + f (suc n)

-- the Bell numbers: one way to part nothing into sets; and of n + 1 things the last is in a set with n − i others, and the other i are parted in any way
pub record AreBellNumbers (b : ℕ → ℕ) : Type 0 where
  pub first : b 0 ≡ 1
  pub next : (n : ℕ) → b (suc n) ≡ sum (λ i. choose n i * b i) n
