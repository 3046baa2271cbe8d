-- Two tests counted on one range of numbers: where one implies the other, or does but for one number, and where they agree but for one number. Assumes
-- nothing.
use mathlib.Core.Path.{◌≡◌, refl, ap}
use Prim.Native.Nat.{ℕ, zero, suc, ◌+◌, ◌≤◌, ◌<◌}
use native.Mathlib.Decide.{ℕ_discrete}
use native.Mathlib.Omega.{arith}
use mathlib.Core.Bool.{Bool, true, false}
use Rattle.perm.specs.Lists.{one, tally, range}
use Rattle.perm.proofs.Tally.{tally-range_cong}
use Rattle.perm.proofs.Search.{one_bound}

-- a test that implies another counts at most as much
one_le : (a b : Bool) → (a ≡ true → b ≡ true) → one a ≤ one b
one_le true b h = omega (arith, ap one (h refl))
one_le false b h = omega arith

module _ (p q : ℕ → Bool) where
  -- where each number of a range that passes p passes q, q counts at least as many
  pub tally-le : (a n : ℕ) → ((i : ℕ) → a ≤ i → i < a + n → p i ≡ true → q i ≡ true) → tally p (range a n) ≤ tally q (range a n)
  unfolding tally range
  tally-le a zero h = omega arith
  tally-le a (suc n) h = omega (arith, one_le (p a) (q a) (h a (omega arith) (omega arith)), tally-le (suc a) n (λ i k l. h i (omega arith) (omega arith)))

  -- where this holds but for one number x, q counts at most one less
  pub tally-le-one : (x a n : ℕ) → ((i : ℕ) → a ≤ i → i < a + n → (i ≡ x → ⊥) → p i ≡ true → q i ≡ true) → tally p (range a n) ≤ suc (tally q (range a n))
  unfolding tally range
  tally-le-one x a zero h = omega arith
  tally-le-one x a (suc n) h = by_place (tally-le-one x (suc a) n (λ i k l. h i (omega arith) (omega arith))) (ℕ_discrete a x)
    where
      by_place : tally p (range (suc a) n) ≤ suc (tally q (range (suc a) n)) → Dec (a ≡ x)
          → one (p a) + tally p (range (suc a) n) ≤ suc (one (q a) + tally q (range (suc a) n))
      by_place r (yes e) = omega (arith, one_bound (p a), tally-le (suc a) n (λ i k l. h i (omega arith) (omega arith) (omega arith)))
      by_place r (no d) = omega (arith, one_le (p a) (q a) (h a (omega arith) (omega arith) d))

  -- where the tests agree but for one number x of the range, the counts differ as the tests do on x
  pub tally_differs : (x a n : ℕ) → a ≤ x → x < a + n → ((i : ℕ) → a ≤ i → i < a + n → (i ≡ x → ⊥) → p i ≡ q i)
      → tally p (range a n) + one (q x) ≡ tally q (range a n) + one (p x)
  unfolding tally range
  tally_differs x a zero b c h = absurd (omega arith)
  tally_differs x a (suc n) b c h = by_place (ℕ_discrete a x) (λ d. tally_differs x (suc a) n (omega arith) (omega arith) (λ i k l. h i (omega arith) (omega arith)))
    where
      by_place : Dec (a ≡ x) → ((a ≡ x → ⊥) → tally p (range (suc a) n) + one (q x) ≡ tally q (range (suc a) n) + one (p x))
          → one (p a) + tally p (range (suc a) n) + one (q x) ≡ one (q a) + tally q (range (suc a) n) + one (p x)
      by_place (yes e) r =
          omega (
            arith,
            ap (λ i. one (p i)) e,
            ap (λ i. one (q i)) e,
            tally-range_cong p q (suc a) n (λ i k l. h i (omega arith) (omega arith) (omega arith)),
          )
      by_place (no d) r = omega (arith, r d, ap one (h a (omega arith) (omega arith) d))
