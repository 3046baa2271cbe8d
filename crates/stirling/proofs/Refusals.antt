-- What a chain of checks gives: laws of `refuse`, `then`, `unless` and `within`, for every crate that refuses.
-- Assumes nothing.
use Prim.Native.Nat.{ℕ, zero, suc, ◌≤◌}
use native.Mathlib.Omega.{arith}
use native.Mathlib.Nat.{lt_of_not-le}
use mathlib.Core.Path.{◌≡◌, ◌∙◌, refl, sym}
use mathlib.Core.Bool.{Bool, true, false, ◌&&◌, false≢true}
use lib.Dec.{leb}
use borrow.Author.Tests.{leb-true, le-leb, lt-leb}
use Rattle.stirling.specs.Refusal.{refuse, ◌then◌, unless, within, number}
use Rattle.stirling.specs.declared.Refusal.{Refusal}

-- every refusal has a number, and 0 is none
pub number_some : (refusal : Refusal) → number refusal ≡ 0 → ⊥
number_some refusal e = grind arith

-- a check refuses where its condition applies
pub refuse_applies : (b : Bool) (r : ℕ) → b ≡ true → refuse b r ≡ r
refuse_applies b r e = rw e

-- a check passes where its condition does not apply
pub refuse_passes : (b : Bool) (r : ℕ) → b ≡ false → refuse b r ≡ 0
refuse_passes b r e = rw e

-- and only there
pub refuse-passed : (b : Bool) (r : ℕ) → refuse b (suc r) ≡ 0 → b ≡ false
refuse-passed true r e = absurd (omega arith)
refuse-passed false r e = refl

-- where the checks before pass, the next check decides
pub then_passes : (a b : ℕ) → a ≡ 0 → a then b ≡ b
then_passes a b e = rw e

-- where one of the checks before refuses, its refusal stands
pub then_refuses : (a b : ℕ) → (a ≡ 0 → ⊥) → a then b ≡ a
then_refuses zero b h = absurd (h refl)
then_refuses (suc r) b h = refl

-- a call that stops where the checks before refuse returns what the chain gives
pub then_stops : (a b r : ℕ) → r ≡ a → (r ≡ 0 → ⊥) → r ≡ a then b
then_stops a b r e h = rw e (sym (then_refuses a b (λ z. h (e ∙ z))))

-- a chain passes only where all of it passes
pub then_passed : (a b : ℕ) → a then b ≡ 0 → (a ≡ 0) × (b ≡ 0)
then_passed zero b e = (refl, e)
then_passed (suc r) b e = absurd (omega arith)

module _ {ℓ} {A : Type ℓ} where
  -- where nothing is refused, a call gives its answer
  pub unless-passes : (r : ℕ) (answer kept : A) → r ≡ 0 → unless r answer kept ≡ answer
  unless-passes r answer kept e = rw e

  -- on a refusal, what stood there is kept
  pub unless-refuses : (r : ℕ) (answer kept : A) → (r ≡ 0 → ⊥) → unless r answer kept ≡ kept
  unless-refuses zero answer kept h = absurd (h refl)
  unless-refuses (suc r) answer kept h = refl

-- a number from low to high is within them
pub within_holds : (low high x : ℕ) → low ≤ x → x ≤ high → within low high x ≡ true
within_holds low high x l h = rw (le-leb low x l, le-leb x high h)

-- a number that is not from low to high is not within them
pub within_fails : (low high x : ℕ) → (low ≤ x → x ≤ high → ⊥) → within low high x ≡ false
within_fails low high x out = by-low (leb low x) refl
  where
    by-low : (b : Bool) → leb low x ≡ b → b && leb x high ≡ false
    by-low true l = lt-leb x high (lt_of_not-le (out (leb-true low x l)))
    by-low false l = refl

-- both of two tests pass
pub and-true : (a b : Bool) → a && b ≡ true → (a ≡ true) × (b ≡ true)
and-true true b e = (refl, e)
and-true false b e = absurd (false≢true e)

-- a number within low and high is from low to high
pub within-true : (low high x : ℕ) → within low high x ≡ true → (low ≤ x) × (x ≤ high)
within-true low high x e =
    let both = and-true (leb low x) (leb x high) e in
    (leb-true low x both.0, leb-true x high both.1)
