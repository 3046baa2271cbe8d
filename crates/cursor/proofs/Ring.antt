-- The places of a section as a ring (document 02, g and h): the two steps stay on it and undo each other. Assumes nothing.
use mathlib.Core.Path.{◌≡◌, ◌∙◌}
use Prim.Native.Nat.{ℕ, ◌+◌, ◌-◌, ◌≤◌}
use native.Mathlib.Omega.{arith}
use native.Mathlib.Decide.{ℕ_discrete}
use borrow.Author.Tests.{eq-eqb, ne_eqb}
use Rattle.cursor.specs.Machine.{place_after, place_before}

module _ (lowest highest place : ℕ) where
  -- after the highest place comes the lowest
  pub after_last : place ≡ highest → place_after lowest highest place ≡ lowest
  after_last e = rw (eq-eqb place highest e)

  -- after any other the next
  pub after-other : (place ≡ highest → ⊥) → place_after lowest highest place ≡ place + 1
  after-other d = rw (ne_eqb place highest d)

  -- before the lowest place comes the highest
  pub before-first : place ≡ lowest → place_before lowest highest place ≡ highest
  before-first e = rw (eq-eqb place lowest e)

  -- before any other the one before it
  pub before-other : (place ≡ lowest → ⊥) → place_before lowest highest place ≡ place - 1
  before-other d = rw (ne_eqb place lowest d)

module _ (lowest highest place : ℕ) (low : lowest ≤ place) (high : place ≤ highest) where
  -- so a step from a place of the section leads to one
  pub after-within : (lowest ≤ place_after lowest highest place) × (place_after lowest highest place ≤ highest)
  after-within = go (ℕ_discrete place highest)
    where
      go : Dec (place ≡ highest) → (lowest ≤ place_after lowest highest place) × (place_after lowest highest place ≤ highest)
      go (yes e) = rw (after_last lowest highest place e) (omega arith, omega arith)
      go (no d) = rw (after-other lowest highest place d) (omega arith, omega arith)

  pub before-within : (lowest ≤ place_before lowest highest place) × (place_before lowest highest place ≤ highest)
  before-within = go (ℕ_discrete place lowest)
    where
      go : Dec (place ≡ lowest) → (lowest ≤ place_before lowest highest place) × (place_before lowest highest place ≤ highest)
      go (yes e) = rw (before-first lowest highest place e) (omega arith, omega arith)
      go (no d) = rw (before-other lowest highest place d) (omega arith, omega arith)

  -- and each of the two undoes the other
  pub before-after : place_before lowest highest (place_after lowest highest place) ≡ place
  before-after = go (ℕ_discrete place highest)
    where
      go : Dec (place ≡ highest) → place_before lowest highest (place_after lowest highest place) ≡ place
      go (yes e) = before-first lowest highest (place_after lowest highest place) (after_last lowest highest place e) ∙ omega arith
      go (no d) =
          let e = after-other lowest highest place d in
          before-other lowest highest (place_after lowest highest place) (λ f. omega arith) ∙ omega arith

  pub after-before : place_after lowest highest (place_before lowest highest place) ≡ place
  after-before = go (ℕ_discrete place lowest)
    where
      go : Dec (place ≡ lowest) → place_after lowest highest (place_before lowest highest place) ≡ place
      go (yes e) = after_last lowest highest (place_before lowest highest place) (before-first lowest highest place e) ∙ omega arith
      go (no d) =
          let e = before-other lowest highest place d in
          after-other lowest highest (place_before lowest highest place) (λ f. omega arith) ∙ omega arith

  -- the place after the only one is that one
  pub after-alone : lowest ≡ highest → place_after lowest highest place ≡ place
  after-alone e = after_last lowest highest place (omega arith) ∙ omega arith
