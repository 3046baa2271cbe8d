-- The least position of a cycle where one of the first positions is exchanged with h + 1, which has its own value: h + 1 joins that cycle, and each other position is the
-- least of its cycle after it just if it was before. Assumes nothing.
use mathlib.Core.Path.{◌≡◌, refl, sym, ap, ◌∙◌}
use mathlib.Core.Bool.{Bool, true, false}
use mathlib.Core.Logic.{◌⊎◌, inl, inr}
use Prim.Native.Nat.{ℕ, zero, suc, ◌≤◌, ◌<◌}
use native.Mathlib.Omega.{arith}
use native.Mathlib.Decide.{ℕ_discrete}
use mathlib.Core.List.{List}
use lib.Dec.{T}
use Rattle.perm.specs.Lists.{one, tally, positions}
use Rattle.perm.specs.Permutation.{at, IsPermutation, exchange}
use Rattle.perm.specs.Cycle.{follow, least}
use Rattle.perm.proofs.Tally.{tally-positions, tally-range_cong}
use Rattle.perm.proofs.Values.{in_range, injective}
use Rattle.perm.proofs.Cycles.{low_least, least_le, fixed_least, falls_least, same_test}
use Rattle.tree.specs.Search.{Settled}
use Rattle.tree.proofs.Settled.{child-low, child-top, child-other, child-permutation}

-- a test that passes, and one that does not
pub is_true : (b : Bool) → T b → b ≡ true
is_true true t = refl
is_true false t = absurd t

is_false : (b : Bool) → (T b → ⊥) → b ≡ false
is_false true f = absurd (f tt)
is_false false f = refl

pub holds_true : (b : Bool) → b ≡ true → T b
holds_true b e = rw e tt

-- a position that has its own value is the least of its cycle
pub own_least : (s : List ℕ) (i : ℕ) → at s i ≡ i → least s i ≡ true
own_least s i e = is_true (least s i) (fixed_least s i e)

-- no position of its cycle is below one that is the least
pub least-low : {n : ℕ} {s : List ℕ} → IsPermutation n s → (i : ℕ) → 1 ≤ i → i ≤ n → T (least s i) → (t : ℕ) → i ≤ follow s t i
unfolding follow
least-low p i a b l t = least_le p i 0 t a b l

module _ {n h : ℕ} {s : List ℕ} (p : IsPermutation n s) (w : Settled n h s) where
  -- the first positions have values among them
  pub value_low : (i : ℕ) → 1 ≤ i → i ≤ h → h ≤ n → at s i ≤ h
  value_low i a b u = by_value (ℕ_discrete (at s (at s i)) (at s i))
    where
      range : (1 ≤ at s i) × (at s i ≤ n)
      range = in_range p i a (omega arith)

      by_value : Dec (at s (at s i) ≡ at s i) → at s i ≤ h
      by_value (yes e) = omega (arith, injective p (at s i) i range.0 range.1 a (omega arith) e)
      by_value (no d) =
          let not-above : h < at s i → ⊥ = λ v. d (w.own (at s i) v range.1) in
          omega arith

-- l, one of the first positions, is exchanged with h + 1
module _ {n h : ℕ} {s : List ℕ} (p : IsPermutation n s) (w : Settled n h s) (room : h < n) (l : ℕ) (a : 1 ≤ l) (b : l ≤ h) where
  abbrev x : List ℕ
  x = exchange l (suc h) s

  -- from one of the first positions the others of them are met
  met-low : (i : ℕ) → 1 ≤ i → i ≤ h → (t : ℕ) → (1 ≤ follow s t i) × (follow s t i ≤ h)
  unfolding follow
  met-low i c d zero = (c, d)
  met-low i c d (suc t) =
      let (e, f) = met-low i c d t in
      ((in_range p (follow s t i) e (omega arith)).0, value_low p w (follow s t i) e f (omega arith))

  -- what is met before it is met after it
  met-after : (i : ℕ) → 1 ≤ i → i ≤ h → (t : ℕ) → (u : ℕ) × (follow x u i ≡ follow s t i)
  unfolding follow
  met-after i c d zero = (0, refl)
  met-after i c d (suc t) = by-low (met-after i c d t) (ℕ_discrete (follow s t i) l)
    where
      by-low : (u : ℕ) × (follow x u i ≡ follow s t i) → Dec (follow s t i ≡ l) → (u : ℕ) × (follow x u i ≡ at s (follow s t i))
      by-low (u, e) (yes f) =
          (suc (suc u), ap (λ y. at x (at x y)) (e ∙ f) ∙ ap (at x) (child-low w room l a (omega arith)) ∙ child-top w room l a (omega arith) ∙ ap (at s) (sym f))
      by-low (u, e) (no f) =
          let (g, k) = met-low i c d t in
          (suc u, ap (at x) e ∙ child-other w room l a (omega arith) (follow s t i) g f (λ z. omega arith))

  -- and what is met after it was met before it, or is h + 1, met from l
  abbrev Before : ℕ → ℕ → Type 0
  Before i y = ((u : ℕ) × (y ≡ follow s u i)) ⊎ ((u : ℕ) × (follow s u i ≡ l) × (y ≡ suc h))

  met-before : (i : ℕ) → 1 ≤ i → i ≤ h → (t : ℕ) → Before i (follow x t i)
  unfolding follow
  met-before i c d zero = inl (0, refl)
  met-before i c d (suc t) = next (met-before i c d t)
    where
      by-low : (u : ℕ) → follow x t i ≡ follow s u i → Dec (follow s u i ≡ l) → Before i (at x (follow x t i))
      by-low u e (yes f) = inr (u, f, ap (at x) (e ∙ f) ∙ child-low w room l a (omega arith))
      by-low u e (no f) =
          let (g, k) = met-low i c d u in
          inl (suc u, ap (at x) e ∙ child-other w room l a (omega arith) (follow s u i) g f (λ z. omega arith))

      next : Before i (follow x t i) → Before i (at x (follow x t i))
      next (inl (u, e)) = by-low u e (ℕ_discrete (follow s u i) l)
      next (inr (u, f, e)) = inl (suc u, ap (at x) e ∙ child-top w room l a (omega arith) ∙ ap (at s) (sym f))

  -- so the least of a cycle stays the least
  low-after : (i : ℕ) → 1 ≤ i → i ≤ h → T (least s i) → T (least x i)
  low-after i c d g = low_least x i (λ t. by-met t (met-before i c d t))
    where
      by-met : (t : ℕ) → Before i (follow x t i) → i ≤ follow x t i
      by-met t (inl (u, e)) = rw e (least-low p i c (omega arith) g u)
      by-met t (inr (u, f, e)) = rw e (omega arith)

  -- and is none that was not
  low-before : (i : ℕ) → 1 ≤ i → i ≤ h → T (least x i) → T (least s i)
  low-before i c d g =
      low_least s i (λ t. let (u, e) = met-after i c d t in omega (arith, e, least-low (child-permutation w room l a (omega arith) p) i c (omega arith) g u))

  pub least-same : (i : ℕ) → 1 ≤ i → i ≤ h → least x i ≡ least s i
  least-same i c d = same_test (least x i) (least s i) (low-before i c d) (low-after i c d)

  -- h + 1 is not the least of its cycle
  pub least-top : least x (suc h) ≡ false
  least-top =
      is_false (least x (suc h))
      (falls_least x (suc h) (omega (arith, (child-permutation w room l a (omega arith) p).size)) (omega (arith, child-top w room l a (omega arith), value_low p w l a b (omega arith))))

  -- so among 1 to h + 1 there are as many as there were among 1 to h
  pub least-count : tally (least x) (positions (suc h)) ≡ tally (least s) (positions h)
  least-count = omega (arith, tally-positions (least x) h, ap one least-top, tally-range_cong (least x) (least s) 1 h (λ i c d. least-same i c (omega arith)))
