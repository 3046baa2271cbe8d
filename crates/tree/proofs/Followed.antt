-- What it is that a permutation's cycles fall: no position but the least of each cycle has a value that is not smaller, just if each cycle, followed from its highest number,
-- falls until it closes. Assumes nothing.
use mathlib.Core.Path.{◌≡◌, refl, sym, ap, ◌∙◌}
use Prim.Native.Nat.{ℕ, zero, suc, ◌+◌, ◌-◌, ◌≤◌, ◌<◌}
use native.Mathlib.Omega.{arith}
use native.Mathlib.Decide.{ℕ_discrete}
use mathlib.Core.Bool.{true}
use mathlib.Core.List.{List}
use lib.Dec.{T}
use borrow.Table.Steps.{cases}
use Rattle.perm.specs.Permutation.{at, IsPermutation}
use Rattle.perm.specs.Cycle.{follow, least}
use Rattle.perm.proofs.Values.{in_range}
use Rattle.perm.proofs.Pigeonhole.{minimum}
use Rattle.perm.proofs.Cycles.{follow_add, follow-range, closes, met-before, met-within, met-from, low_least, one_least}
use Rattle.tree.specs.Bell.{IsHighest, FallsFrom}
use Rattle.tree.specs.Kind.{IsBell}
use Rattle.tree.proofs.Least.{is_true, holds_true}
use Rattle.tree.proofs.Falling.{falls_below, bell}

-- a step first or last
follow-first : (s : List ℕ) (i t : ℕ) → follow s (suc t) i ≡ follow s t (at s i)
unfolding follow
follow-first s i zero = refl
follow-first s i (suc t) = ap (at s) (follow-first s i t)

-- each step from i falls, and the last one leads to the least of the cycle
record Descends (s : List ℕ) (i : ℕ) : Type 0 where
  m : ℕ
  falls : (t : ℕ) → t < m → follow s (suc t) i < follow s t i
  last : T (least s (follow s m i))

module _ {n : ℕ} {s : List ℕ} (k : IsBell n s) where
  -- one step more in front
  one_more : (i : ℕ) → at s i < i → Descends s (at s i) → Descends s i
  unfolding follow
  one_more i u d = record { m = suc d.m; falls = by-step; last = rw (follow-first s i d.m) d.last }
    where
      by-step : (t : ℕ) → t < suc d.m → follow s (suc t) i < follow s t i
      by-step zero v = u
      by-step (suc t) v = rw (follow-first s i t) (d.falls t (omega arith))

  -- from any position the numbers fall until the least
  descends : (fuel i : ℕ) → 1 ≤ i → i ≤ n → i ≤ fuel → Descends s i
  unfolding follow
  descends zero i a b c = absurd (omega arith)
  descends (suc fuel) i a b c =
      cases
      (least s i)
      (λ e. record { m = 0; falls = λ t u. absurd (omega arith); last = holds_true (least s i) e })
      (λ e. let u = falls_below s i e (k.fits i a b) in
      one_more i u (descends fuel (at s i) (in_range k.permutation i a b).0 (in_range k.permutation i a b).1 (omega arith)))

  -- the position that leads to the highest number of its cycle is the least
  before-highest : (i c : ℕ) → 1 ≤ i → i ≤ n → IsHighest s i → follow s (suc c) i ≡ i → T (least s (follow s c i))
  unfolding follow
  before-highest i c a b high e =
      let (f, g) = follow-range k.permutation c i a b in
      cases
      (least s (follow s c i))
      (holds_true (least s (follow s c i)))
      (λ d. absurd (omega (arith, high c, falls_below s (follow s c i) d (k.fits (follow s c i) f g))))

  -- so each cycle falls from its highest number, and closes
  pub falls-followed : (i : ℕ) → 1 ≤ i → i ≤ n → IsHighest s i → FallsFrom s i
  unfolding follow
  falls-followed i a b high =
      let d = descends n i a b b in
      let (c, e, _, f) = closes k.permutation i a b in
      let y : suc (c - 1) ≡ c = omega arith in
      let back : follow s (suc (c - 1)) i ≡ i = ap (λ (t : ℕ). follow s t i) y ∙ f in
      let one : follow s (c - 1) i ≡ follow s d.m i = one_least k.permutation i (c - 1) d.m a b (before-highest i (c - 1) a b high back) d.last in
      record { m = d.m; falls = d.falls; closes = ap (at s) (sym one) ∙ back }

-- the other way round
module _ {n : ℕ} {s : List ℕ} (p : IsPermutation n s) where
  -- each cycle has a highest number
  has-highest : (i : ℕ) → 1 ≤ i → i ≤ n → (t : ℕ) × IsHighest s (follow s t i)
  has-highest i a b =
      let (t, c, low) = minimum (λ t. n - follow s t i) n in (
        t,
        λ u. let (v, d, e) = met-within p i a b (u + t) in
            let here = low v d in
            omega (arith, sym (follow_add s u t i) ∙ e, follow-range p t i a b, follow-range p v i a b),
      )

  module _ (g : ℕ) (w : FallsFrom s g) where
    -- what is met later is not above what was met before
    fall-to : (d t : ℕ) → t + d ≤ w.m → follow s (t + d) g ≤ follow s t g
    fall-to zero t u = let y : t + 0 ≡ t = omega arith in rw y (omega arith)
    fall-to (suc d) t u =
        let y : t + suc d ≡ suc (t + d) = omega arith in
        let step = w.falls (t + d) (omega arith) in
        let before = fall-to d t (omega arith) in
        rw y (omega arith)

    -- what is met last is the least
    last-least : T (least s (follow s w.m g))
    last-least = low_least s (follow s w.m g) (λ t. by-met t (met-before s g (suc w.m) (omega arith) w.closes (t + w.m)))
      where
        by-met : (t : ℕ) → (u : ℕ) × (u < suc w.m) × (follow s (t + w.m) g ≡ follow s u g) → follow s w.m g ≤ follow s t (follow s w.m g)
        by-met t (u, v, e) =
            let y : u + (w.m - u) ≡ w.m = omega arith in
            let before : follow s w.m g ≤ follow s u g = rw y at (fall-to (w.m - u) u (omega arith)) in
            omega (arith, follow_add s t w.m g, e)

    -- a position met whose value is not smaller is the least
    met-least : (i v : ℕ) → i ≡ follow s v g → i ≤ at s i → T (least s i)
    unfolding follow
    met-least i v e high = by-met (met-before s g (suc w.m) (omega arith) w.closes v)
      where
        by_last : (u : ℕ) → u < suc w.m → i ≡ follow s u g → Dec (u ≡ w.m) → T (least s i)
        by_last u a f (yes z) = rw (f, z) last-least
        by_last u a f (no d) = absurd (omega (arith, w.falls u (omega arith), ap (at s) f))

        by-met : (u : ℕ) × (u < suc w.m) × (follow s v g ≡ follow s u g) → T (least s i)
        by-met (u, a, f) = by_last u a (e ∙ f) (ℕ_discrete u w.m)

  -- where each cycle falls from its highest number, and closes, no position rises
  pub followed-falls : ((i : ℕ) → 1 ≤ i → i ≤ n → IsHighest s i → FallsFrom s i) → IsBell n s
  unfolding follow
  followed-falls falls = bell p by-position
    where
      by-position : (i : ℕ) → 1 ≤ i → i ≤ n → i ≤ at s i → least s i ≡ true
      by-position i a b c =
          let (t, high) = has-highest i a b in
          let (d, e) = follow-range p t i a b in
          let (v, f) = met-from p i a b t 0 in
          is_true (least s i) (met-least (follow s t i) (falls (follow s t i) d e high) i v f c)
