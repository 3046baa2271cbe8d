-- Wishes by position and positions by wish: what taking away the last position leaves of both, and the cycles that it closes. Assumes nothing.
use mathlib.Core.Path.{◌≡◌, sym, ap, ◌∙◌}
use Prim.Native.Nat.{ℕ, zero, suc, ◌+◌, ◌-◌, ◌≤◌, ◌<◌}
use native.Mathlib.Omega.{arith}
use native.Mathlib.Decide.{ℕ_discrete}
use mathlib.Core.List.{List}
use lib.Dec.{eqb}
use lib.ListN.{length, get_or, set, length-set}
use lib.Seq.{get_or-set_same, get_or-set_other, set-get_or}
use Rattle.perm.specs.Lists.{one, tally, range}
use Rattle.perm.specs.Permutation.{IsPartial, at}
use Rattle.perm.specs.Cycle.{cycles}
use Rattle.perm.proofs.Search.{one_bound}
use Rattle.find.specs.Search.{pattern_of, Points, Linked}
use Rattle.find.proofs.Shorter.{cycles-smaller}
use Rattle.find.proofs.Patterns.{length_pattern, pattern_at, pattern_none, pattern_left}

-- linked wishes are a partial permutation
pub linked_partial : {n : ℕ} (w p : List ℕ) → n < length w → Linked n w p → IsPartial n (pattern_of n w)
linked_partial {n} w p h k = record {
  size = length_pattern n w h;
  bound = λ i l u. rw (pattern_at n w i l u) (by_entry i l u (ℕ_discrete (get_or w i 0) 0));
  apart = λ i j li ui lj uj e d.
      let ei = pattern_at n w i li ui in
      let same : get_or w i 0 ≡ get_or w j 0 = sym ei ∙ e ∙ pattern_at n w j lj uj in
      let di : get_or w i 0 ≡ 0 → ⊥ = λ z. d (ei ∙ z) in
      sym (k.values i li ui di).1 ∙ ap (λ (v : ℕ). get_or p v 0) same ∙ (k.values j lj uj (λ z. di (same ∙ z))).1;
}
  where
    by_entry : (i : ℕ) → 1 ≤ i → i ≤ n → Dec (get_or w i 0 ≡ 0) → get_or w i 0 ≤ n
    by_entry i l u (yes z) = omega arith
    by_entry i l u (no d) = (k.values i l u d).0

-- without the last position and the last value: the position that wished it wishes what the last did
module _ (m : ℕ) (w p : List ℕ) (hw : suc m < length w) (hp : suc m < length p) where
  abbrev x : ℕ
  x = get_or p (suc m) 0

  abbrev v : ℕ
  v = get_or w (suc m) 0

  one_side : Points (suc m) w p → Points m (set w x v) (set p v x)
  one_side f i l u = by-position (ℕ_discrete i x)
    where
      by-position : Dec (i ≡ x) → (get_or (set w x v) i 0 ≡ 0 → ⊥) → (get_or (set w x v) i 0 ≤ m) × (get_or (set p v x) (get_or (set w x v) i 0) 0 ≡ i)
      by-position (yes e) =
          let here : get_or (set w x v) i 0 ≡ v = ap (λ (j : ℕ). get_or (set w x v) j 0) e ∙ get_or-set_same w x v 0 (omega arith) in
          rw here (λ d.
          let (low, back) = f (suc m) (omega arith) (omega arith) d in
          let top : v ≡ suc m → ⊥ = λ q. omega (arith, ap (λ (j : ℕ). get_or p j 0) q) in
          (omega arith, get_or-set_same p v x 0 (omega arith) ∙ sym e))
      by-position (no e) =
          let here : get_or (set w x v) i 0 ≡ get_or w i 0 = get_or-set_other w x i v 0 e in
          rw here (λ d.
          let (low, back) = f i l (omega arith) d in
          let top : get_or w i 0 ≡ suc m → ⊥ = λ q. e (sym back ∙ ap (λ (j : ℕ). get_or p j 0) q) in
          let other : get_or w i 0 ≡ v → ⊥ = λ q.
          let z = (f (suc m) (omega arith) (omega arith) (λ o. d (q ∙ o))).1 in
          omega (arith, ap (λ (j : ℕ). get_or p j 0) q) in
          (omega arith, get_or-set_other p v (get_or w i 0) x 0 other ∙ back))

-- both sides alike
pub unlinked : (m : ℕ) (w p : List ℕ) → suc m < length w → suc m < length p → Linked (suc m) w p
    → Linked m (set w (get_or p (suc m) 0) (get_or w (suc m) 0)) (set p (get_or w (suc m) 0) (get_or p (suc m) 0))
unlinked m w p hw hp k = record {
  values = one_side m w p hw hp k.values;
  positions = one_side m p w hp hw k.positions;
}

-- and the cycles that the wishes close are those that are left to close, and one where the last position wishes itself
module _ (m : ℕ) (w p : List ℕ) (h : suc m < length w) (k : Linked (suc m) w p) where
  abbrev a : List ℕ
  a = pattern_of (suc m) w

  -- the position that wishes the last value, if one does
  wanted : (i : ℕ) → 1 ≤ i → i ≤ suc m → at a i ≡ suc m → i ≡ get_or p (suc m) 0
  wanted i l u e =
      let is : get_or w i 0 ≡ suc m = sym (pattern_at (suc m) w i l u) ∙ e in
      sym (k.values i l u (λ z. omega arith)).1 ∙ ap (λ (v : ℕ). get_or p v 0) is

  last-closed : (y : ℕ) → 1 ≤ y → y ≤ suc m → ((i : ℕ) → 1 ≤ i → i ≤ suc m → at a i ≡ suc m → i ≡ y) → (y ≤ m → at a y ≡ suc m)
      → cycles a ≡ one (eqb (get_or w (suc m) 0) (suc m)) + cycles (pattern_of m (set w y (get_or w (suc m) 0)))
  last-closed y l u only here =
      omega (
        arith,
        cycles-smaller a (length_pattern (suc m) w h) y l u (linked_partial w p h k) only here,
        ap (λ (v : ℕ). one (eqb v (suc m))) (pattern_at (suc m) w (suc m) (omega arith) (omega arith)),
        ap cycles (pattern_left m w y l u),
      )

  pub unlinked-closed : cycles a ≡ one (eqb (get_or w (suc m) 0) (suc m)) + cycles (pattern_of m (set w (get_or p (suc m) 0) (get_or w (suc m) 0)))
  unlinked-closed = by-position (ℕ_discrete (get_or p (suc m) 0) 0)
    where
      by-position : Dec (get_or p (suc m) 0 ≡ 0) → cycles a ≡ one (eqb (get_or w (suc m) 0) (suc m)) + cycles (pattern_of m (set w (get_or p (suc m) 0) (get_or w (suc m) 0)))
      by-position (yes e) =
          last-closed (suc m) (omega arith) (omega arith) (λ i l u f. absurd (omega (arith, wanted i l u f))) (λ o. absurd (omega arith))
          ∙ rw (set-get_or w (suc m) 0, e, pattern_none m w (get_or w (suc m) 0))
      by-position (no d) =
          let y = get_or p (suc m) 0 in
          let (u, is) = k.positions (suc m) (omega arith) (omega arith) d in
          last-closed y (omega arith) u wanted (λ _. pattern_at (suc m) w y (omega arith) u ∙ is)

-- taking away position after position: the cycles counted, and those that the wishes of the first m positions close, are all
pub record Closing (n : ℕ) (w₀ w p : List ℕ) (count m : ℕ) : Type 0 where
  pub small : m ≤ 20
  pub sizes : (length w ≡ 21) × (length p ≡ 21)
  pub linked : Linked m w p
  pub counted : count + cycles (pattern_of m w) ≡ cycles (pattern_of n w₀)
  pub few : count + m ≤ 20

pub closing_ends : {n : ℕ} {w₀ w p : List ℕ} {count : ℕ} → Closing n w₀ w p count 0 → count ≡ cycles (pattern_of n w₀)
unfolding cycles tally range
closing_ends c = omega (arith, c.counted)

-- where the last wishes itself, one more is counted
closing_next : {n m : ℕ} {w₀ w p : List ℕ} {count more : ℕ} → Closing n w₀ w p count (suc m) → more ≡ count + one (eqb (get_or w (suc m) 0) (suc m))
    → Closing n w₀ (set w (get_or p (suc m) 0) (get_or w (suc m) 0)) (set p (get_or w (suc m) 0) (get_or p (suc m) 0)) more m
closing_next {n} {m} {w₀} {w} {p} {count} {more} c e =
    let (zw, zp) = c.sizes in
    let s = c.small in
    let v = get_or w (suc m) 0 in
    record {
      small = omega arith;
      sizes = (length-set w (get_or p (suc m) 0) v ∙ zw, length-set p v (get_or p (suc m) 0) ∙ zp);
      linked = unlinked m w p (omega arith) (omega arith) c.linked;
      counted = omega (arith, c.counted, unlinked-closed m w p (omega arith) c.linked);
      few = omega (arith, c.few, one_bound (eqb v (suc m)));
    }

pub closing_step : {n : ℕ} {w₀ w p : List ℕ} {count more : ℕ} (m : ℕ) → 1 ≤ m → Closing n w₀ w p count m → more ≡ count + one (eqb (get_or w m 0) m)
    → Closing n w₀ (set w (get_or p m 0) (get_or w m 0)) (set p (get_or w m 0) (get_or p m 0)) more (m - 1)
closing_step zero h c e = absurd (omega arith)
closing_step (suc m) h c e = let q : suc m - 1 ≡ m = omega arith in rw q (closing_next c e)
