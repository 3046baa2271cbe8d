-- The positions by wish, one position after another. Assumes nothing.
use mathlib.Core.Path.{◌≡◌, refl, sym, ap, ◌∙◌}
use Prim.Native.Nat.{ℕ, suc, ◌+◌, ◌-◌, ◌≤◌, ◌<◌}
use native.Mathlib.Omega.{arith}
use native.Mathlib.Decide.{ℕ_discrete}
use mathlib.Core.List.{List, [], ◌∷◌}
use lib.Dec.{eqb}
use lib.ListN.{length, get_or, set, drop, replicate, length-set, length-drop, get_or-replicate}
use lib.Seq.{take-suc, get_or-drop, get_or-set_same, get_or-set_other}
use borrow.Author.Tests.{eq-eqb, ne_eqb}
use Rattle.perm.specs.Lists.{one, tally}
use Rattle.perm.specs.Permutation.{IsPartial}
use Rattle.perm.proofs.Tally.{tally-append}
use Rattle.find.specs.Counting.{free}
use Rattle.find.specs.Search.{pattern_of, Sound}
use Rattle.find.proofs.Patterns.{pattern_at}

-- the positions below i are noted, each at its value
pub record Seen (n : ℕ) (w : List ℕ) (i free-ones : ℕ) (p : List ℕ) : Type 0 where
  pub size : length p ≡ 21
  pub values : (x : ℕ) → 1 ≤ x → x < i → (get_or w x 0 ≡ 0 → ⊥) → (get_or w x 0 ≤ n) × (get_or p (get_or w x 0) 0 ≡ x)
  pub back : (v : ℕ) → 1 ≤ v → v ≤ n → (get_or p v 0 ≡ 0 → ⊥) → (get_or p v 0 < i) × (get_or w (get_or p v 0) 0 ≡ v)
  pub counted : free-ones ≡ free (pattern_of (i - 1) w)
  pub few : free-ones < i

pub seen_none : (n : ℕ) (w : List ℕ) → n ≤ 20 → Seen n w 1 0 (replicate 21 0)
unfolding tally
seen_none n w h = record {
  size = refl;
  values = λ x l u d. absurd (omega arith);
  back = λ v l u d. absurd (d (get_or-replicate 21 v 0 0 (omega arith)));
  counted = refl;
  few = omega arith;
}

-- one position more, with its wish
module _ {n : ℕ} {w : List ℕ} {i f : ℕ} {p : List ℕ} (small : n ≤ 20) (h : n < length w) (l : 1 ≤ i) (u : i ≤ n) (s : Seen n w i f p) where
  abbrev value : ℕ
  value = get_or w i 0

  -- what is free of the first i
  one_more : free (pattern_of (i + 1 - 1) w) ≡ free (pattern_of (i - 1) w) + one (eqb 0 value)
  unfolding tally
  one_more =
      let e : i + 1 - 1 ≡ suc (i - 1) = omega arith in
      let f : 1 + (i - 1) ≡ i = omega arith in
      rw (e, take-suc (drop 1 w) (i - 1) 0 (omega (arith, length-drop 1 w)), tally-append (eqb 0) (pattern_of (i - 1) w) (get_or (drop 1 w) (i - 1) 0 ∷ []), get_or-drop 1 w (i - 1) 0, f)
      (omega arith)

  -- nor with one for a value that is noted
  pub noted-before : (value ≡ 0 → ⊥) → value ≤ n → (get_or p value 0 ≡ 0 → ⊥) → IsPartial n (pattern_of n w) → ⊥
  noted-before d low z q =
      let y = get_or p value 0 in
      let (a, b) = s.back value (omega arith) low z in
      let iy = pattern_at n w y (omega arith) (omega arith) in
      let ii = pattern_at n w i l u in
      let same = q.apart y i (omega arith) (omega arith) l u (iy ∙ b ∙ sym ii) (λ o. d (sym b ∙ sym iy ∙ o)) in
      omega arith

  -- a free position is noted at 0, which is no value
  pub note-free : value ≡ 0 → Seen n w (i + 1) (f + 1) (set p value i)
  note-free e = record {
    size = length-set p value i ∙ s.size;
    values = λ x lx ux d.
        let (a, b) = s.values x lx (before x ux d) d in
        (a, get_or-set_other p value (get_or w x 0) i 0 (λ q. d (q ∙ e)) ∙ b);
    back = λ v lv uv d.
        let there : get_or (set p value i) v 0 ≡ get_or p v 0 = get_or-set_other p value v i 0 (λ q. omega arith) in
        let (a, b) = s.back v lv uv (λ z. d (there ∙ z)) in
        rw there (omega arith, b);
    counted = omega (arith, one_more, ap one (eq-eqb 0 value (sym e)), s.counted);
    few = omega (arith, s.few);
  }
    where
      before : (x : ℕ) → x < i + 1 → (get_or w x 0 ≡ 0 → ⊥) → x < i
      before x ux d = let other : x ≡ i → ⊥ = λ q. d (ap (λ (j : ℕ). get_or w j 0) q ∙ e) in omega arith

  -- and one with a wish at its value, which none before it wishes
  pub note-value : (value ≡ 0 → ⊥) → value ≤ n → get_or p value 0 ≡ 0 → Seen n w (i + 1) f (set p value i)
  note-value d low new = record {
    size = length-set p value i ∙ s.size;
    values = λ x lx ux. by-position x lx ux (ℕ_discrete x i);
    back = λ v lv uv. by_value v lv uv (ℕ_discrete v value);
    counted = omega (arith, one_more, ap one (ne_eqb 0 value (λ e. d (sym e))), s.counted);
    few = omega (arith, s.few);
  }
    where
      by-position : (x : ℕ) → 1 ≤ x → x < i + 1 → Dec (x ≡ i) → (get_or w x 0 ≡ 0 → ⊥) → (get_or w x 0 ≤ n) × (get_or (set p value i) (get_or w x 0) 0 ≡ x)
      by-position x lx ux (yes e) g = rw e (low, get_or-set_same p value i 0 (omega (arith, s.size)))
      by-position x lx ux (no e) g =
          let (a, b) = s.values x lx (omega arith) g in
          let other : get_or w x 0 ≡ value → ⊥ = λ q. omega (arith, ap (λ (j : ℕ). get_or p j 0) q) in
          (a, get_or-set_other p value (get_or w x 0) i 0 other ∙ b)

      by_value : (v : ℕ) → 1 ≤ v → v ≤ n → Dec (v ≡ value) → (get_or (set p value i) v 0 ≡ 0 → ⊥)
          → (get_or (set p value i) v 0 < i + 1) × (get_or w (get_or (set p value i) v 0) 0 ≡ v)
      by_value v lv uv (yes e) g =
          let here : get_or (set p value i) v 0 ≡ i = ap (λ (j : ℕ). get_or (set p value i) j 0) e ∙ get_or-set_same p value i 0 (omega (arith, s.size)) in
          rw here (omega arith, sym e)
      by_value v lv uv (no e) g =
          let there : get_or (set p value i) v 0 ≡ get_or p v 0 = get_or-set_other p value v i 0 e in
          let (a, b) = s.back v lv uv (λ z. g (there ∙ z)) in
          rw there (omega arith, b)

-- at last all are
pub all_seen : {n : ℕ} {w : List ℕ} {i f : ℕ} {p : List ℕ} → n + 1 ≡ i → Seen n w i f p → Sound n w (record { free = f; positions = p })
all_seen {n} {w} {i} e s =
    let q : i - 1 ≡ n = omega arith in
    record {
      linked = record {
        values = λ x l u. s.values x l (omega arith);
        positions = λ v l u d. let (a, b) = s.back v l u d in (omega arith, b);
      };
      counted = s.counted ∙ ap (λ (j : ℕ). free (pattern_of j w)) q;
    }
