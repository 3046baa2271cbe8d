-- One element more after a sequence of m: the new element v is one of 1 to m + 1, and the earlier elements that are v or higher go up by one, so that they keep their
-- order. Every sequence of m + 1 comes so; the last entry of its table tells v, and the others are those of the sequence of m. Assumes nothing.
use mathlib.Core.Path.{◌≡◌, sym, ap, subst, ◌∙◌}
use Prim.Native.Nat.{ℕ, suc, ◌+◌, ◌-◌, ◌≤◌, ◌<◌}
use native.Mathlib.Omega.{arith}
use native.Mathlib.Decide.{ℕ_discrete}
use mathlib.Core.Bool.{not, cond}
use mathlib.Core.List.{List, [], ◌∷◌, ◌++◌, map}
use lib.Dec.{ltb}
use lib.ListN.{length, take, length-append, length-map}
use lib.Seq.{get_or-take}
use borrow.Table.Steps.{cases}
use borrow.Author.Tests.{ltb-true, ltb-false, lt-ltb, le-ltb}
use Rattle.stirling.specs.Refusal.{within}
use Rattle.stirling.proofs.Refusals.{within_holds, within_fails}
use Rattle.perm.specs.Lists.{tally, positions}
use Rattle.perm.specs.Permutation.{IsPermutation, at}
use Rattle.perm.proofs.Tally.{tally-not, length-range, tally-range_cong}
use Rattle.perm.proofs.Values.{in_range, injective, permutation, values-within, at_map, same_at, tally_at}
use Rattle.perm.proofs.Split.{at-snoc_low, at-snoc_top, first-last, length-first}
use Rattle.inversion.specs.Table.{higher}
use Rattle.inversion.proofs.Tables.{higher-suc}

-- an element, one up if it is v or higher
abbrev pub raise : ℕ → ℕ → ℕ
raise v x = cond (ltb x v) x (suc x)

-- what holds of x where it is below v, and of x + 1 where it is not, holds of x raised
by-raise : (P : ℕ → Type 0) (v x : ℕ) → (x < v → P x) → (v ≤ x → P (suc x)) → P (raise v x)
by-raise P v x low high = cases (ltb x v) (λ t. rw t (low (ltb-true x v t))) (λ f. rw f (high (ltb-false x v f)))

-- two elements keep their order, and what lies between them
raise_keeps : (v d x y : ℕ) → d + x ≤ y → d + raise v x ≤ raise v y
raise_keeps v d x y l =
    by-raise
    (λ a. d + a ≤ raise v y)
    v
    x
    (λ h. by-raise (λ b. d + x ≤ b) v y (λ k. omega arith) (λ k. omega arith))
    (λ h. by-raise (λ b. d + suc x ≤ b) v y (λ k. omega arith) (λ k. omega arith))

raise_less : (v x y : ℕ) → x < y → raise v x < raise v y
raise_less v x y l = omega (arith, raise_keeps v 1 x y (omega arith))

raise_one : (v x y : ℕ) → raise v x ≡ raise v y → x ≡ y
raise_one v x y e =
    let not-below : x < y → ⊥ = λ l. omega (arith, raise_less v x y l) in
    let not-above : y < x → ⊥ = λ l. omega (arith, raise_less v y x l) in
    omega arith

raise_order : (v x y : ℕ) → ltb (raise v x) (raise v y) ≡ ltb x y
raise_order v x y =
    cases
    (ltb x y)
    (λ t. lt-ltb (raise v x) (raise v y) (raise_less v x y (ltb-true x y t)) ∙ sym t)
    (λ f. le-ltb (raise v x) (raise v y) (omega (arith, raise_keeps v 0 y x (omega (arith, ltb-false x y f)))) ∙ sym f)

-- v comes free
raise_apart : (v x : ℕ) → raise v x ≡ v → ⊥
raise_apart v x = by-raise (λ a. a ≡ v → ⊥) v x (λ h e. omega arith) (λ h e. omega arith)

-- and those that are v or higher are above it
raise-above : (v x : ℕ) → ltb v (raise v x) ≡ not (ltb x v)
raise-above v x = cases (ltb x v) (λ t. rw t (le-ltb v x (omega (arith, ltb-true x v t)))) (λ f. rw f (lt-ltb v (suc x) (omega (arith, ltb-false x v f))))

-- undone, where an element is not v
lower : ℕ → ℕ → ℕ
lower v x = cond (ltb v x) (x - 1) x

raise-lower : (v x : ℕ) → (x ≡ v → ⊥) → raise v (lower v x) ≡ x
unfolding lower
raise-lower v x d =
    cases
    (ltb v x)
    (λ t. let l = ltb-true v x t in rw t (by-raise (λ a. a ≡ x) v (x - 1) (λ h. omega arith) (λ h. omega arith)))
    (λ f. let l = ltb-false v x f in rw f (by-raise (λ a. a ≡ x) v x (λ h. omega arith) (λ h. omega arith)))

lower-within : (m v x : ℕ) → (x ≡ v → ⊥) → 1 ≤ v → v ≤ suc m → 1 ≤ x → x ≤ suc m → (1 ≤ lower v x) × (lower v x ≤ m)
unfolding lower
lower-within m v x d a b h k =
    cases
    (ltb v x)
    (λ t. let l = ltb-true v x t in rw t (omega arith, omega arith))
    (λ f. let l = ltb-false v x f in rw f (h, omega arith))

-- a sequence with the element v after it
unfoldable pub appended : ℕ → List ℕ → List ℕ
appended v q = map (raise v) q ++ (v ∷ [])

module _ {m : ℕ} (v : ℕ) (q : List ℕ) (z : length q ≡ m) where
  length-raised : length (map (raise v) q) ≡ m
  length-raised = length-map q (raise v) ∙ z

  length-appended : length (appended v q) ≡ suc m
  unfolding appended
  length-appended = omega (arith, length-append (map (raise v) q) (v ∷ []), length-raised)

  -- its earlier elements
  at-earlier : (i : ℕ) → 1 ≤ i → i ≤ m → at (appended v q) i ≡ raise v (at q i)
  unfolding appended
  at-earlier i h k = at-snoc_low (map (raise v) q) v i h (omega (arith, length-raised)) ∙ at_map (raise v) q i h (omega arith)

  -- and its last
  at_last : at (appended v q) (suc m) ≡ v
  unfolding appended
  at_last = at-snoc_top (map (raise v) q) v length-raised

  -- before an earlier element as many are higher as in the sequence of m
  pub higher-earlier : (i : ℕ) → 1 ≤ i → i ≤ m → higher (appended v q) i ≡ higher q i
  unfolding higher
  higher-earlier i h k =
      tally-range_cong _ _ 1 (i - 1) (λ j a b. rw (at-earlier i h k, at-earlier j a (omega arith)) (raise_order v (at q i) (at q j)))

-- after a permutation of m, with v one of 1 to m + 1
module _ {m : ℕ} (v : ℕ) (h : 1 ≤ v) (k : v ≤ suc m) {q : List ℕ} (p : IsPermutation m q) where
  -- v − 1 elements are below v
  below : tally (λ j. ltb (at q j) v) (positions m) ≡ v - 1
  below =
      tally-range_cong _ (λ j. within 1 (v - 1) (at q j)) 1 m (λ j a b. agree (at q j) (in_range p j a (omega arith)).0)
      ∙ tally_at (within 1 (v - 1)) q p.size
      ∙ values-within p (v - 1) (omega arith)
    where
      agree : (x : ℕ) → 1 ≤ x → ltb x v ≡ within 1 (v - 1) x
      agree x a =
          cases
          (ltb x v)
          (λ t. t ∙ sym (within_holds 1 (v - 1) x a (omega (arith, ltb-true x v t))))
          (λ f. f ∙ sym (within_fails 1 (v - 1) x (λ b c. omega (arith, ltb-false x v f))))

  -- so m + 1 − v elements before the last are higher
  pub higher-last : higher (appended v q) (suc m) + v ≡ suc m
  higher-last =
      let above : higher (appended v q) (suc m) ≡ tally (λ j. not (ltb (at q j) v)) (positions m) =
      higher-suc (appended v q) m
      ∙ tally-range_cong _ _ 1 m (λ j a b. rw (at_last v q p.size, at-earlier v q p.size j a (omega arith)) (raise-above v (at q j))) in
      omega (arith, above, below, tally-not (λ j. ltb (at q j) v) (positions m), length-range 1 m)

  value : (i : ℕ) → 1 ≤ i → i ≤ suc m → Dec (i ≡ suc m) → (1 ≤ at (appended v q) i) × (at (appended v q) i ≤ suc m)
  value i a b (yes e) = rw (e, at_last v q p.size) (h, k)
  value i a b (no d) =
      let r = in_range p i a (omega arith) in
      rw (at-earlier v q p.size i a (omega arith))
      (by-raise (λ x. (1 ≤ x) × (x ≤ suc m)) v (at q i) (λ l. (r.0, omega (arith, r.1))) (λ l. (omega arith, omega (arith, r.1))))

  -- the last element is none of the earlier
  apart : (i : ℕ) → 1 ≤ i → i ≤ m → at (appended v q) i ≡ v → ⊥
  apart i a b e = raise_apart v (at q i) (sym (at-earlier v q p.size i a b) ∙ e)

  different : (i j : ℕ) → 1 ≤ i → i ≤ suc m → 1 ≤ j → j ≤ suc m → Dec (i ≡ suc m) → Dec (j ≡ suc m) → at (appended v q) i ≡ at (appended v q) j → i ≡ j
  different i j a b c d (yes x) (yes y) e = x ∙ sym y
  different i j a b c d (yes x) (no y) e = absurd (apart j c (omega arith) (sym e ∙ rw x (at_last v q p.size)))
  different i j a b c d (no x) (yes y) e = absurd (apart i a (omega arith) (e ∙ rw y (at_last v q p.size)))
  different i j a b c d (no x) (no y) e =
      injective p i j a (omega arith) c (omega arith)
      (raise_one v (at q i) (at q j) (sym (at-earlier v q p.size i a (omega arith)) ∙ e ∙ at-earlier v q p.size j c (omega arith)))

  -- it is a permutation of m + 1
  pub appended-permutation : IsPermutation (suc m) (appended v q)
  appended-permutation =
      permutation
      (length-appended v q p.size)
      (λ i a b. value i a b (ℕ_discrete i (suc m)))
      (λ i j a b c d. different i j a b c d (ℕ_discrete i (suc m)) (ℕ_discrete j (suc m)))

-- how a permutation of m + 1 comes from one of m
pub data Appended (m : ℕ) : List ℕ → Type 0 where
  one_more : (v : ℕ) (q : List ℕ) → 1 ≤ v → v ≤ suc m → IsPermutation m q → Appended m (appended v q)

-- every one comes so
module _ {m : ℕ} {s : List ℕ} (p : IsPermutation (suc m) s) where
  last : ℕ
  last = at s (suc m)

  shorter : List ℕ
  shorter = map (lower last) (take m s)

  last_within : (1 ≤ last) × (last ≤ suc m)
  unfolding last
  last_within = in_range p (suc m) (omega arith) (omega arith)

  other : (i : ℕ) → 1 ≤ i → i ≤ m → at s i ≡ last → ⊥
  unfolding last
  other i h k e = omega (arith, injective p i (suc m) h (omega arith) (omega arith) (omega arith) e)

  length-shorter : length shorter ≡ m
  unfolding shorter
  length-shorter = length-map (take m s) (lower last) ∙ length-first s p.size

  at-shorter : (i : ℕ) → 1 ≤ i → i ≤ m → at shorter i ≡ lower last (at s i)
  unfolding shorter
  at-shorter i h k =
      at_map (lower last) (take m s) i h (omega (arith, length-first s p.size)) ∙ ap (lower last) (get_or-take m s (i - 1) 0 (omega arith))

  raise-shorter : (i : ℕ) → 1 ≤ i → i ≤ m → raise last (at shorter i) ≡ at s i
  raise-shorter i h k = ap (raise last) (at-shorter i h k) ∙ raise-lower last (at s i) (other i h k)

  shorter-permutation : IsPermutation m shorter
  shorter-permutation =
      permutation
      length-shorter
      (λ i h k. let r = in_range p i h (omega arith) in let l = last_within in
      rw (at-shorter i h k) (lower-within m last (at s i) (other i h k) l.0 l.1 r.0 r.1))
      (λ i j a b c d e. injective p i j a (omega arith) c (omega arith) (sym (raise-shorter i a b) ∙ ap (raise last) e ∙ raise-shorter j c d))

  shorter-appended : appended last shorter ≡ s
  unfolding appended last
  shorter-appended =
      let front : map (raise last) shorter ≡ take m s =
      same_at _ _ (length-map shorter (raise last) ∙ length-shorter ∙ sym (length-first s p.size))
      (λ i h k. let b : i ≤ m = omega (arith, length-map shorter (raise last), length-shorter) in
      at_map (raise last) shorter i h (omega (arith, length-shorter)) ∙ raise-shorter i h b ∙ sym (get_or-take m s (i - 1) 0 (omega arith))) in
      rw front (sym (first-last s p.size))

  pub is-appended : Appended m s
  is-appended =
      let l = last_within in
      subst (Appended m) shorter-appended (one_more last shorter l.0 l.1 shorter-permutation)
