-- The permutation that carries one permutation to another on the right: it is there, it is the only one, and exchanges of positions pass through a product on its
-- left. Assumes nothing.
use mathlib.Core.Path.{◌≡◌, refl, sym, ap, ◌∙◌}
use Prim.Native.Nat.{ℕ, zero, suc, ◌+◌, ◌-◌, ◌≤◌, ◌<◌}
use native.Mathlib.Numerals.{add-one}
use native.Mathlib.Omega.{arith}
use mathlib.Core.List.{List, [], ◌∷◌, map}
use lib.ListN.{length, get_or, take, set, length-map}
use lib.Seq.{take-suc, take-suc-set}
use Rattle.perm.specs.Lists.{positions}
use Rattle.perm.specs.Permutation.{IsPermutation, at, put, exchange}
use Rattle.perm.specs.Array.{position}
use Rattle.perm.proofs.Tally.{get_d_map}
use Rattle.perm.proofs.Values.{in_range, injective, onto, permutation, at_map, same_at, map_at}
use Rattle.perm.proofs.ArrayOf.{position_at}
use Rattle.perm.proofs.Steps.{value_bound}
use Rattle.exchanges.specs.Carrying.{multiply, Carries, carrying}

-- a mapped list with an element replaced
map-set : (f : ℕ → ℕ) (u : List ℕ) (i v : ℕ) → map f (set u i v) ≡ set (map f u) i (f v)
map-set f [] i v = refl
map-set f (x ∷ u) zero v = refl
map-set f (x ∷ u) (suc i) v = ap (λ (l : List ℕ). f x ∷ l) (map-set f u i v)

-- (s·u)(i) = s(u(i))
at-multiply : (s u : List ℕ) (i : ℕ) → 1 ≤ i → i ≤ length u → at (multiply s u) i ≡ at s (at u i)
unfolding multiply
at-multiply s u = at_map (at s) u

length-multiply : (s u : List ℕ) → length (multiply s u) ≡ length u
unfolding multiply
length-multiply s u = length-map u (at s)

-- s·(u·⟨a,b⟩) = (s·u)·⟨a,b⟩
pub multiply-exchange : (s u : List ℕ) (a b : ℕ) → 1 ≤ a → a ≤ length u → 1 ≤ b → b ≤ length u
    → exchange a b (multiply s u) ≡ multiply s (exchange a b u)
unfolding multiply exchange
multiply-exchange s u a b ha ka hb kb =
    let left = get_d_map (at s) u (a - 1) (omega arith) in
    let right = get_d_map (at s) u (b - 1) (omega arith) in
    rw (left, right, map-set (at s) (put u a (at u b)) (b - 1) (at u a), map-set (at s) u (a - 1) (at u b))

-- the product with the identity
pub multiply_identity : {n : ℕ} (s : List ℕ) → length s ≡ n → multiply s (positions n) ≡ s
unfolding multiply
multiply_identity = map_at

-- a value of a permutation stands where `position` says
module _ {n : ℕ} {s : List ℕ} (p : IsPermutation n s) (v : ℕ) (h : 1 ≤ v) (k : v ≤ n) where
  found : (1 ≤ position v s) × (position v s ≤ n) × (at s (position v s) ≡ v)
  found =
      let r = onto p v h k in
      let e : position v s ≡ r.0 = ap (λ (w : ℕ). position w s) (sym r.3) ∙ position_at p r.0 r.1 r.2 in
      rw e (r.1, r.2, r.3)

-- two permutations of n
module _ {n : ℕ} {s t : List ℕ} (p : IsPermutation n s) (q : IsPermutation n t) where
  -- the position at which s has the value t(i)
  at-carrying : (i : ℕ) → 1 ≤ i → i ≤ n → at (carrying s t) i ≡ position (at t i) s
  unfolding carrying
  at-carrying i h k = get_d_map (λ v. position v s) t (i - 1) (omega (arith, q.size))

  pub length-carrying : length (carrying s t) ≡ n
  unfolding carrying
  length-carrying = length-map t (λ v. position v s) ∙ q.size

  -- is one that s has
  there : (i : ℕ) → 1 ≤ i → i ≤ n → (1 ≤ at (carrying s t) i) × (at (carrying s t) i ≤ n) × (at s (at (carrying s t) i) ≡ at t i)
  there i h k = let r = in_range q i h k in rw (at-carrying i h k) (found p (at t i) r.0 r.1)

  -- `carrying s t` is a permutation u with s·u = t
  pub carries : Carries n s t (carrying s t)
  carries = record {
    permutation =
        permutation
        length-carrying
        (λ i h k. let r = there i h k in (r.0, r.1))
        (λ i j hi ki hj kj e. injective q i j hi ki hj kj (sym (there i hi ki).2 ∙ ap (at s) e ∙ (there j hj kj).2));
    product =
        same_at
        (multiply s (carrying s t))
        t
        (length-multiply s (carrying s t) ∙ length-carrying ∙ sym q.size)
        (λ i h k. let b : i ≤ n = omega (arith, length-multiply s (carrying s t), length-carrying) in
        at-multiply s (carrying s t) i h (omega (arith, length-carrying)) ∙ (there i h b).2);
  }

  -- and any such permutation is this one
  pub one-carries : {u w : List ℕ} → Carries n s t u → Carries n s t w → u ≡ w
  one-carries {u} {w} x y =
      same_at
      u
      w
      (x.permutation.size ∙ sym y.permutation.size)
      (λ i h k. let b : i ≤ n = omega (arith, x.permutation.size) in
      let f = in_range x.permutation i h b in
      let g = in_range y.permutation i h b in
      injective p (at u i) (at w i) f.0 f.1 g.0 g.1
      (sym (at-multiply s u i h k) ∙ ap (λ (l : List ℕ). at l i) (x.product ∙ sym y.product) ∙ at-multiply s w i h (omega (arith, y.permutation.size))))

-- a permutation's values have their indices, by the value
module _ {s : List ℕ} (p : IsPermutation (length s) s) (index : List ℕ) (x : (j : ℕ) → j < length s → get_or index (get_or s j 0) 0 ≡ j) where
  -- so a value's position is found
  index-position : (v : ℕ) → 1 ≤ v → v ≤ length s → (get_or index v 0 < length s) × (get_or index v 0 + 1 ≡ position v s)
  index-position v h k =
      let r = found p v h k in
      let e : get_or index v 0 ≡ position v s - 1 = ap (λ (w : ℕ). get_or index w 0) (sym r.2) ∙ x (position v s - 1) (omega (arith, r.0, r.1)) in
      (omega (arith, e, r.0, r.1), omega (arith, e, r.0))

  -- for the values of t, a permutation as long
  module _ {t : List ℕ} (q : IsPermutation (length s) t) (i : ℕ) (h : i < length t) where
    pub index-found : (get_or index (get_or t i 0) 0 < length s) × (get_or index (get_or t i 0) 0 + 1 ≡ get_or (carrying s t) i 0)
    unfolding carrying
    index-found =
        let b = value_bound q i (omega (arith, q.size)) in
        let r = index-position (get_or t i 0) b.0 b.1 in
        (r.0, r.1 ∙ sym (get_d_map (λ v. position v s) t i h))

    -- one value more of the permutation that carries s to t
    pub carried_step : (u : List ℕ) → i < length u → take i u ≡ take i (carrying s t)
        → take (i + 1) (set u i (get_or index (get_or t i 0) 0 + 1)) ≡ take (i + 1) (carrying s t)
    carried_step u k a =
        let there : i < length (carrying s t) = omega (arith, length-carrying p q, q.size) in
        rw (add-one, take-suc-set u i (get_or index (get_or t i 0) 0 + 1) k, take-suc (carrying s t) i 0 there, a, index-found.1)
