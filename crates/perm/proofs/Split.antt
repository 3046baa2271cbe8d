-- The values of E(γ) and I(i,γ) by position; every permutation of m + 1 is E(γ) or I(i,γ) for exactly one γ (and i). Assumes nothing.
use mathlib.Core.Path.{◌≡◌, sym, ap, subst, ◌∙◌}
use Prim.Native.Nat.{ℕ, suc, ◌+◌, ◌-◌, ◌≤◌}
use native.Mathlib.Omega.{arith}
use mathlib.Core.Bool.{Bool}
use mathlib.Core.List.{List, [], ◌∷◌, ◌++◌, append_cancel_right}
use lib.Dec.{eqb}
use lib.ListN.{length, take, length-append, length-set, get_or-append}
use lib.Seq.{get_or_at, get_or-set_same, get_or-set_other, set-set, set-get_or, take-suc, take_all, take_at, get_or-take, length-take-le}
use borrow.Table.Steps.{cases}
use borrow.Author.Tests.{eqb-true, eqb-false, ne_eqb}
use Rattle.perm.specs.Lists.{one, tally}
use Rattle.perm.specs.Permutation.{IsPermutation, at, put, extend, insert}
use Rattle.perm.proofs.Tally.{tally-append, tally-set}
use Rattle.perm.proofs.Values.{in_range, onto, beyond, at_suc}

-- a list with one value added at its end: the values before it
pub at-snoc_low : (s : List ℕ) (x j : ℕ) → 1 ≤ j → j ≤ length s → at (s ++ (x ∷ [])) j ≡ at s j
at-snoc_low s x j h k = get_or-append s (x ∷ []) 0 (j - 1) (omega arith)

-- and the one added
pub at-snoc_top : {m : ℕ} (s : List ℕ) (x : ℕ) → length s ≡ m → at (s ++ (x ∷ [])) (suc m) ≡ x
at-snoc_top {m} s x z = get_or_at s x [] 0 (suc m - 1) (omega arith)

module _ {m : ℕ} (γ : List ℕ) (z : length γ ≡ m) where
  -- E(γ) has one value more
  pub length-extend : length (extend (suc m) γ) ≡ suc m
  unfolding extend
  length-extend = omega (arith, length-append γ (suc m ∷ []))

  -- the value of E(γ) at a position below the last
  pub at-extend-low : (j : ℕ) → 1 ≤ j → j ≤ m → at (extend (suc m) γ) j ≡ at γ j
  unfolding extend
  at-extend-low j h k = at-snoc_low γ (suc m) j h (omega arith)

  -- and at the last
  pub at-extend-top : at (extend (suc m) γ) (suc m) ≡ suc m
  unfolding extend
  at-extend-top = at-snoc_top γ (suc m) z

module _ {m : ℕ} (γ : List ℕ) (i : ℕ) (h : 1 ≤ i) (k : i ≤ m) (z : length γ ≡ m) where
  length-put : length (put γ i (suc m)) ≡ m
  length-put = length-set γ (i - 1) (suc m) ∙ z

  -- I(i,γ) has one value more
  pub length-insert : length (insert (suc m) i γ) ≡ suc m
  unfolding insert
  length-insert = simp length-append (omega (arith, length-put))

  -- the value of I(i,γ) at position i
  pub at-insert-here : at (insert (suc m) i γ) i ≡ suc m
  unfolding insert
  at-insert-here = at-snoc_low (put γ i (suc m)) _ i h (omega (arith, length-put)) ∙ get_or-set_same γ (i - 1) (suc m) 0 (omega arith)

  -- at the last position
  pub at-insert-top : at (insert (suc m) i γ) (suc m) ≡ at γ i
  unfolding insert
  at-insert-top = at-snoc_top (put γ i (suc m)) (at γ i) length-put

  -- and at any other
  pub at-insert-other : (j : ℕ) → 1 ≤ j → j ≤ m → (j ≡ i → ⊥) → at (insert (suc m) i γ) j ≡ at γ j
  unfolding insert
  at-insert-other j hj kj d =
      at-snoc_low (put γ i (suc m)) _ j hj (omega (arith, length-put)) ∙ get_or-set_other γ (i - 1) (j - 1) (suc m) 0 (omega arith)

  -- I(i,γ) has the values of E(γ)
  pub tally-insert : (p : ℕ → Bool) → tally p (insert (suc m) i γ) ≡ tally p (extend (suc m) γ)
  unfolding insert extend tally
  tally-insert p =
      omega (
        arith,
        tally-append p (put γ i (suc m)) (at γ i ∷ []),
        tally-append p γ (suc m ∷ []),
        tally-set p 0 γ (i - 1) (suc m) (omega arith),
      )

-- E(γ) has the values of γ and the value n
pub tally-extend : (p : ℕ → Bool) (n : ℕ) (γ : List ℕ) → tally p (extend n γ) ≡ tally p γ + one (p n)
unfolding extend tally
tally-extend p n γ = omega (arith, tally-append p γ (n ∷ []))

-- E(γ) is a permutation of m + 1
pub extend_permutation : {m : ℕ} {γ : List ℕ} → IsPermutation m γ → IsPermutation (suc m) (extend (suc m) γ)
extend_permutation {m} {γ} p =
    record {
      size = length-extend γ p.size;
      once = λ v a b.
          cases
          (eqb v (suc m))
          (λ t. omega (arith, tally-extend (eqb v) (suc m) γ, ap one t, beyond p v (omega (arith, eqb-true v (suc m) t))))
          (λ f. omega (arith, tally-extend (eqb v) (suc m) γ, ap one f, p.once v a (omega (arith, eqb-false v (suc m) f))));
    }

-- and so is I(i,γ)
pub insert_permutation : {m : ℕ} {γ : List ℕ} (i : ℕ) → 1 ≤ i → i ≤ m → IsPermutation m γ → IsPermutation (suc m) (insert (suc m) i γ)
insert_permutation {m} {γ} i h k p =
    let e = extend_permutation p in
    record {
      size = length-insert γ i h k p.size;
      once = λ v a b. tally-insert γ i h k p.size (eqb v) ∙ e.once v a b;
    }

-- the converse of both, for m values
module _ {m : ℕ} (γ : List ℕ) (z : length γ ≡ m) where
  -- γ is a permutation of m where E(γ) is one of m + 1
  pub permutation-extend : IsPermutation (suc m) (extend (suc m) γ) → IsPermutation m γ
  permutation-extend p =
      record {
        size = z;
        once = λ v a b. omega (arith, tally-extend (eqb v) (suc m) γ, ap one (ne_eqb v (suc m) (omega arith)), p.once v a (omega arith));
      }

  -- and where I(i,γ) is
  pub permutation_insert : (i : ℕ) → 1 ≤ i → i ≤ m → IsPermutation (suc m) (insert (suc m) i γ) → IsPermutation m γ
  permutation_insert i h k p =
      permutation-extend
      (record {
        size = length-extend γ z;
        once = λ v a b. sym (tally-insert γ i h k z (eqb v)) ∙ p.once v a b;
      })

-- how a permutation of m + 1 comes from one of m
pub data Split (m : ℕ) : List ℕ → Type 0 where
  extended : (γ : List ℕ) → IsPermutation m γ → Split m (extend (suc m) γ)
  inserted : (i : ℕ) (γ : List ℕ) → 1 ≤ i → i ≤ m → IsPermutation m γ → Split m (insert (suc m) i γ)

-- I(i,·) undone: the first m values, with the last one put at position i
abbrev remove : ℕ → ℕ → List ℕ → List ℕ
remove m i s = put (take m s) i (at s (suc m))

-- m + 1 values
module _ {m : ℕ} (s : List ℕ) (z : length s ≡ suc m) where
  pub first-last : s ≡ take m s ++ (at s (suc m) ∷ [])
  first-last = rw (at_suc s m) (sym (take_all (suc m) s (omega arith)) ∙ take-suc s m 0 (omega arith))

  pub length-first : length (take m s) ≡ m
  length-first = length-take-le m s (omega arith)

  length-remove : (i : ℕ) → length (remove m i s) ≡ m
  length-remove i = length-set (take m s) (i - 1) (at s (suc m)) ∙ length-first

  -- with m + 1 at the last position it is E
  is-extend : at s (suc m) ≡ suc m → s ≡ extend (suc m) (take m s)
  unfolding extend
  is-extend e = first-last ∙ ap (λ (x : ℕ). take m s ++ (x ∷ [])) e

  -- and with m + 1 at another position i it is I(i,·)
  is-insert : (i : ℕ) → 1 ≤ i → i ≤ m → at s i ≡ suc m → s ≡ insert (suc m) i (remove m i s)
  unfolding insert
  is-insert i h k e =
      let first = take m s in
      let l = length-first in
      let old : at first i ≡ suc m = get_or-take m s (i - 1) 0 (omega arith) ∙ e in
      let here = get_or-set_same first (i - 1) (at s (suc m)) 0 (omega arith) in
      let back : put (remove m i s) i (suc m) ≡ first = set-set first (i - 1) (at s (suc m)) (suc m) ∙ ap (put first i) (sym old) ∙ set-get_or first (i - 1) 0 in
      rw (here, back) first-last

module _ {m : ℕ} {s : List ℕ} (p : IsPermutation (suc m) s) where
  split-extend : at s (suc m) ≡ suc m → Split m s
  split-extend top =
      let e = is-extend s p.size top in
      let γ = take m s in
      subst (Split m) (sym e) (extended γ (permutation-extend γ (length-first s p.size) (subst (IsPermutation (suc m)) e p)))

  split-insert : (i : ℕ) → 1 ≤ i → i ≤ m → at s i ≡ suc m → Split m s
  split-insert i h k top =
      let e = is-insert s p.size i h k top in
      let γ = remove m i s in
      subst (Split m) (sym e) (inserted i γ h k (permutation_insert γ (length-remove s p.size i) i h k (subst (IsPermutation (suc m)) e p)))

  split_at : (i : ℕ) → 1 ≤ i → i ≤ suc m → at s i ≡ suc m → Split m s
  split_at i h k top =
      cases
      (eqb i (suc m))
      (λ t. split-extend (ap (at s) (sym (eqb-true i (suc m) t)) ∙ top))
      (λ f. split-insert i h (omega (arith, eqb-false i (suc m) f)) top)

-- every permutation of m + 1 comes so: value m + 1 stands at some position
pub split : {m : ℕ} {s : List ℕ} → IsPermutation (suc m) s → Split m s
split {m} p = let o = onto p (suc m) (omega arith) (omega arith) in split_at p o.0 o.1 o.2 o.3

-- and in one way only: E(γ) tells γ
pub extend_one : (m : ℕ) (γ δ : List ℕ) → extend m γ ≡ extend m δ → γ ≡ δ
unfolding extend
extend_one m γ δ e = append_cancel_right γ δ (m ∷ []) e

-- `remove` undoes I(i,·)
remove-insert : {m : ℕ} (γ : List ℕ) (i : ℕ) → 1 ≤ i → i ≤ m → length γ ≡ m → remove m i (insert (suc m) i γ) ≡ γ
unfolding insert
remove-insert {m} γ i h k z =
    let top = at-insert-top γ i h k z in
    let first = take_at (put γ i (suc m)) (at γ i ∷ []) m (length-put γ i h k z) in
    rw (top, first, set-set γ (i - 1) (suc m) (at γ i)) (set-get_or γ (i - 1) 0)

-- the position of I(i,γ) with value m + 1 is i
same-position : {m : ℕ} {γ δ : List ℕ} (i j : ℕ) → 1 ≤ i → i ≤ m → 1 ≤ j → j ≤ m → IsPermutation m γ → IsPermutation m δ
    → insert (suc m) i γ ≡ insert (suc m) j δ → i ≡ j
same-position {m} {γ} {δ} i j hi ki hj kj p q e = cases (eqb i j) (λ t. eqb-true i j t) (λ f. absurd (other (eqb-false i j f)))
  where
    other : (i ≡ j → ⊥) → ⊥
    other d =
        let here = at-insert-here γ i hi ki p.size in
        let there = at-insert-other δ j hj kj q.size i hi ki d in
        omega (arith, in_range q i hi ki, ap (λ (s : List ℕ). at s i) e)

-- I(i,γ) tells i and γ
pub insert_one : {m : ℕ} {γ δ : List ℕ} (i j : ℕ) → 1 ≤ i → i ≤ m → 1 ≤ j → j ≤ m → IsPermutation m γ → IsPermutation m δ
    → insert (suc m) i γ ≡ insert (suc m) j δ → (i ≡ j) × (γ ≡ δ)
insert_one {m} {γ} {δ} i j hi ki hj kj p q e =
    let same = same-position i j hi ki hj kj p q e in
    let again : remove m i (insert (suc m) i γ) ≡ remove m j (insert (suc m) j δ) = rw (e, same) in
    (same, sym (remove-insert γ i hi ki p.size) ∙ again ∙ remove-insert δ j hj kj q.size)

-- no E(γ) is an I(i,δ): the last value of E(γ) is m + 1, and that of I(i,δ) is not
pub extend-insert : {m : ℕ} {γ δ : List ℕ} (i : ℕ) → 1 ≤ i → i ≤ m → IsPermutation m γ → IsPermutation m δ → extend (suc m) γ ≡ insert (suc m) i δ → ⊥
extend-insert {m} {γ} {δ} i h k p q e =
    let r = in_range q i h k in
    omega (arith, at-extend-top γ p.size, at-insert-top δ i h k q.size, ap (λ (s : List ℕ). at s (suc m)) e)
