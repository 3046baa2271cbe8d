-- For any rule: no permutation occurs twice in the tree. And where a kind of permutation is kept from parent to child and from child to parent, the tree holds exactly
-- the permutations of that kind. Assumes nothing.
use mathlib.Core.Path.{◌≡◌, refl, sym, ap, subst, ◌∙◌}
use Prim.Native.Nat.{ℕ, zero, suc, ◌+◌, ◌-◌, ◌≤◌, ◌<◌}
use native.Mathlib.Omega.{arith}
use native.Mathlib.Decide.{ℕ_discrete}
use mathlib.Core.Bool.{Bool, true, ◌||◌}
use mathlib.Core.List.{List, [], ◌∷◌}
use lib.Dec.{eqb}
use lib.ListN.{length}
use borrow.Author.Tests.{eq-eqb, ne_eqb}
use borrow.Table.Steps.{cases}
use Rattle.perm.specs.Lists.{one, tally, same, positions}
use Rattle.perm.specs.Permutation.{at, IsPermutation, exchange}
use Rattle.perm.specs.Array.{position, IsArray, partial}
use Rattle.perm.proofs.Tally.{tally-append, one_passes, two-pass, some-passes}
use Rattle.perm.proofs.Same.{same_refl, same_equal, same_true}
use Rattle.perm.proofs.Exchange.{exchange_same}
use Rattle.perm.proofs.Arrays.{has_array, product-partial}
use Rattle.perm.proofs.Search.{one_bound}
use Rattle.tree.specs.Tree.{Rule, each, tree}
use Rattle.tree.specs.Listing.{row_at, Holds}
use Rattle.tree.specs.Search.{hanging, rows, Settled}
use Rattle.tree.proofs.Each.{each-taken, each_cong, tally-part, tally-some, tally-most}
use Rattle.tree.proofs.Settled.{identity_settled, identity_permutation, child-settled, child-permutation, child-back, child-position}
use Rattle.tree.proofs.Subtree.{tree-rows}

-- The rows below s from h + 1 on stand in the subtrees of its exchanges of 1 to h + 1 with h + 1: of the allowed positions, and of h + 1 itself, which is s.
module _ (rule : Rule) (h m : ℕ) (s : List ℕ) where
  abbrev pub takes : ℕ → Bool
  takes l = eqb l (suc h) || rule s l

  abbrev pub next : ℕ → List (List ℕ)
  next l = rows rule (suc h) m (exchange l (suc h) s)

  pub tally-rows : (q : List ℕ → Bool) → tally q (rows rule h (suc m) s) ≡ tally q (each takes next (suc h))
  unfolding hanging tally
  tally-rows q =
      let top : takes (suc h) ≡ true = rw (eq-eqb (suc h) (suc h) refl) in
      let low : each takes next h ≡ each (rule s) next h = each_cong takes (rule s) next next h (λ l a b. rw (ne_eqb l (suc h) (λ e. omega arith))) (λ l a b t. refl) in
      rw (each-taken takes next h top, low, exchange_same (suc h) s)
      (omega (arith, tally-append q (each (rule s) next h) (hanging rule (suc h) m s), tally-append q (each (rule s) next h) (s ∷ hanging rule (suc h) m s)))

  -- an allowed position, or h + 1 itself, is taken
  pub takes-allowed : (l : ℕ) → (l ≤ h → rule s l ≡ true) → 1 ≤ l → l ≤ suc h → takes l ≡ true
  takes-allowed l t a b = by-top (ℕ_discrete l (suc h))
    where
      by-top : Dec (l ≡ suc h) → takes l ≡ true
      by-top (yes e) = rw (eq-eqb l (suc h) e)
      by-top (no d) = rw (ne_eqb l (suc h) d) (t (omega arith))

  -- and no other is
  pub takes-only : (l : ℕ) → takes l ≡ true → l ≤ h → rule s l ≡ true
  takes-only l t b = rw (ne_eqb l (suc h) (λ e. omega arith)) at t

-- t with the values h + m down to h + 1 brought home, one exchange each
unfoldable lowered : List ℕ → ℕ → ℕ → List ℕ
lowered t h zero = t
lowered t h (suc m) = exchange (position (suc h) (lowered t (suc h) m)) (suc h) (lowered t (suc h) m)

-- the one row of a list of one
pub alone : (t s : List ℕ) → 1 ≤ tally (same t) (s ∷ []) → t ≡ s
unfolding tally
alone t s g = cases (same t s) (same_true t s) (λ u. absurd (omega (arith, ap one u)))

module _ (rule : Rule) (t : List ℕ) where
  -- a row of what stands at s is s, once those values are home
  met : (m : ℕ) {n h : ℕ} {s : List ℕ} → IsPermutation n s → Settled n h s → h + m ≡ n → 1 ≤ tally (same t) (rows rule h m s) → lowered t h m ≡ s
  unfolding lowered hanging
  met zero {s = s} p w e g = alone t s g
  met (suc m) {h = h} {s = s} p w e g =
      let (l, a, b, u, f) = tally-some (same t) (takes rule h m s) (next rule h m s) (suc h) (rw (tally-rows rule h m s (same t)) at g) in
      let x = met m (child-permutation w (omega arith) l a b p) (child-settled w (omega arith) l a b) (omega arith) f in
      rw (x, child-position w (omega arith) l a b p) (child-back w (omega arith) l a b)

  -- so it stands there once
  few : (m : ℕ) {n h : ℕ} {s : List ℕ} → IsPermutation n s → Settled n h s → h + m ≡ n → tally (same t) (rows rule h m s) ≤ 1
  unfolding hanging tally
  few zero {s = s} p w e = omega (arith, one_bound (same t s))
  few (suc m) {n} {h} {s} p w e =
      rw (tally-rows rule h m s (same t))
      (tally-most (same t) (takes rule h m s) (next rule h m s) (suc h)
      (λ l a b u. few m (child-permutation w (omega arith) l a b p) (child-settled w (omega arith) l a b) (omega arith))
      apart)
    where
      home_at : (l : ℕ) → 1 ≤ l → l ≤ suc h → 1 ≤ tally (same t) (next rule h m s l) → position (suc h) (lowered t (suc h) m) ≡ l
      home_at l a b g =
          rw (met m (child-permutation w (omega arith) l a b p) (child-settled w (omega arith) l a b) (omega arith) g) (child-position w (omega arith) l a b p)

      apart : (l k : ℕ) → 1 ≤ l → l < k → k ≤ suc h → takes rule h m s l ≡ true → takes rule h m s k ≡ true
          → 1 ≤ tally (same t) (next rule h m s l) → 1 ≤ tally (same t) (next rule h m s k) → ⊥
      apart l k a b c u v f g = omega (arith, home_at l a (omega arith) f, home_at k (omega arith) c g)

-- no permutation stands at two places of the tree
pub only : (rule : Rule) (n r q : ℕ) → r < length (tree rule n) → q < length (tree rule n) → row_at (tree rule n) r ≡ row_at (tree rule n) q → r ≡ q
only rule n r q a b e =
    let not-below : r < q → ⊥ = λ l. twice r q l b e in
    let not-above : q < r → ⊥ = λ l. twice q r l a (sym e) in
    omega arith
  where
    once : (t : List ℕ) → tally (same t) (tree rule n) ≤ 1
    once t = rw (tree-rows rule n) (few rule t n (identity_permutation n) (identity_settled n) (omega arith))

    twice : (r q : ℕ) → r < q → q < length (tree rule n) → row_at (tree rule n) r ≡ row_at (tree rule n) q → ⊥
    twice r q l b e =
        let t = row_at (tree rule n) r in
        omega (arith, once t, two-pass (same t) [] (tree rule n) r q l b (same_refl t) (same_equal t _ e))

-- A kind of permutations of n: the identity is of it, an allowed exchange keeps it, and one that leads to it was allowed and began with it.
pub record Fits (rule : Rule) (n : ℕ) (Kind : List ℕ → Type 0) : Type 0 where
  pub permutation : (s : List ℕ) → Kind s → IsPermutation n s
  pub identity : Kind (positions n)
  pub child : (h l : ℕ) (s : List ℕ) → Kind s → Settled n h s → h < n → 1 ≤ l → l ≤ h → rule s l ≡ true → Kind (exchange l (suc h) s)
  pub parent : (h l : ℕ) (s : List ℕ) → IsPermutation n s → Settled n h s → h < n → 1 ≤ l → l ≤ h → Kind (exchange l (suc h) s) → Kind s × (rule s l ≡ true)

-- the partial products of an array are permutations, and settled above where they end
pub partial_settled : {n : ℕ} {a : List ℕ} → IsArray n a → (h : ℕ) → h ≤ n → IsPermutation n (partial n a h) × Settled n h (partial n a h)
unfolding partial
partial_settled {n} w zero u = (identity_permutation n, identity_settled n)
partial_settled {n} {a} w (suc h) u =
    let (p, v) = partial_settled w h (omega arith) in
    let (l, k) = w.bound (suc h) (omega arith) u in
    (child-permutation v u (at a (suc h)) l k p, child-settled v u (at a (suc h)) l k)

module _ {rule : Rule} {n : ℕ} {Kind : List ℕ → Type 0} (fit : Fits rule n Kind) where
  -- an exchange of one of 1 to h + 1 with h + 1 that is taken keeps the kind
  pub kept_next : (h l : ℕ) (s : List ℕ) → Kind s → Settled n h s → h < n → 1 ≤ l → l ≤ suc h → (l ≤ h → rule s l ≡ true) → Kind (exchange l (suc h) s)
  kept_next h l s k w u a b t = by-top (ℕ_discrete l (suc h))
    where
      by-top : Dec (l ≡ suc h) → Kind (exchange l (suc h) s)
      by-top (yes e) = rw (e, exchange_same (suc h) s) k
      by-top (no d) = fit.child h l s k w u a (omega arith) (t (omega arith))

  -- what stands at one of the kind is of the kind
  kept : (t : List ℕ) (m : ℕ) {h : ℕ} {s : List ℕ} → Kind s → Settled n h s → h + m ≡ n → 1 ≤ tally (same t) (rows rule h m s) → Kind t
  unfolding hanging
  kept t zero {s = s} k w e g = rw (alone t s g) k
  kept t (suc m) {h} {s} k w e g =
      let (l, a, b, u, f) = tally-some (same t) (takes rule h m s) (next rule h m s) (suc h) (rw (tally-rows rule h m s (same t)) at g) in
      kept t m (kept_next h l s k w (omega arith) a b (takes-only rule h m s l u)) (child-settled w (omega arith) l a b) (omega arith) f

  module _ (a : List ℕ) (w : IsArray n a) where
    -- one exchange back from a partial product of the kind
    back : (h : ℕ) → h < n → Kind (partial n a (suc h)) → Kind (partial n a h) × (at a (suc h) ≤ h → rule (partial n a h) (at a (suc h)) ≡ true)
    unfolding partial
    back h u k = by-top (ℕ_discrete (at a (suc h)) (suc h))
      where
        by-top : Dec (at a (suc h) ≡ suc h) → Kind (partial n a h) × (at a (suc h) ≤ h → rule (partial n a h) (at a (suc h)) ≡ true)
        by-top (yes e) = ((rw (e, exchange_same (suc h)) at k), λ c. absurd (omega arith))
        by-top (no d) =
            let (p, v) = partial_settled w h (omega arith) in
            let (l, b) = w.bound (suc h) (omega arith) u in
            let (x, t) = fit.parent h (at a (suc h)) (partial n a h) p v u l (omega arith) k in
            (x, λ c. t)

    -- where the product of an array is of the kind, so are its partial products
    partial-kind : (m h : ℕ) → h + m ≡ n → Kind (partial n a n) → Kind (partial n a h)
    partial-kind zero h e k = subst (λ (x : ℕ). Kind (partial n a x)) (omega arith) k
    partial-kind (suc m) h e k = (back h (omega arith) (partial-kind m (suc h) (omega arith) k)).0

    -- and its exchanges are allowed
    pub partial-allowed : Kind (partial n a n) → (h : ℕ) → h < n → at a (suc h) ≤ h → rule (partial n a h) (at a (suc h)) ≡ true
    partial-allowed k h u = (back h u (partial-kind (n - suc h) (suc h) (omega arith) k)).1

    -- so it stands below each of them
    reached : (m h : ℕ) → h + m ≡ n → Kind (partial n a n) → 1 ≤ tally (same (partial n a n)) (rows rule h m (partial n a h))
    unfolding hanging tally partial
    reached zero h e k =
        let z : h ≡ n = omega arith in
        let here : partial n a h ≡ partial n a n = ap (partial n a) z in
        rw here (omega (arith, ap one (same_refl (partial n a n))))
    reached (suc m) h e k =
        let (l, b) = w.bound (suc h) (omega arith) (omega arith) in
        let s = partial n a h in
        let below : 1 ≤ tally (same (partial n a n)) (next rule h m s (at a (suc h))) = reached m (suc h) (omega arith) k in
        let t = takes-allowed rule h m s (at a (suc h)) (partial-allowed k h (omega arith)) l b in
        rw (tally-rows rule h m s (same (partial n a n)))
        (omega (arith, tally-part (same (partial n a n)) (takes rule h m s) (next rule h m s) (suc h) (at a (suc h)) l b t))

  -- each of the kind is in the tree
  member : (t : List ℕ) → Kind t → 1 ≤ tally (same t) (tree rule n)
  unfolding partial
  member t k =
      let (a, v) = has_array (fit.permutation t k) in
      let w : IsArray n a = rw (fit.permutation t k).size at v.array in
      let made : partial n a n ≡ t = sym (product-partial a w.size) ∙ v.equal in
      rw (tree-rows rule n, ← made) (reached a w n 0 (omega arith) (rw made k))

  -- and what is in the tree is of the kind
  of_kind : (t : List ℕ) → 1 ≤ tally (same t) (tree rule n) → Kind t
  of_kind t g = kept t n fit.identity (identity_settled n) (omega arith) (rw (tree-rows rule n) at g)

  -- so the tree holds exactly those of the kind, each once
  pub holds : Holds Kind (tree rule n)
  holds = record {
    sound = λ place u. of_kind (row_at (tree rule n) place) (one_passes (same (row_at (tree rule n) place)) [] (tree rule n) place u (same_refl _));
    place = λ s k. let (r, u, e) = some-passes (same s) [] (tree rule n) (member s k) in (r, u, sym (same_true s _ e));
    only = only rule n;
  }
