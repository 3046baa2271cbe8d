-- The law for any rule: no permutation occurs twice in its tree; exchanging the highest position whose value is away with the position where that value stands leads from a child to its parent; and each row of the tree but
-- the first is a child of its parent, which is a row too. Assumes nothing.
use mathlib.Core.Path.{◌≡◌, sym, ap, subst, ◌∙◌}
use Prim.Native.Nat.{ℕ, zero, suc, ◌+◌, ◌-◌, ◌≤◌, ◌<◌}
use native.Mathlib.Omega.{arith}
use native.Mathlib.Decide.{ℕ_discrete}
use mathlib.Core.Bool.{true}
use mathlib.Core.Logic.{◌⊎◌, inl, inr, ⊎_elim}
use mathlib.Core.List.{List, []}
use lib.ListN.{length}
use Rattle.perm.specs.Lists.{one, tally, same, positions}
use Rattle.perm.specs.Permutation.{at, IsPermutation, exchange}
use Rattle.perm.proofs.Tally.{one_passes, some-passes}
use Rattle.perm.proofs.Same.{same_refl, same_true}
use Rattle.perm.proofs.Exchange.{exchange_same}
use Rattle.tree.specs.Tree.{Rule, highest, tree, IsChild, parent}
use Rattle.tree.specs.Listing.{row_at, IsRooted}
use Rattle.tree.specs.Search.{hanging, rows, Settled}
use Rattle.tree.proofs.Each.{tally-part, tally-some}
use Rattle.tree.proofs.Settled.{identity_settled, identity_permutation, child-settled, child-permutation, child-position, child-back, highest_most, highest_settled, highest-away}
use Rattle.tree.proofs.Subtree.{child_highest, tree-rows}
use Rattle.tree.proofs.Once.{takes, next, tally-rows, takes-only, alone, only}

-- a child's parent is the permutation whose child it is
parent_of : (rule : Rule) {n : ℕ} {s x : List ℕ} → IsPermutation n s → IsChild rule s x → parent x ≡ s
parent_of rule {n} {s} {x} p c =
    let h = c.j - 1 in
    let z = p.size in
    let y : suc h ≡ c.j = omega (arith, c.below) in
    let room : h < n = omega (arith, c.inside) in
    let w : Settled n h s = record { count = z; own = λ i a b. highest_settled s (length s) i (omega (arith, c.above)) (omega arith) } in
    let low : c.l ≤ h = omega (arith, c.below) in
    let e : x ≡ exchange c.l (suc h) s = rw y c.exchanged in
    let top : highest x ≡ suc h = rw e (child_highest (n - c.j) p w (omega (arith, c.inside)) c.l c.positive low) in
    rw (top, e, child-position w room c.l c.positive (omega arith) p) (child-back w room c.l c.positive (omega arith))

-- where the positions above h are settled, the highest one away is not above h
highest-low : {n h : ℕ} {s : List ℕ} → Settled n h s → 1 ≤ h → h ≤ n → highest s ≤ h
highest-low {n} {h} {s} w a b =
    let z = w.count in
    let most : highest s ≤ length s = highest_most s (length s) (omega arith) in
    let settled : h < highest s → at s (highest s) ≡ highest s = λ u. w.own (highest s) u (omega arith) in
    ⊎_elim
    (λ e. omega arith)
    (λ d. let not-above : h < highest s → ⊥ = λ u. d (settled u) in omega arith)
    (highest-away s (length s))

module _ (rule : Rule) (t : List ℕ) where
  -- t is s, or a child of its parent, which is among these rows
  abbrev Child : ℕ → ℕ → List ℕ → Type 0
  Child h m s = (t ≡ s) ⊎ (IsChild rule (parent t) t × (1 ≤ tally (same (parent t)) (rows rule h m s)))

  child-row : (m : ℕ) {n h : ℕ} {s : List ℕ} → IsPermutation n s → Settled n h s → h + m ≡ n → 1 ≤ tally (same t) (rows rule h m s) → Child h m s
  unfolding hanging tally
  child-row zero {s = s} p w e g = inl (alone t s g)
  child-row (suc m) {n} {h} {s} p w e g =
      let (l, a, b, u, f) = tally-some (same t) (takes rule h m s) (next rule h m s) (suc h) (rw (tally-rows rule h m s (same t)) at g) in
      by_part l a b u (child-row m (child-permutation w (omega arith) l a b p) (child-settled w (omega arith) l a b) (omega arith) f)
    where
      -- s itself is a row
      here : 1 ≤ tally (same s) (rows rule h (suc m) s)
      here = omega (arith, ap one (same_refl s))

      -- an exchange that the rule allows
      by-exchange : (l : ℕ) → 1 ≤ l → l ≤ suc h → takes rule h m s l ≡ true → t ≡ exchange l (suc h) s → Dec (l ≡ suc h) → Child h (suc m) s
      by-exchange l a b u f (yes d) = inl (f ∙ rw (d, exchange_same (suc h) s))
      by-exchange l a b u f (no d) =
          let low : l ≤ h = omega arith in
          let z = w.count in
          let c : IsChild rule s t =
          record {
            l = l;
            j = suc h;
            positive = a;
            below = omega arith;
            above = omega (arith, highest-low w (omega arith) (omega arith));
            inside = omega arith;
            allowed = takes-only rule h m s l u low;
            exchanged = f;
          } in
          let up : parent t ≡ s = parent_of rule p c in
          inr (rw up c, subst (λ (q : List ℕ). 1 ≤ tally (same q) (rows rule h (suc m) s)) (sym up) here)

      by_part : (l : ℕ) → 1 ≤ l → l ≤ suc h → takes rule h m s l ≡ true → Child (suc h) m (exchange l (suc h) s) → Child h (suc m) s
      by_part l a b u (inl f) = by-exchange l a b u f (ℕ_discrete l (suc h))
      by_part l a b u (inr (c, k)) =
          inr (c, rw (tally-rows rule h m s (same (parent t))) (omega (arith, tally-part (same (parent t)) (takes rule h m s) (next rule h m s) (suc h) l a b u)))

-- so in the tree
in_tree : (rule : Rule) (n : ℕ) (t : List ℕ) → 1 ≤ tally (same t) (tree rule n) → (t ≡ positions n) ⊎ (IsChild rule (parent t) t × (1 ≤ tally (same (parent t)) (tree rule n)))
in_tree rule n t = rw (tree-rows rule n) (child-row rule t n (identity_permutation n) (identity_settled n) (omega arith))

-- the first row is the identity
first-row : (rule : Rule) (n : ℕ) → row_at (tree rule n) 0 ≡ positions n
first-row rule n = rw (tree-rows rule n)

-- the law
pub rooted : (rule : Rule) (n : ℕ) → IsRooted rule n
rooted rule n = record {
  only = only rule n;
  up = λ s x p c. parent_of rule p c;
  child = λ r a b.
      let t = row_at (tree rule n) r in
      ⊎_elim
      (λ e. absurd (omega (arith, only rule n r 0 b (omega arith) (e ∙ sym (first-row rule n)))))
      (λ (c, g). (c, let (q, u, f) = some-passes (same (parent t)) [] (tree rule n) g in (q, u, sym (same_true (parent t) _ f))))
      (in_tree rule n t (one_passes (same t) [] (tree rule n) r b (same_refl t)));
}
