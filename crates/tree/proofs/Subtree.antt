-- The tree position by position: what hangs below a permutation is the subtrees of its children, for any rule; and so the document's sentence holds without a bound on
-- the generations. Assumes nothing.
use mathlib.Core.Path.{◌≡◌, refl, sym, ap, ap₂, ◌∙◌}
use Prim.Native.Nat.{ℕ, zero, suc, ◌+◌, ◌-◌, ◌≤◌}
use native.Mathlib.Omega.{arith}
use mathlib.Core.List.{List, ◌∷◌, ◌++◌}
use lib.Dec.{ltb}
use lib.ListN.{length}
use borrow.Author.Tests.{le-ltb}
use Rattle.perm.specs.Lists.{positions}
use Rattle.perm.specs.Permutation.{IsPermutation, exchange}
use Rattle.tree.specs.Tree.{Rule, each, highest, subtree, tree}
use Rattle.tree.specs.Search.{hanging, rows, Settled}
use Rattle.tree.proofs.Each.{each_cong, each_none, each_first}
use Rattle.tree.proofs.Settled.{settled_higher, identity_settled, identity_permutation, child-top, child-settled, child-permutation, child-away, highest_least, highest_most, highest_settled, highest-is, highest_none}

-- the subtrees, d generations deep, of the children of s that exchange position j
abbrev children_at : Rule → ℕ → List ℕ → ℕ → List (List ℕ)
children_at rule d s j = each (rule s) (λ l. subtree rule d (exchange l j s)) (j - 1)

-- and of those that exchange a position above h
abbrev children_above : Rule → ℕ → ℕ → List ℕ → List (List ℕ)
children_above rule d h s = each (ltb h) (children_at rule d s) (length s)

-- for permutations whose positions above h are settled, m positions remaining and generations enough for them, they are what hangs below
abbrev Agrees : Rule → ℕ → Type 0
Agrees rule m = (d n h : ℕ) (s : List ℕ) → IsPermutation n s → Settled n h s → h + m ≡ n → m ≤ suc d → children_above rule d h s ≡ hanging rule h m s

-- a child's highest position away is the one that was exchanged
pub child_highest : {n h : ℕ} {s : List ℕ} (m : ℕ) → IsPermutation n s → Settled n h s → suc h + m ≡ n → (l : ℕ) → 1 ≤ l → l ≤ h → highest (exchange l (suc h) s) ≡ suc h
child_highest {n} {h} {s} m p w e l a b =
    let x = exchange l (suc h) s in
    let v = child-settled w (omega arith) l a (omega arith) in
    rw (v.count, ← e)
    (highest-is x (suc h) m (omega arith) (λ f. child-away w (omega arith) l a (omega arith) p b (sym (child-top w (omega arith) l a (omega arith)) ∙ f)) (λ i c d. v.own i c (omega arith)))

-- so a child's subtree is the child and what hangs below it
child_agrees : (rule : Rule) (m d : ℕ) {n h : ℕ} {s : List ℕ} → Agrees rule m → IsPermutation n s → Settled n h s → suc h + m ≡ n → m ≤ d → (l : ℕ) → 1 ≤ l → l ≤ h
    → subtree rule d (exchange l (suc h) s) ≡ rows rule (suc h) m (exchange l (suc h) s)
unfolding subtree hanging
child_agrees rule zero zero ih p w e u l a b = refl
child_agrees rule (suc m) zero ih p w e u l a b = absurd (omega arith)
child_agrees rule m (suc d) {n} {h} {s} ih p w e u l a b =
    let x = exchange l (suc h) s in
    let q = child-permutation w (omega arith) l a (omega arith) p in
    let v = child-settled w (omega arith) l a (omega arith) in
    rw (child_highest m p w e l a b) (ap (λ r. x ∷ r) (ih d n (suc h) x q v e u))

agrees : (rule : Rule) (m : ℕ) → Agrees rule m
unfolding hanging
agrees rule zero d n h s p w e u =
    let z : length s ≡ h = omega (arith, w.count) in
    rw z (each_none (ltb h) _ h (λ j a b. le-ltb h j b))
agrees rule (suc m) d n h s p w e u =
    let z : length s ≡ suc h + m = omega (arith, w.count) in
    let y : suc h - 1 ≡ h = omega arith in
    let first : children_at rule d s (suc h) ≡ each (rule s) (λ l. rows rule (suc h) m (exchange l (suc h) s)) h =
    rw y (each_cong (rule s) (rule s) _ _ h (λ l a b. refl) (λ l a b t. child_agrees rule m d (agrees rule m) p w (omega arith) (omega arith) l a b)) in
    let rest : children_above rule d (suc h) s ≡ hanging rule (suc h) m s = agrees rule m d n (suc h) s p (settled_higher (suc h) (omega arith) w) (omega arith) (omega arith) in
    rw z (each_first (children_at rule d s) h m ∙ ap₂ ◌++◌ first (rw z at rest))

-- the positions above the highest one away are settled, and they are the ones that remain
module _ {n : ℕ} {s : List ℕ} (p : IsPermutation n s) (some : 1 ≤ n) where
  above-highest : Settled n (highest s) s
  above-highest = let z = p.size in record { count = z; own = λ i a b. highest_settled s (length s) i a (omega arith) }

  -- so, with as many generations as there are positions or more, a permutation's children and all below them are what hangs below it
  children-hang : (rule : Rule) (d : ℕ) → n ≤ suc d → children_above rule d (highest s) s ≡ hanging rule (highest s) (n - highest s) s
  children-hang rule d u =
      let z = p.size in
      let least = highest_least s (length s) in
      let most = highest_most s (length s) (omega arith) in
      agrees rule (n - highest s) d n (highest s) s p above-highest (omega arith) (omega arith)

-- the whole tree
pub tree-rows : (rule : Rule) (n : ℕ) → tree rule n ≡ rows rule 0 n (positions n)
unfolding subtree hanging each
tree-rows rule zero = refl
tree-rows rule (suc n) =
    let s = positions (suc n) in
    let w = identity_settled (suc n) in
    let none : highest s ≡ 1 = highest_none s (length s) (λ i a b. w.own i (omega arith) (omega (arith, w.count))) in
    let y : suc n - 1 ≡ n = omega arith in
    let hang : children_above rule n (highest s) s ≡ hanging rule (highest s) (suc n - highest s) s = children-hang (identity_permutation (suc n)) (omega arith) rule n (omega arith) in
    ap (λ r. s ∷ r) (hang ∙ rw (none, y))

-- document 02's sentence: a permutation, then its children, j rising, for each j, l rising, each with all its own children before the next
pub sentence : (rule : Rule) (n : ℕ) {s : List ℕ} → IsPermutation n s
    → subtree rule n s ≡ s ∷ each (ltb (highest s)) (λ j. each (rule s) (λ l. subtree rule n (exchange l j s)) (j - 1)) n
unfolding subtree each
sentence rule zero p = refl
sentence rule (suc n) {s} p =
    let more = children-hang p (omega arith) rule (suc n) (omega arith) in
    ap (λ r. s ∷ r) (children-hang p (omega arith) rule n (omega arith) ∙ sym more ∙ ap (each (ltb (highest s)) (children_at rule (suc n) s)) p.size)
