-- How many rows a subtree has, and which row stands at a place: in the subtree of a child, or behind the children that exchange the next position. Assumes nothing.
use mathlib.Core.Path.{◌≡◌, refl, ap, ◌∙◌}
use Prim.Native.Nat.{ℕ, zero, suc, ◌+◌, ◌-◌, ◌*◌, ◌≤◌, ◌<◌}
use native.Mathlib.Omega.{arith}
use mathlib.Core.Bool.{true}
use mathlib.Core.List.{List, []}
use lib.ListN.{length, length-append, get_or-append}
use lib.Seq.{get_or-append-add}
use Rattle.perm.specs.Lists.{tally, range, positions}
use Rattle.perm.specs.Permutation.{IsPermutation, exchange}
use Rattle.tree.specs.Tree.{each}
use Rattle.tree.specs.Kind.{rule_of, listed}
use Rattle.tree.specs.Listing.{row_at}
use Rattle.tree.specs.Sizes.{usable_below, size}
use Rattle.tree.specs.Search.{hanging, rows, count_usable, Settled}
use Rattle.tree.specs.declared.Kind.{Kind}
use Rattle.tree.proofs.Each.{row_inside, length-each, row-each}
use Rattle.tree.proofs.Settled.{settled_higher, identity_settled, identity_permutation, child-settled, child-permutation}
use Rattle.tree.proofs.Subtree.{tree-rows}
use Rattle.tree.proofs.PerKind.{count_child, count_behind}

module _ (kind : Kind) where
  -- the rows of s and what hangs below it, and how many positions may be used below a child of it
  abbrev rows_of : ℕ → ℕ → List ℕ → List (List ℕ)
  rows_of = rows (rule_of kind)

  abbrev below : List ℕ → ℕ → ℕ
  below s h = usable_below kind (count_usable kind s h)

  -- the children that exchange one of the positions 1 to h with h + 1, each with what hangs below it
  abbrev blocks : ℕ → ℕ → List ℕ → List (List ℕ)
  blocks h m s = each (rule_of kind s) (λ l. rows_of (suc h) m (exchange l (suc h) s)) h

  -- the subtrees with m positions remaining have as many rows as their sizes say
  abbrev Sized : ℕ → Type 0
  Sized m = (n h : ℕ) (s : List ℕ) → IsPermutation n s → Settled n h s → h + m ≡ n → length (rows_of h m s) ≡ size kind (count_usable kind s h) m

  module _ (m : ℕ) (sized : Sized m) {n h : ℕ} {s : List ℕ} (p : IsPermutation n s) (w : Settled n h s) (e : h + suc m ≡ n) where
    -- where they have, the children's subtrees are of one size
    even : (l : ℕ) → 1 ≤ l → l ≤ h → rule_of kind s l ≡ true → length (rows_of (suc h) m (exchange l (suc h) s)) ≡ size kind (below s h) m
    even l a b t =
        let room : h < n = omega arith in
        rw (count_child kind p w room l a b t)
        at (sized n (suc h) (exchange l (suc h) s) (child-permutation w room l a (omega arith) p) (child-settled w room l a (omega arith)) (omega arith))

    length-blocks : length (blocks h m s) ≡ count_usable kind s h * size kind (below s h) m
    length-blocks = length-each (rule_of kind s) _ (size kind (below s h) m) h even

  -- so they have for every m
  pub sized : (m : ℕ) → Sized m
  unfolding hanging size
  sized zero n h s p w e = refl
  sized (suc m) n h s p w e =
      let behind : suc (length (hanging (rule_of kind) (suc h) m s)) ≡ size kind (suc (count_usable kind s h)) m =
      rw (count_behind kind w (omega arith)) at (sized m n (suc h) s p (settled_higher (suc h) (omega arith) w) (omega arith)) in
      omega (arith, length-append (blocks h m s) (hanging (rule_of kind) (suc h) m s), length-blocks m (sized m) p w e)

  -- the list of n has T(0,n) rows
  pub size-listed : (n : ℕ) → length (listed kind n) ≡ size kind 0 n
  unfolding tally range
  size-listed n = ap length (tree-rows (rule_of kind) n) ∙ sized n n 0 (positions n) (identity_permutation n) (identity_settled n) (omega arith)

  module _ (m : ℕ) {n h : ℕ} {s : List ℕ} (p : IsPermutation n s) (w : Settled n h s) (e : h + suc m ≡ n) where
    -- a place behind s and the children before l is one of the child that exchanges l
    pub row-child : (l i : ℕ) → 1 ≤ l → l ≤ h → rule_of kind s l ≡ true → i < size kind (below s h) m
        → row_at (rows_of h (suc m) s) (suc (count_usable kind s (l - 1) * size kind (below s h) m + i)) ≡ row_at (rows_of (suc h) m (exchange l (suc h) s)) i
    unfolding hanging
    row-child l i a b t u =
        let inside = row_inside (rule_of kind s) (size kind (below s h) m) h l i a b t u in
        get_or-append (blocks h m s) (hanging (rule_of kind) (suc h) m s) [] _ (rw (length-blocks m (sized m) p w e) inside)
        ∙ row-each (rule_of kind s) _ (size kind (below s h) m) h l i (even m (sized m) p w e) a b t u

    -- a place behind all of these is one of what hangs below s from h + 2 on
    pub row-behind : (i : ℕ) → row_at (rows_of h (suc m) s) (suc (count_usable kind s h * size kind (below s h) m + i)) ≡ row_at (rows_of (suc h) m s) (suc i)
    unfolding hanging
    row-behind i = rw (← (length-blocks m (sized m) p w e)) (get_or-append-add (blocks h m s) (hanging (rule_of kind) (suc h) m s) i [])
