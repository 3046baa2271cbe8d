-- The permutations with no cycle longer than two are a kind that the tree with the rule of document 02, j), lists; and a child has one position less with its own value.
-- Assumes nothing.
use mathlib.Core.Path.{◌≡◌, sym, ap, ◌∙◌}
use Prim.Native.Nat.{ℕ, zero, suc, ◌≤◌, ◌<◌}
use native.Mathlib.Omega.{arith}
use native.Mathlib.Decide.{ℕ_discrete}
use mathlib.Core.Bool.{Bool, true, false, not}
use mathlib.Core.Logic.{◌≢◌}
use mathlib.Core.List.{List}
use lib.Dec.{eqb}
use borrow.Author.Tests.{eqb-true, eq-eqb, ne_eqb, not-false}
use Rattle.perm.specs.Lists.{one, tally, positions}
use Rattle.perm.specs.Permutation.{at, IsPermutation, exchange}
use Rattle.perm.proofs.Tally.{tally-positions, tally-range_cong}
use Rattle.perm.proofs.Values.{in_range, injective, at-positions}
use Rattle.tree.specs.Tree.{home}
use Rattle.tree.specs.Kind.{IsInvolution}
use Rattle.tree.specs.Search.{Settled}
use Rattle.tree.proofs.Involution.{longer_two}
use Rattle.tree.proofs.Settled.{identity_permutation, child-low, child-top, child-other, child-permutation}
use Rattle.tree.proofs.Once.{Fits}

-- two steps lead back
pub two_steps : {n : ℕ} {s : List ℕ} → IsInvolution n s → (i : ℕ) → 1 ≤ i → i ≤ n → at s (at s i) ≡ i
two_steps {n} {s} k i a b = eqb-true (at s (at s i)) i (not-false _ (sym (longer_two s i) ∙ k.fits i a b))

-- and where they do, no cycle is longer
pub involution : {n : ℕ} {s : List ℕ} → IsPermutation n s → ((i : ℕ) → 1 ≤ i → i ≤ n → at s (at s i) ≡ i) → IsInvolution n s
involution {n} {s} p back = record { permutation = p; fits = λ i a b. longer_two s i ∙ ap not (eq-eqb (at s (at s i)) i (back i a b)) }

-- l, which has its own value in s, is exchanged with h + 1
module _ {n h : ℕ} {s : List ℕ} (p : IsPermutation n s) (w : Settled n h s) (room : h < n) (l : ℕ) (a : 1 ≤ l) (b : l ≤ h) (own : at s l ≡ l) where
  -- two steps from any other position are as they were
  two-steps-other : (i : ℕ) → 1 ≤ i → i ≤ n → i ≢ l → i ≢ suc h → at (exchange l (suc h) s) (at (exchange l (suc h) s) i) ≡ at s (at s i)
  two-steps-other i c d e f =
      let v : at (exchange l (suc h) s) i ≡ at s i = child-other w room l a (omega arith) i c e f in
      let not_low : at s i ≢ l = λ g. e (injective p i l c d a (omega arith) (g ∙ sym own)) in
      let not_top : at s i ≢ suc h = λ g. f (injective p i (suc h) c d (omega arith) (omega arith) (g ∙ sym (w.own (suc h) (omega arith) (omega arith)))) in
      rw v (child-other w room l a (omega arith) (at s i) (in_range p i c d).0 not_low not_top)

  -- from either of the two they lead back
  two-steps-low : at (exchange l (suc h) s) (at (exchange l (suc h) s) l) ≡ l
  two-steps-low = rw (child-low w room l a (omega arith)) (child-top w room l a (omega arith) ∙ own)

  two-steps-top : at (exchange l (suc h) s) (at (exchange l (suc h) s) (suc h)) ≡ suc h
  two-steps-top = rw (child-top w room l a (omega arith), own) (child-low w room l a (omega arith))

-- an allowed exchange keeps the kind
child : {n : ℕ} (h l : ℕ) (s : List ℕ) → IsInvolution n s → Settled n h s → h < n → 1 ≤ l → l ≤ h → home s l ≡ true → IsInvolution n (exchange l (suc h) s)
child {n} h l s k w u a b t =
    involution (child-permutation w u l a (omega arith) k.permutation) (λ i c d. by-position i c d (ℕ_discrete i l) (ℕ_discrete i (suc h)))
  where
    own : at s l ≡ l
    own = eqb-true (at s l) l t

    by-position : (i : ℕ) → 1 ≤ i → i ≤ n → Dec (i ≡ l) → Dec (i ≡ suc h) → at (exchange l (suc h) s) (at (exchange l (suc h) s) i) ≡ i
    by-position i c d (yes e) f = rw e (two-steps-low k.permutation w u l a b own)
    by-position i c d (no e) (yes f) = rw f (two-steps-top k.permutation w u l a b own)
    by-position i c d (no e) (no f) = two-steps-other k.permutation w u l a b own i c d e f ∙ two_steps k i c d

-- an exchange that leads to the kind was allowed, and began with it
parent : {n : ℕ} (h l : ℕ) (s : List ℕ) → IsPermutation n s → Settled n h s → h < n → 1 ≤ l → l ≤ h → IsInvolution n (exchange l (suc h) s)
    → IsInvolution n s × (home s l ≡ true)
parent {n} h l s p w u a b k = (involution p (λ i c d. by-position i c d (ℕ_discrete i l) (ℕ_discrete i (suc h))), eq-eqb (at s l) l own)
  where
    own : at s l ≡ l
    own = sym (child-top w u l a (omega arith)) ∙ rw (child-low w u l a (omega arith)) at (two_steps k l a (omega arith))

    by-position : (i : ℕ) → 1 ≤ i → i ≤ n → Dec (i ≡ l) → Dec (i ≡ suc h) → at s (at s i) ≡ i
    by-position i c d (yes e) f = rw (e, own) own
    by-position i c d (no e) (yes f) = let top = w.own (suc h) (omega arith) (omega arith) in rw (f, top) top
    by-position i c d (no e) (no f) = sym (two-steps-other p w u l a b own i c d e f) ∙ two_steps k i c d

-- so this rule's tree lists them
pub involutions_fit : (n : ℕ) → Fits home n (IsInvolution n)
involutions_fit n = record {
  permutation = λ s k. k.permutation;
  identity = involution (identity_permutation n) (λ i a b. let e = at-positions n i a b in rw (e, e));
  child = child;
  parent = parent;
}

-- two tests that differ at one position of 1 to h, where only the second passes
tally_differs : (p q : ℕ → Bool) (h l : ℕ) → 1 ≤ l → l ≤ h → p l ≡ false → q l ≡ true → ((i : ℕ) → 1 ≤ i → i ≤ h → i ≢ l → p i ≡ q i)
    → suc (tally p (positions h)) ≡ tally q (positions h)
tally_differs p q zero l a b f t same = absurd (omega arith)
tally_differs p q (suc h) l a b f t same = by_last (ℕ_discrete l (suc h)) (λ c. tally_differs p q h l a c f t (λ i d e. same i d (omega arith)))
  where
    by_last : Dec (l ≡ suc h) → (l ≤ h → suc (tally p (positions h)) ≡ tally q (positions h)) → suc (tally p (positions (suc h))) ≡ tally q (positions (suc h))
    by_last (yes e) ih =
        let rest = tally-range_cong p q 1 h (λ i c d. same i c (omega arith) (λ g. omega arith)) in
        omega (arith, tally-positions p h, tally-positions q h, ap one (rw e at f), ap one (rw e at t))
    by_last (no d) ih =
        omega (arith, tally-positions p h, tally-positions q h, ap one (same (suc h) (omega arith) (omega arith) (λ e. d (sym e))), ih (omega arith))

-- a child uses one position up
pub own_count : {n h : ℕ} {s : List ℕ} → Settled n h s → h < n → (l : ℕ) → 1 ≤ l → l ≤ h → home s l ≡ true
    → suc (tally (home (exchange l (suc h) s)) (positions (suc h))) ≡ tally (home s) (positions h)
own_count {n} {h} {s} w room l a b t =
    let x = exchange l (suc h) s in
    let low : home x l ≡ false = ne_eqb (at x l) l (λ e. omega (arith, child-low w room l a (omega arith))) in
    let top : home x (suc h) ≡ false = ne_eqb (at x (suc h)) (suc h) (λ e. omega (arith, child-top w room l a (omega arith), eqb-true (at s l) l t)) in
    let other = tally_differs (home x) (home s) h l a b low t (λ i c d e. ap (λ v. eqb v i) (child-other w room l a (omega arith) i c e (λ f. omega arith))) in
    omega (arith, tally-positions (home x) h, ap one top)
