-- The permutations whose cycles fall are a kind that the tree with the rule of document 02, k), lists: in one of them the least position of each cycle is the one whose value
-- is not smaller. Assumes nothing.
use mathlib.Core.Path.{◌≡◌, refl, sym, ◌∙◌}
use Prim.Native.Nat.{ℕ, suc, ◌≤◌, ◌<◌}
use native.Mathlib.Omega.{arith}
use native.Mathlib.Decide.{ℕ_discrete}
use mathlib.Core.Bool.{Bool, true, false, not, ◌&&◌}
use mathlib.Core.List.{List}
use lib.Dec.{leb, ltb}
use borrow.Author.Tests.{le-leb, lt-leb, ltb-true, ltb-false, not-false}
use borrow.Table.Steps.{cases}
use Rattle.perm.specs.Permutation.{at, IsPermutation, exchange}
use Rattle.perm.specs.Cycle.{follow, least}
use Rattle.perm.proofs.Values.{at-positions}
use Rattle.tree.specs.Tree.{tail}
use Rattle.tree.specs.Bell.{rises}
use Rattle.tree.specs.Kind.{IsBell}
use Rattle.tree.specs.Search.{Settled}
use Rattle.tree.proofs.Settled.{identity_permutation, child-low, child-top, child-other, child-permutation}
use Rattle.tree.proofs.Once.{Fits}
use Rattle.tree.proofs.Least.{holds_true, own_least, least-low, value_low, least-same}

-- a position that is not the least and does not rise has a smaller value
pub falls_below : (s : List ℕ) (i : ℕ) → least s i ≡ false → rises s i ≡ false → at s i < i
falls_below s i e f = ltb-true (at s i) i (not-false _ (rw e at f))

-- and one that is the least, or has a smaller value, does not rise
and-false : (b : Bool) → b && false ≡ false
and-false true = refl
and-false false = refl

pub no_rise : (s : List ℕ) (i : ℕ) → (i ≤ at s i → least s i ≡ true) → rises s i ≡ false
no_rise s i h = cases (ltb (at s i) i) (λ e. rw e (and-false (not (least s i)))) (λ e. rw (h (ltb-false (at s i) i e)))

-- in a permutation whose cycles fall, the least position of each cycle is the one whose value is not smaller
pub least-value : {n : ℕ} {s : List ℕ} → IsBell n s → (i : ℕ) → 1 ≤ i → i ≤ n → least s i ≡ leb i (at s i)
unfolding follow
least-value {n} {s} k i a b =
    cases
    (least s i)
    (λ e. e ∙ sym (le-leb i (at s i) (least-low k.permutation i a b (holds_true (least s i) e) 1)))
    (λ e. e ∙ sym (lt-leb i (at s i) (falls_below s i e (k.fits i a b))))

-- and where each such position is the least, they fall
pub bell : {n : ℕ} {s : List ℕ} → IsPermutation n s → ((i : ℕ) → 1 ≤ i → i ≤ n → i ≤ at s i → least s i ≡ true) → IsBell n s
bell {n} {s} p h = record { permutation = p; fits = λ i a b. no_rise s i (h i a b) }

-- an allowed exchange keeps the kind
child : {n : ℕ} (h l : ℕ) (s : List ℕ) → IsBell n s → Settled n h s → h < n → 1 ≤ l → l ≤ h → least s l ≡ true → IsBell n (exchange l (suc h) s)
child {n} h l s k w u a b t =
    bell (child-permutation w u l a (omega arith) p) (λ i c d e. by-position i c d e (ℕ_discrete i l) (ℕ_discrete i (suc h)))
  where
    p : IsPermutation n s
    p = k.permutation

    by-position : (i : ℕ) → 1 ≤ i → i ≤ n → i ≤ at (exchange l (suc h) s) i → Dec (i ≡ l) → Dec (i ≡ suc h) → least (exchange l (suc h) s) i ≡ true
    by-position i c d e (yes f) g = rw f (least-same p w u l a b l a b ∙ t)
    by-position i c d e (no f) (yes g) = absurd (omega (arith, rw g at e, child-top w u l a (omega arith), value_low p w l a b (omega arith)))
    by-position i c d e (no f) (no g) = by_size (ℕ_discrete (at s i) i)
      where
        other : at (exchange l (suc h) s) i ≡ at s i
        other = child-other w u l a (omega arith) i c f g

        by_size : Dec (at s i ≡ i) → least (exchange l (suc h) s) i ≡ true
        by_size (yes own) = own_least (exchange l (suc h) s) i (other ∙ own)
        by_size (no away) =
            let low : h < i → ⊥ = λ v. away (w.own i v d) in
            least-same p w u l a b i c (omega arith) ∙ least-value k i c d ∙ le-leb i (at s i) (rw other at e)

-- an exchange that leads to the kind was allowed, and began with it
parent : {n : ℕ} (h l : ℕ) (s : List ℕ) → IsPermutation n s → Settled n h s → h < n → 1 ≤ l → l ≤ h → IsBell n (exchange l (suc h) s) → IsBell n s × (least s l ≡ true)
parent {n} h l s p w u a b k = (bell p (λ i c d e. by-position i c d e (ℕ_discrete i l) (ℕ_discrete (at s i) i)), allowed)
  where
    -- what is not smaller after the exchange was the least before it
    least-before : (i : ℕ) → 1 ≤ i → i ≤ h → i ≤ at (exchange l (suc h) s) i → least s i ≡ true
    least-before i c d e = sym (least-same p w u l a b i c d) ∙ least-value k i c (omega arith) ∙ le-leb i (at (exchange l (suc h) s) i) e

    allowed : least s l ≡ true
    allowed = least-before l a b (omega (arith, child-low w u l a (omega arith)))

    by-position : (i : ℕ) → 1 ≤ i → i ≤ n → i ≤ at s i → Dec (i ≡ l) → Dec (at s i ≡ i) → least s i ≡ true
    by-position i c d e (yes f) g = rw f allowed
    by-position i c d e (no f) (yes own) = own_least s i own
    by-position i c d e (no f) (no away) =
        let low : h < i → ⊥ = λ v. away (w.own i v d) in
        least-before i c (omega arith) (rw (child-other w u l a (omega arith) i c f (λ z. omega arith)) e)

-- so this rule's tree lists them
pub bells_fit : (n : ℕ) → Fits tail n (IsBell n)
bells_fit n = record {
  permutation = λ s k. k.permutation;
  identity = bell (identity_permutation n) (λ i a b c. own_least _ i (at-positions n i a b));
  child = child;
  parent = parent;
}
