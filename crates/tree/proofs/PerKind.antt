-- What the list and the searches need of a kind, case by case; and so the list of each kind holds exactly its permutations, each once. Assumes nothing.
use mathlib.Core.Path.{◌≡◌, ap}
use Prim.Native.Nat.{ℕ, suc, ◌≤◌, ◌<◌}
use native.Mathlib.Omega.{arith}
use mathlib.Core.Bool.{true}
use mathlib.Core.List.{List}
use borrow.Author.Tests.{eq-eqb}
use Rattle.perm.specs.Lists.{one}
use Rattle.perm.specs.Permutation.{at, IsPermutation, exchange}
use Rattle.perm.proofs.Tally.{tally-positions}
use Rattle.tree.specs.Kind.{rule_of, listed, IsOf}
use Rattle.tree.specs.Listing.{Holds}
use Rattle.tree.specs.Sizes.{usable_below}
use Rattle.tree.specs.Search.{count_usable, Settled}
use Rattle.tree.specs.declared.Kind.{Kind}
use Rattle.tree.specs.declared.Kind.TheVariants.{Involution, Bell}
use Rattle.tree.proofs.Once.{Fits, holds}
use Rattle.tree.proofs.Least.{own_least, least-count}
use Rattle.tree.proofs.Involutions.{involutions_fit, own_count}
use Rattle.tree.proofs.Falling.{bells_fit}

-- each kind is one that its rule's tree lists
pub fits : (kind : Kind) (n : ℕ) → Fits (rule_of kind) n (IsOf kind n)
fits Involution n = involutions_fit n
fits Bell n = bells_fit n

-- a position that has its own value may be used
own_usable : (kind : Kind) (s : List ℕ) (i : ℕ) → at s i ≡ i → rule_of kind s i ≡ true
own_usable Involution s i e = eq-eqb (at s i) i e
own_usable Bell s i e = own_least s i e

-- below a child so many positions may be used
pub count_child : (kind : Kind) {n h : ℕ} {s : List ℕ} → IsPermutation n s → Settled n h s → h < n → (l : ℕ) → 1 ≤ l → l ≤ h → rule_of kind s l ≡ true
    → count_usable kind (exchange l (suc h) s) (suc h) ≡ usable_below kind (count_usable kind s h)
count_child Involution p w room l a b t = omega (arith, own_count w room l a b t)
count_child Bell p w room l a b t = least-count p w room l a b

-- never more than before
pub below_most : (kind : Kind) (f : ℕ) → usable_below kind f ≤ f
below_most Involution f = omega arith
below_most Bell f = omega arith

-- and behind the children h + 1 may be used too
pub count_behind : (kind : Kind) {n h : ℕ} {s : List ℕ} → Settled n h s → h < n → count_usable kind s (suc h) ≡ suc (count_usable kind s h)
count_behind kind {n} {h} {s} w room = omega (arith, tally-positions (rule_of kind s) h, ap one (own_usable kind s (suc h) (w.own (suc h) (omega arith) (omega arith))))

-- every permutation of the kind exactly once, and nothing else
pub complete : (kind : Kind) (n : ℕ) → Holds (IsOf kind n) (listed kind n)
complete kind n = holds (fits kind n)
