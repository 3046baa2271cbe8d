-- Counting the values that stand at their own position, one position after another: what a loop that does so keeps. Assumes nothing.
use mathlib.Core.Path.{◌≡◌, ◌∙◌}
use Prim.Native.Nat.{ℕ, ◌+◌, ◌-◌}
use native.Mathlib.Omega.{arith}
use mathlib.Core.Bool.{Bool}
use mathlib.Core.List.{List}
use borrow.Author.Tests.{eq-eqb, ne_eqb}
use lib.Dec.{eqb}
use lib.ListN.{length, get_or}
use Rattle.perm.specs.Permutation.{at, fixed}
use Rattle.perm.proofs.Counted.{CountedTo, counted_none, counted_hit, counted_miss}

-- the value at position i is i itself
unfoldable pub fixes : List ℕ → ℕ → Bool
fixes a i = eqb (at a i) i

-- index i holds position i + 1
fixes_at : (a : List ℕ) (i : ℕ) → fixes a (i + 1) ≡ eqb (get_or a i 0) (i + 1)
unfolding fixes
fixes_at a i = let y : i + 1 - 1 ≡ i = omega arith in rw y

-- so many of the first i are fixed
abbrev pub FixedTo : List ℕ → ℕ → ℕ → Type 0
FixedTo a i count = CountedTo (fixes a) i count

-- none of none
pub fixed_none : (a : List ℕ) → FixedTo a 0 0
fixed_none a = counted_none (fixes a)

-- one position more, at index i: a value that stands at its own position
pub fixed_here : (a : List ℕ) {i count : ℕ} → get_or a i 0 ≡ i + 1 → FixedTo a i count → FixedTo a (i + 1) (count + 1)
fixed_here a {i} e = counted_hit {p = fixes a} (fixes_at a i ∙ eq-eqb _ _ e)

-- and one that does not
pub fixed_other : (a : List ℕ) {i count : ℕ} → (get_or a i 0 ≡ i + 1 → ⊥) → FixedTo a i count → FixedTo a (i + 1) count
fixed_other a {i} d = counted_miss {p = fixes a} (fixes_at a i ∙ ne_eqb _ _ d)

-- past the last position they are the fixed points of all
pub fixed_all : (a : List ℕ) {i count : ℕ} → i ≡ length a → FixedTo a i count → count ≡ fixed a
unfolding fixed fixes
fixed_all a e w = rw e at w.counted
