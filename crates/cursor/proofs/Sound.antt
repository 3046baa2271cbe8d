-- Check 8 taken apart: a record passes it just if it is the one that shows the plain machine in its section. Assumes nothing.
use mathlib.Core.Path.{◌≡◌, refl, sym, ap, ◌∙◌}
use mathlib.Core.Bool.{Bool, true, false, ◌&&◌}
use mathlib.Core.List.{List, [], ◌∷◌}
use Prim.Native.Nat.{ℕ, ◌≤◌}
use lib.Dec.{eqb}
use lib.Pointwise.{pointwise}
use borrow.Author.Tests.{eqb-true, eq-eqb}
use Rattle.stirling.specs.Refusal.{within}
use Rattle.stirling.specs.Count.{check_place}
use Rattle.stirling.proofs.Refusals.{and-true, within-true}
use Rattle.stirling.proofs.Counts.{cycles_passes, place-passed}
use Rattle.perm.specs.Lists.{same}
use Rattle.perm.specs.Array.{array_of}
use Rattle.perm.proofs.Tally.{refuted}
use Rattle.cursor.specs.Machine.{InSection, padded, row_of, observe}
use Rattle.perm.proofs.Same.{same_true}
use Rattle.cursor.specs.Walk.{machine_of, sound}
use Rattle.cursor.specs.declared.Cursor.{Cursor}
use Rattle.cursor.proofs.Calls.{OnPlace, in_on}

-- permutation and array those of the place
abbrev pub compared : Cursor → Bool
compared w = same w.perm (observe (machine_of w)).perm && same w.array (observe (machine_of w)).array

-- n, k, the place and the bounds in range
pub record InRange (w : Cursor) : Type 0 where
  pub listed : check_place w.n w.k w.highest ≡ 0
  pub inside : within w.lowest w.highest w.place ≡ true

-- where they are, permutation and array decide
pub sound_compares : (w : Cursor) → InRange w → sound w ≡ compared w
unfolding sound
sound_compares w r = rw (r.listed, r.inside)

-- a record that passes is in range
pub sound-range : (w : Cursor) → sound w ≡ true → InRange w
unfolding sound
sound-range w e =
    let (e₁, _) = and-true _ (same w.array (observe (machine_of w)).array) e in
    let (e₂, _) = and-true _ (same w.perm (observe (machine_of w)).perm) e₁ in
    let (listed, inside) = and-true _ (within w.lowest w.highest w.place) e₂ in
    record { listed = eqb-true (check_place w.n w.k w.highest) 0 listed; inside = inside }

-- so where it is not, it fails
pub sound_refuses : (w : Cursor) → (InRange w → ⊥) → sound w ≡ false
sound_refuses w d = refuted (sound w) (λ e. d (sound-range w e))

-- in range is in its section
pub range_in : (w : Cursor) → InRange w → InSection (machine_of w)
range_in w r =
    let (small, last) = place-passed w.n w.k w.highest r.listed in
    let (low, high) = within-true w.lowest w.highest w.place r.inside in
    record { cycles = cycles_passes w.n w.k w.highest small last; low = low; high = high; last = last }

-- a record that passes is in its section
pub sound_in : (w : Cursor) → sound w ≡ true → InSection (machine_of w)
sound_in w e = range_in w (sound-range w e)

-- and so on a place of its list
pub sound_on : (w : Cursor) → sound w ≡ true → OnPlace (machine_of w)
sound_on w e = in_on (machine_of w) (sound_in w e)

-- a record that passes is the one that shows the machine
pub sound-shows : (w : Cursor) → sound w ≡ true → w ≡ observe (machine_of w)
unfolding observe
sound-shows w e =
    let shown = observe (machine_of w) in
    let passed = sym (sound_compares w (sound-range w e)) ∙ e in
    let (perm, array) = and-true (same w.perm shown.perm) (same w.array shown.array) passed in
    rw (← same_true w.perm shown.perm perm, ← same_true w.array shown.array array)

-- two lists that the library finds equal are equal
pointwise_same : (s t : List ℕ) → pointwise eqb s t ≡ same s t
unfolding same
pointwise_same [] [] = refl
pointwise_same [] (y ∷ t) = refl
pointwise_same (x ∷ s) [] = refl
pointwise_same (x ∷ s) (y ∷ t) = ap (λ b. eqb x y && b) (pointwise_same s t)

-- what the derived `==` finds of two records
abbrev pub equals : Cursor → Cursor → Bool
equals w v =
    eqb w.n v.n
    && (eqb w.k v.k
    && (eqb w.place v.place
    && (eqb w.lowest v.lowest && (eqb w.highest v.highest && (pointwise eqb w.perm v.perm && pointwise eqb w.array v.array)))))

-- of a record and the one that shows its machine, it compares permutation and array
pub equals_compared : (w : Cursor) → equals w (observe (machine_of w)) ≡ compared w
unfolding observe
equals_compared w =
    rw
    (eq-eqb w.n w.n refl, eq-eqb w.k w.k refl, eq-eqb w.place w.place refl, eq-eqb w.lowest w.lowest refl, eq-eqb w.highest w.highest refl)
    (λ i. pointwise_same w.perm (padded (row_of (machine_of w))) i && pointwise_same w.array (padded (array_of w.n (row_of (machine_of w)))) i)

-- a record that passes has at most 20 values
pub sound_small : (w : Cursor) → sound w ≡ true → w.n ≤ 20
sound_small w e = (place-passed w.n w.k w.highest (sound-range w e).listed).0
