-- Counting the positions that pass a test, one position after another: what a loop that does so keeps. Assumes nothing.
use mathlib.Core.Path.{◌≡◌, refl, ap}
use Prim.Native.Nat.{ℕ, ◌+◌, ◌≤◌}
use native.Mathlib.Numerals.{add-one}
use native.Mathlib.Omega.{arith}
use mathlib.Core.Bool.{Bool, true, false}
use Rattle.perm.specs.Lists.{one, tally, range, positions}
use Rattle.perm.proofs.Tally.{tally-positions}

-- so many of the first i pass
pub record CountedTo (p : ℕ → Bool) (i count : ℕ) : Type 0 where
  pub most : count ≤ i
  pub counted : count ≡ tally p (positions i)

-- none of none
pub counted_none : (p : ℕ → Bool) → CountedTo p 0 0
unfolding tally range
counted_none p = record { most = omega arith; counted = refl }

-- and one position more: by what its test counts
counted_next : {p : ℕ → Bool} {i count : ℕ} {b : ℕ} → one (p (i + 1)) ≡ b → b ≤ 1 → CountedTo p i count → CountedTo p (i + 1) (count + b)
counted_next {p} {i} {count} {b} e h w = record {
  most = omega (arith, w.most);
  counted = rw (add-one, tally-positions, ← add-one i, e, ← w.counted);
}

-- one that passes
pub counted_hit : {p : ℕ → Bool} {i count : ℕ} → p (i + 1) ≡ true → CountedTo p i count → CountedTo p (i + 1) (count + 1)
counted_hit e = counted_next (ap one e) (omega arith)

-- and one that does not
pub counted_miss : {p : ℕ → Bool} {i count : ℕ} → p (i + 1) ≡ false → CountedTo p i count → CountedTo p (i + 1) count
counted_miss {p} {i} {count} e w =
    let y : count + 0 ≡ count = omega arith in
    rw y at (counted_next {p = p} (ap one e) (omega arith) w)
