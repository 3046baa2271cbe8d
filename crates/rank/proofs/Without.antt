-- A permutation of m + 1 is its shorter one with m + 1 put in at one position; in its transposition array that is the last entry, and the entries before it are the array
-- of the shorter one. Assumes nothing.
use mathlib.Core.Path.{◌≡◌, refl, sym, ap, ◌∙◌}
use mathlib.Core.Logic.{⊎_elim}
use Prim.Native.Nat.{ℕ, zero, suc, ◌-◌, ◌≤◌}
use native.Mathlib.Nat.{eq-or-lt_of_le}
use native.Mathlib.Omega.{arith}
use mathlib.Core.List.{List, [], ◌∷◌}
use borrow.Author.Tests.{eq-eqb, ne_eqb}
use lib.ListN.{length, get_or, take}
use lib.Seq.{take_at, get_or_at}
use Rattle.perm.specs.Permutation.{IsPermutation}
use Rattle.perm.specs.Cycle.{cycles}
use Rattle.perm.specs.Array.{IsArray, product, position}
use Rattle.perm.proofs.Split.{Split, extended, inserted, split}
use Rattle.perm.proofs.Cycles.{cycles-extend, cycles-insert}
use Rattle.perm.proofs.Arrays.{Last, fixed, moved, last, product-extend, product-insert, product_permutation}
use Rattle.perm.proofs.ArrayOf.{Without, without_extend, without_insert}
use Rattle.gray.specs.Order.{Row}
use Rattle.rank.specs.Search.{grown}
use Rattle.rank.specs.Ranking.{cycles_left}
use Rattle.rank.specs.Descent.{shorter}
use Rattle.rank.proofs.Grown.{grown-insert, grown-extend}

-- a permutation s of m + 1 is made of `shorter m s`
pub record Made (m : ℕ) (s : Row) : Type 0 where
  pub here : (1 ≤ position (suc m) s) × (position (suc m) s ≤ suc m)
  pub permutation : IsPermutation m (shorter m s)
  pub grows : s ≡ grown (suc m) (position (suc m) s) (shorter m s)
  pub count : cycles (shorter m s) ≡ cycles_left (suc m) (cycles s) (position (suc m) s)

-- by where its greatest value stands
made-split : {m : ℕ} {s : Row} → Split m s → Made m s
made-split {m} (extended γ g) =
    let w = without_extend g in
    let y : length γ ≡ suc m - 1 = omega (arith, g.size) in
    record {
      here = rw w.here (omega arith);
      permutation = rw w.left g;
      grows = rw (w.left, w.here) (grown-extend (suc m) γ y (omega arith));
      count = rw (w.left, w.here, eq-eqb (suc m) (suc m) refl, cycles-extend g) (omega arith);
    }
made-split {m} (inserted i γ h k g) =
    let w = without_insert i h k g in
    let y : length γ ≡ suc m - 1 = omega (arith, g.size) in
    record {
      here = rw w.here (omega arith);
      permutation = rw w.left g;
      grows = rw (w.left, w.here) (grown-insert (suc m) γ y (omega arith) i h (omega arith));
      count = rw (w.left, w.here, ne_eqb i (suc m) (omega arith), cycles-insert i h k g);
    }

pub made : {m : ℕ} {s : Row} → IsPermutation (suc m) s → Made m s
made p = made-split (split p)

-- what is grown has its greatest value where it was put, and without it is what it grew from
pub without_grown : {m : ℕ} {γ : Row} (i : ℕ) → (1 ≤ i) × (i ≤ suc m) → IsPermutation m γ → Without m (grown (suc m) i γ) i γ
without_grown {m} {γ} i h g =
    let y : length γ ≡ suc m - 1 = omega (arith, g.size) in
    ⊎_elim
    (λ e. rw (e, ← grown-extend (suc m) γ y (omega arith)) (without_extend g))
    (λ l. rw (← grown-insert (suc m) γ y (omega arith) i h.0 l) (without_insert i h.0 (omega arith) g))
    (eq-or-lt_of_le h.1)

-- so it is put at one position only
pub one-position : (n i j : ℕ) {γ δ : Row}
    → (1 ≤ i) × (i ≤ n)
    → (1 ≤ j) × (j ≤ n)
    → IsPermutation (n - 1) γ
    → IsPermutation (n - 1) δ
    → grown n i γ ≡ grown n j δ
    → i ≡ j
one-position zero i j hi hj γ δ e = absurd (omega arith)
one-position (suc m) i j hi hj γ δ e =
    let y : suc m - 1 ≡ m = omega arith in
    sym (without_grown i hi (rw y at γ)).here ∙ ap (position (suc m)) e ∙ (without_grown j hj (rw y at δ)).here

-- an array p of m + 1 entries is q and then i: without m + 1 its permutation is that of q
pub record Cut (m i : ℕ) (q p : List ℕ) : Type 0 where
  pub array : IsArray m q
  pub without : Without m (product p) i (product q)

cut_last : {m : ℕ} {p : List ℕ} → Last m p → Cut m (get_or p m 0) (take m p) p
cut_last {m} (fixed p a) =
    rw (take_at p (suc m ∷ []) m a.size, get_or_at p (suc m) [] 0 m a.size)
    (record { array = a; without = rw (product-extend a) (without_extend (product_permutation a)) })
cut_last {m} (moved i p h l a) =
    rw (take_at p (i ∷ []) m a.size, get_or_at p i [] 0 m a.size)
    (record { array = a; without = rw (product-insert i h l a) (without_insert i h l (product_permutation a)) })

pub cut : {m : ℕ} {p : List ℕ} → IsArray (suc m) p → Cut m (get_or p m 0) (take m p) p
cut a = cut_last (last a)
