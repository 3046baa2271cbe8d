-- A row written to the front of a slice: the row below, with n added at its end and exchanged with the value at a position. Assumes nothing.
use mathlib.Core.Path.{◌≡◌, sym, ap, ◌∙◌}
use mathlib.Core.Logic.{⊎_elim}
use Prim.Native.Nat.{ℕ, zero, suc, ◌+◌, ◌-◌, ◌≤◌, ◌<◌}
use native.Mathlib.Nat.{eq-or-lt_of_le}
use native.Mathlib.Omega.{arith}
use mathlib.Core.Bool.{Bool}
use mathlib.Core.List.{List, ◌∷◌, ◌++◌}
use lib.ListN.{length, get_or, set, take, drop}
use lib.Seq.{drop-cons, drop-set-lt, drop-append_seam, length-take-le, take_at, take_all}
use Rattle.stirling.specs.Count.{c}
use Rattle.perm.specs.Lists.{positions}
use Rattle.perm.specs.Permutation.{insert}
use Rattle.perm.proofs.Tally.{length-range}
use Rattle.perm.proofs.Steps.{extended_at, inserted_at}
use Rattle.rank.specs.declared.Part.{Part}
use Rattle.gray.specs.Order.{Row}
use Rattle.gray.specs.Listing.{row_at}
use Rattle.rank.specs.Search.{reading_of, grown, HoldsPlace, InFront}
use Rattle.rank.specs.Descent.{passed, Additions}
use Rattle.rank.proofs.Reversed.{row-cycles}
use Rattle.rank.proofs.Grown.{grown-insert, grown-extend}
use Rattle.rank.proofs.Passed.{enough}
use Rattle.rank.proofs.Reading.{row_below, identity_read, one-size_passed, position_in, row_read, passed_read}

-- where k = n the identity is the only row
pub identity_written : (n k place : ℕ) (backward : Bool) (out part : List ℕ) → n ≡ k → place < c n k → n ≤ length out
    → part ≡ positions (length (take n out))
    → InFront n (row_at (reading_of backward n k) place) out (part ++ drop n out)
identity_written n k place backward out part e l lent w =
    let is : part ≡ positions n = w ∙ ap positions (length-take-le n out lent) in
    let long : length part ≡ n = ap length is ∙ length-range 1 n in
    record {
      front = take_at part (drop n out) n long ∙ is ∙ identity_read backward n k place e l;
      kept = ap (λ (x : ℕ). drop x (part ++ drop n out)) (sym long) ∙ drop-append_seam part (drop n out);
    }

pub none_added : (n k place : ℕ) (backward : Bool) → n ≡ k → place < c n k → Additions n k backward (row_at (reading_of backward n k) place) 0
none_added n k place backward e l = record {
  counted = sym (one-size_passed n k backward _ (omega arith) (row-cycles n k place backward l));
  enough = omega arith;
}

-- two stores after m values: the value at position i goes to position m + 1, and m + 1 to position i
module _ (m i : ℕ) (out : List ℕ) (h : (1 ≤ i) × (i ≤ suc m)) (lent : m < length out) where
  pub stores : take (suc m) (set (set out m (get_or out (i - 1) 0)) (i - 1) (suc m)) ≡ grown (suc m) i (take m out)
  stores =
      let γ = take m out in
      let y : length γ ≡ suc m - 1 = length-take-le m out (omega arith) ∙ omega arith in
      ⊎_elim
      (λ e.
      let q : i - 1 ≡ m = omega arith in
      ap (λ (x : ℕ). take (suc m) (set (set out m (get_or out x 0)) x (suc m))) q
      ∙ extended_at out m (get_or out m 0) lent
      ∙ grown-extend (suc m) γ y (omega arith)
      ∙ ap (λ (x : ℕ). grown (suc m) x γ) (sym e))
      (λ l.
      let q : suc (i - 1) ≡ i = omega arith in
      inserted_at out m (i - 1) lent (omega arith)
      ∙ ap (λ (x : ℕ). insert (suc m) x γ) q
      ∙ grown-insert (suc m) γ y (omega arith) i h.0 l)
      (eq-or-lt_of_le h.1)

  pub stays : drop (suc m) (set (set out m (get_or out (i - 1) 0)) (i - 1) (suc m)) ≡ drop (suc m) out
  stays =
      drop-set-lt (suc m) (set out m (get_or out (i - 1) 0)) (i - 1) (suc m) (omega arith)
      ∙ drop-set-lt (suc m) out m (get_or out (i - 1) 0) (omega arith)

-- so where the row below stands in front, the row sought does after them
one_written : {m k place : ℕ} {backward : Bool} {p : Part} {out after : List ℕ}
    → HoldsPlace (suc m) k backward place p
    → suc m ≤ length out
    → length after ≡ length out
    → InFront m (row_at (reading_of p.below.backward m p.below.cycles) (place - p.start)) out after
    → InFront (suc m) (row_at (reading_of backward (suc m) k) place) out (set (set after m (get_or after (p.below.position - 1) 0)) (p.below.position - 1) (suc m))
one_written {m} {k} {place} {backward} {p} {out} {after} w lent same f =
    let y : suc m - 1 ≡ m = omega arith in
    let some : 1 ≤ suc m = omega arith in
    let range = position_in some w in
    let room : m < length after = omega arith in
    let below : row_below (suc m) place p ≡ row_at (reading_of p.below.backward m p.below.cycles) (place - p.start) =
    ap (λ (x : ℕ). row_at (reading_of p.below.backward x p.below.cycles) (place - p.start)) y in
    let behind : get_or after m 0 ∷ drop (suc m) after ≡ get_or out m 0 ∷ drop (suc m) out =
    sym (drop-cons after m 0 room) ∙ f.kept ∙ drop-cons out m 0 lent in
    record {
      front = stores m p.below.position after range room ∙ ap (grown (suc m) p.below.position) (f.front ∙ sym below) ∙ sym (row_read some w);
      kept = stays m p.below.position after range room ∙ ap (drop 1) behind;
    }

pub next_written : (n : ℕ) {k place : ℕ} {backward : Bool} {p : Part} {out after : List ℕ}
    → 1 ≤ n
    → HoldsPlace n k backward place p
    → n ≤ length out
    → length after ≡ length out
    → InFront (n - 1) (row_at (reading_of p.below.backward (n - 1) p.below.cycles) (place - p.start)) out after
    → InFront n (row_at (reading_of backward n k) place) out (set (set after (n - 1) (get_or after (p.below.position - 1) 0)) (p.below.position - 1) n)
next_written zero h w lent same f = absurd (omega arith)
next_written (suc m) h w lent same f = let y : suc m - 1 ≡ m = omega arith in rw y (one_written w lent same (rw y at f))

-- what stands below, in the reading that the part says
pub below_written : (m rest : ℕ) (p : Part) (b : Bool) {out last after : List ℕ} {r additions : ℕ} → p.below.backward ≡ b → after ≡ last → additions ≡ r
    → InFront m (row_at (reading_of b m p.below.cycles) rest) out last × Additions m p.below.cycles b (row_at (reading_of b m p.below.cycles) rest) r
    → InFront m (row_at (reading_of p.below.backward m p.below.cycles) rest) out after
    × (additions ≡ passed m p.below.cycles p.below.backward (row_at (reading_of p.below.backward m p.below.cycles) rest))
below_written m rest p b e f g w = (rw (e, f) w.0, rw (e, g) w.1.counted)

-- the additions are those below, and one for each block passed
pub next_added : (n : ℕ) {k place : ℕ} {backward : Bool} {p : Part} {additions : ℕ}
    → 1 ≤ n
    → HoldsPlace n k backward place p
    → place < c n k
    → additions ≡ passed (n - 1) p.below.cycles p.below.backward (row_at (reading_of p.below.backward (n - 1) p.below.cycles) (place - p.start))
    → Additions n k backward (row_at (reading_of backward n k) place) (p.additions + additions)
next_added n {k} {place} {backward} {p} {additions} h w u e =
    let counted : p.additions + additions ≡ passed n k backward (row_at (reading_of backward n k) place) = rw e (passed_read n h w) in
    record { counted = counted; enough = rw counted (enough n k backward _ (row-cycles n k place backward u)) }

-- a row in front of a slice of n bytes is all of it
pub all-front : {n : ℕ} {row : Row} {out after : List ℕ} → InFront n row out after → length after ≡ length out → length out ≡ n → after ≡ row
all-front {n} {after = after} w same e = sym (take_all n after (omega arith)) ∙ w.front
