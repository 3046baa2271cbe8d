-- What the call gives, by its checks: a refusal of what is asked, 14 where no row from the place on meets the wishes, and else the first one that does. Assumes nothing.
use mathlib.Core.Path.{◌≡◌, refl, sym, ap, ◌∙◌}
use Prim.Native.Nat.{ℕ, ◌≤◌, ◌<◌}
use native.Mathlib.Omega.{arith}
use mathlib.Core.Bool.{Bool, false, not}
use mathlib.Core.List.{List, []}
use lib.Dec.{eqb}
use lib.ListN.{length}
use borrow.Author.Tests.{eqb-true, eq-eqb, ltb-false, not-false}
use Rattle.std.proofs.Common.{Some, None}
use Rattle.stirling.specs.Refusal.{◌then◌, unless}
use Rattle.stirling.specs.Count.{c, IsTable, check_place_in, check_place}
use Rattle.stirling.proofs.Refusals.{refuse-passed, then_passes, then_stops, then_passed}
use Rattle.stirling.proofs.Counts.{place_passes, place-passed, place-by-table}
use Rattle.perm.specs.Lists.{tally, some}
use Rattle.perm.proofs.Tally.{none_passes}
use Rattle.gray.specs.Order.{Row, S}
use Rattle.gray.specs.Listing.{row_at}
use Rattle.gray.proofs.Once.{length-S}
use Rattle.rank.specs.Place.{Unranked}
use Rattle.rank.proofs.RowChecks.{neither}
use Rattle.find.specs.declared.Found.{Found}
use Rattle.find.specs.Meeting.{meets, least_from}
use Rattle.find.specs.Find.{check_lengths, check_pattern, check_asked, check_met, check_find, find_of}
use Rattle.find.specs.Search.{place_found}
use Rattle.find.proofs.Least.{First, least_first, first-least, first_some, first-none, none_found, found_first, missing_first}

-- the checks of what is asked, one after another
module _ (n k place : ℕ) (w : List ℕ) (size : ℕ) where
  pub asked-place : {r : ℕ} → r ≡ check_place n k place → (r ≡ 0 → ⊥) → r ≡ check_asked n k place w size
  asked-place {r} e d =
      then_stops (check_place n k place then check_lengths n (length w) size) (check_pattern n w) r (then_stops (check_place n k place) (check_lengths n (length w) size) r e d) d

  pub asked-values : {r : ℕ} → check_place n k place ≡ 0 → length w ≡ n → size ≡ n → r ≡ check_pattern n w → r ≡ check_asked n k place w size
  asked-values e z s q = rw (e, eq-eqb (length w) n z, eq-eqb size n s) q

  -- where each passes, all do
  pub asked : {counts : List ℕ} → IsTable counts → 0 ≡ check_place_in counts n k place → 0 ≡ check_lengths n (length w) size then check_pattern n w → check_asked n k place w size ≡ 0
  asked {counts} t e f =
      let place_passes' : check_place n k place ≡ 0 = sym (place-by-table t n k place) ∙ sym e in
      let (lengths, values) = then_passed (check_lengths n (length w) size) (check_pattern n w) (sym f) in
      rw (place_passes', lengths) values

  -- where all of them pass
  pub asked-passed : check_asked n k place w size ≡ 0 → (n ≤ 20) × (place < c n k) × (length w ≡ n) × (size ≡ n)
  asked-passed e =
      let (a, _) = then_passed (check_place n k place then check_lengths n (length w) size) (check_pattern n w) e in
      let (b, l) = then_passed (check_place n k place) (check_lengths n (length w) size) a in
      let (small, below) = place-passed n k place b in
      let (x, y) = neither (not (eqb (length w) n)) (not (eqb size n)) (refuse-passed _ 4 l) in
      (small, below, eqb-true (length w) n (not-false _ x), eqb-true size n (not-false _ y))

-- where no row of the list meets the wishes, none from a place on does
pub none_least : (p : Row → Bool) (n k place : ℕ) → place < c n k → some p (S n k) ≡ false → None ≡ place_found p (S n k) place
none_least p n k place h f =
    none_found p (S n k) place
    (record {
      from = omega arith;
      most = rw (length-S n k) (omega arith);
      none = λ i l u. none_passes p [] (S n k) (omega (arith, ltb-false 0 (tally p (S n k)) f)) i (rw (length-S n k) u);
      passes = λ u. absurd (omega (arith, length-S n k));
    })
    (omega (arith, length-S n k))

-- what the call gives
module _ (n k place : ℕ) (w : List ℕ) (size : ℕ) where
  abbrev least : ℕ
  least = least_from (meets w) (S n k) place

  answers : (r : ℕ) (x : ℕ) → r ≡ check_find n k place w size → x ≡ unless r least 0 → ◌≡◌ {A = Found} (record { refusal = r; place = x }) (find_of n k place w size)
  answers r x e f = rw (f, e)

  module _ (e : check_asked n k place w size ≡ 0) where
    -- the least place, or the number of rows
    pub first-place : First (meets w) (S n k) place least
    first-place = let (_, l, _, _) = asked-passed n k place w size e in least_first (meets w) (S n k) place (omega (arith, length-S n k))

    -- no row from the place on meets the wishes
    pub find-unmet : least ≡ c n k → ◌≡◌ {A = Found} (record { refusal = 14; place = 0 }) (find_of n k place w size)
    find-unmet q =
        let none = first-none (meets w) (S n k) place first-place (omega (arith, length-S n k)) in
        answers 14 0 (sym (then_passes _ (check_met n k place w) e ∙ rw none)) refl

    pub below_all : (least ≡ c n k → ⊥) → least < c n k
    below_all d = omega (arith, first-place.most, length-S n k)

    -- or the first one that does
    pub find-met : (least ≡ c n k → ⊥) → ◌≡◌ {A = Found} (record { refusal = 0; place = least }) (find_of n k place w size)
    find-met d =
        let some-met = first_some (meets w) (S n k) place first-place (omega (arith, below_all d, length-S n k)) in
        answers 0 least (sym (then_passes _ (check_met n k place w) e ∙ rw some-met)) refl

-- its row is not refused
pub row_passes : {n k place r : ℕ} {before after : List ℕ} → n ≤ 20 → place < c n k → length before ≡ n → Unranked n k place before r after
    → r ≡ 0
row_passes {n} {k} {place} {r} {before} small below z u =
    u.refusal ∙ rw (place_passes n k place small below, eq-eqb (length before) n z)

-- so it is written
pub row_written : {n k place r : ℕ} {before after : List ℕ} → n ≤ 20 → place < c n k → length before ≡ n → Unranked n k place before r after
    → after ≡ row_at (S n k) place
row_written small below z u =
    u.written (row_passes small below z u)

-- the place that was looked for, or none
module _ (n k place : ℕ) (w : List ℕ) (size : ℕ) (e : check_asked n k place w size ≡ 0) where
  within_all : place ≤ length (S n k)
  within_all = let (_, l, _, _) = asked-passed n k place w size e in omega (arith, length-S n k)

  pub answers-unmet : None ≡ place_found (meets w) (S n k) place → ◌≡◌ {A = Found} (record { refusal = 14; place = 0 }) (find_of n k place w size)
  answers-unmet q =
      find-unmet n k place w size e (sym (first-least (meets w) (S n k) place (missing_first (meets w) (S n k) place within_all q)) ∙ length-S n k)

  pub place_below : {r : ℕ} → Some r ≡ place_found (meets w) (S n k) place → r < c n k
  place_below q = omega (arith, (found_first (meets w) (S n k) place within_all q).1, length-S n k)

  pub answers-met : {r : ℕ} → Some r ≡ place_found (meets w) (S n k) place → ◌≡◌ {A = Found} (record { refusal = 0; place = r }) (find_of n k place w size)
  answers-met {r} q =
      let (f, l) = found_first (meets w) (S n k) place within_all q in
      let is : r ≡ least_from (meets w) (S n k) place = first-least (meets w) (S n k) place f in
      ap (λ (x : ℕ). record { refusal = 0; place = x }) is ∙ find-met n k place w size e (λ z. omega (arith, length-S n k))
