-- From a place to the permutation and back to the place, and from a permutation to its place and back, by the contracts alone. Assumes nothing.
use mathlib.Core.Path.{◌≡◌, refl, sym, ap, ◌∙◌}
use Prim.Native.Nat.{ℕ, ◌<◌}
use mathlib.Core.List.{List}
use lib.ListN.{length}
use borrow.Author.Tests.{eq-eqb}
use Rattle.stirling.specs.Count.{c, check_size, check_place}
use Rattle.stirling.proofs.Refusals.{then_passed}
use Rattle.stirling.proofs.Counts.{size_passes, size-passed, place-passed, place_passes}
use Rattle.perm.specs.Permutation.{IsPermutation, fixed}
use Rattle.perm.specs.Cycle.{cycles}
use Rattle.perm.specs.Checks.{check_lent, check_values, check_twice}
use Rattle.perm.proofs.Checked.{passes}
use Rattle.gray.specs.Order.{S}
use Rattle.gray.specs.Listing.{row_at}
use Rattle.gray.proofs.Once.{length-S, complete}
use Rattle.rank.specs.Place.{Unranked, StandsAt, Ranked}
use Rattle.rank.specs.declared.Standing.{Standing}

-- a row of S(n,k) stands at one place of it, and has k cycles
stands : (n k place : ℕ) (s : List ℕ) → place < c n k → s ≡ row_at (S n k) place → (j q : ℕ) → StandsAt s j q → (j ≡ k) × (q ≡ place)
stands n k place s h e j q at =
    let below : place < length (S n k) = rw length-S h in
    let row = (complete n k).sound place below in
    let same_size : length s ≡ n = ap length e ∙ row.permutation.size in
    let same_count : j ≡ k = at.count ∙ ap cycles e ∙ row.count in
    let there : q < length (S n k) = rw length-S (rw (same_size, same_count) at at.below) in
    let there-row : row_at (S n k) q ≡ s = rw (same_size, same_count) at at.row in
    (same_count, (complete n k).only q place there below (there-row ∙ e))

-- so a permutation has one standing
pub one-standing : {s : List ℕ} {j q k place : ℕ} → StandsAt s j q → StandsAt s k place → (j ≡ k) × (q ≡ place)
one-standing {s} {j} {q} {k} {place} v w = stands (length s) k place s w.below (sym w.row) j q v

-- the place of the permutation that was written for a place is that place, and its fixed points are counted
pub place_back : {n k place : ℕ} {before after : List ℕ} → Unranked n k place before 0 after
    → (r : Standing)
    → Ranked after r
    → r ≡ record { refusal = 0; k = k; place = place; fixed = fixed after }
place_back {n} {k} {place} {before} {after} u r ranked =
    let passed = then_passed (check_place n k place) (check_lent n (length before)) (sym u.refusal) in
    let (most, below) = place-passed n k place passed.0 in
    let row = (complete n k).sound place (rw length-S below) in
    let permutation : IsPermutation n after = rw (u.written refl) row.permutation in
    let none : r.refusal ≡ 0 = ranked.refusal ∙ passes (size_passes n most) permutation in
    let (same-k, same_place) = stands n k place after below (u.written refl) r.k r.place (ranked.answer none) in
    let same-fixed : r.fixed ≡ fixed after = rw none at ranked.number in
    λ i. record { refusal = none i; k = same-k i; place = same_place i; fixed = same-fixed i }

-- the permutation that is written for the place of a permutation is that permutation
pub permutation_back : {s before after : List ℕ} {r : Standing} {q : ℕ} → Ranked s r
    → r.refusal ≡ 0
    → length before ≡ length s
    → Unranked (length s) r.k r.place before q after
    → (q ≡ 0) × (after ≡ s)
permutation_back {s} {before} {after} {r} {q} ranked none same_size u =
    let at = ranked.answer none in
    let most = size-passed (length s) (then_passed (check_size (length s)) (check_values s) (then_passed _ (check_twice s) (sym ranked.refusal ∙ none)).0).0 in
    let passed : check_place (length s) r.k r.place ≡ 0 = place_passes (length s) r.k r.place most at.below in
    let served : q ≡ 0 = u.refusal ∙ rw (passed, eq-eqb (length before) (length s) same_size) refl in
    (served, u.written served ∙ at.row)
