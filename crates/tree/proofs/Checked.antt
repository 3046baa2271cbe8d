-- What the calls rest on: what is known where their checks pass, where the searches begin, and what a place found says. Assumes nothing.
use mathlib.Core.Path.{◌≡◌, refl, sym, ap, ◌∙◌}
use Prim.Native.Nat.{ℕ, zero, suc, ◌-◌, ◌≤◌, ◌<◌}
use native.Mathlib.Omega.{arith}
use mathlib.Core.Bool.{Bool, true, false, not}
use mathlib.Core.Logic.{◌≢◌}
use mathlib.Core.List.{List, [], ◌∷◌, ◌++◌}
use lib.Dec.{eqb, leb}
use lib.ListN.{length, take, drop, length-append}
use lib.Seq.{length-take-le, take_at}
use borrow.Author.Tests.{eqb-true, leb-false, ltb-false, not-false}
use Rattle.std.specs.Prelude.{Result, Ok, Err}
use Rattle.std.specs.Result.{is_ok}
use Rattle.stirling.specs.declared.Refusal.{Refusal}
use Rattle.stirling.specs.Refusal.{refuse, refusal_in}
use Rattle.stirling.specs.Count.{check_size}
use Rattle.stirling.proofs.Refusals.{number_some, refuse-passed, then_passed}
use Rattle.stirling.proofs.Counts.{size_passes, size-passed}
use Rattle.perm.specs.Lists.{tally, some, range, positions}
use Rattle.perm.specs.Permutation.{IsPermutation}
use Rattle.perm.specs.Array.{IsArray, IsArrayOf, partial, product}
use Rattle.perm.specs.Checks.{check_lent, check_permutation, check_from_array, answer_of, ToArray, FromArray}
use Rattle.perm.specs.declared.Array.{Array}
use Rattle.perm.proofs.Tally.{length-range, range_none_passes}
use Rattle.perm.proofs.Values.{at-positions}
use Rattle.perm.proofs.Exchange.{exchange_same}
use Rattle.perm.proofs.Arrays.{product-partial}
use Rattle.perm.proofs.Checked.{passes_values, passes_twice, passes_array}
use Rattle.perm.proofs.Refused.{lent_passes, permutation_passed}
use Rattle.perm.proofs.Same.{same_equal, same_false}
use Rattle.tree.specs.Tree.{Rule, tree}
use Rattle.tree.specs.Kind.{rule_of, listed, breaks, refusal_of, IsOf}
use Rattle.tree.specs.Listing.{row_at, place_in}
use Rattle.tree.specs.Calls.{check_place, check_unrank, check_kind, check_rank}
use Rattle.tree.specs.Sizes.{size}
use Rattle.tree.specs.Search.{rows, Stands, Leads}
use Rattle.tree.specs.declared.Kind.{Kind}
use Rattle.tree.specs.declared.Kind.TheVariants.{Involution, Bell}
use Rattle.tree.proofs.Settled.{identity_settled}
use Rattle.tree.proofs.Subtree.{tree-rows}
use Rattle.tree.proofs.Once.{only, partial-allowed}
use Rattle.tree.proofs.PerKind.{fits}
use Rattle.tree.proofs.Places.{size-listed}

-- a test that is not refused does not apply
kind_passed : (kind : Kind) (b : Bool) → refuse b (refusal_of kind) ≡ 0 → b ≡ false
kind_passed Involution b e = refuse-passed b 14 e
kind_passed Bell b e = refuse-passed b 15 e

-- where check 15 or 16 passes too, it is of the kind
pub rank_passed : (kind : Kind) (s : List ℕ) → check_rank kind s ≡ 0 → (length s ≤ 20) × IsOf kind (length s) s
rank_passed kind s e =
    let (most, kept) = then_passed (check_permutation s) (check_kind kind s) e in
    let (small, p) = permutation_passed s most in
    let none = ltb-false 0 (tally (breaks kind s) (positions (length s))) (kind_passed kind (some (breaks kind s) (positions (length s))) kept) in
    (small, record { permutation = p; fits = λ i a b. range_none_passes (breaks kind s) 1 (length s) (omega arith) i a (omega arith) })

-- where checks 1, 3 and 5 pass, n is at most 20, the place one of the list, and the slice n long
pub unrank_passed : (kind : Kind) (n place lent : ℕ) → check_unrank kind n place lent ≡ 0 → (n ≤ 20) × (place < size kind 0 n) × (lent ≡ n)
unrank_passed kind n place lent e =
    let (most, room) = then_passed (check_place kind n place) (check_lent n lent) e in
    let (small, inside) = then_passed (check_size n) (refuse (leb (length (listed kind n)) place) 3) most in (
      size-passed n small,
      omega (arith, size-listed kind n, leb-false (length (listed kind n)) place (refuse-passed (leb (length (listed kind n)) place) 2 inside)),
      eqb-true lent n (not-false _ (refuse-passed (not (eqb lent n)) 4 room)),
    )

-- the first numbers of a range
take_range : (a n m : ℕ) → n ≤ m → take n (range a m) ≡ range a n
unfolding range
take_range a zero m u = refl
take_range a (suc n) zero u = absurd (omega arith)
take_range a (suc n) (suc m) u = ap (λ l. a ∷ l) (take_range (suc a) n m (omega arith))

-- the identity of 20 as the code has it
abbrev pub twenty : List ℕ
twenty = 1 ∷ 2 ∷ 3 ∷ 4 ∷ 5 ∷ 6 ∷ 7 ∷ 8 ∷ 9 ∷ 10 ∷ 11 ∷ 12 ∷ 13 ∷ 14 ∷ 15 ∷ 16 ∷ 17 ∷ 18 ∷ 19 ∷ 20 ∷ []

-- its first n values are the identity of n
pub first-values : (n : ℕ) → n ≤ 20 → take n twenty ≡ positions n
unfolding range
first-values n u = take_range 1 n 20 u

pub first-length : (n : ℕ) → n ≤ 20 → n ≡ length (take n twenty)
first-length n u = rw (first-values n u) (sym (length-range 1 n))

-- the identity is its own array
pub identity_array : (n : ℕ) → IsArray n (positions n)
identity_array n = record { size = length-range 1 n; bound = λ i a b. (omega (arith, at-positions n i a b), omega (arith, at-positions n i a b)) }

identity_partial : (n m : ℕ) → m ≤ n → partial n (positions n) m ≡ positions n
unfolding partial
identity_partial n zero u = refl
identity_partial n (suc m) u = rw (at-positions n (suc m) (omega arith) u, identity_partial n m (omega arith)) (exchange_same (suc m) (positions n))

pub identity_product : (n : ℕ) → product (positions n) ≡ positions n
identity_product n = product-partial (positions n) (length-range 1 n) ∙ identity_partial n n (omega arith)

-- so it is taken
identity_passed : (n : ℕ) {before after : List ℕ} {r : ℕ} → n ≤ 20 → length before ≡ n → FromArray (take n twenty) before r after → r ≡ 0
identity_passed n u e w =
    let z = length-range 1 n in
    let passed : check_from_array (positions n) n ≡ 0 = rw (z, size_passes n u, ← (lent_passes n n refl)) (rw z at (passes_array (identity_array n))) in
    w.refusal ∙ rw (first-values n u, e) passed

pub identity_served : (n : ℕ) {A : Type 0} (r : Result A Refusal) {before after : List ℕ} → n ≤ 20 → length before ≡ n → FromArray (take n twenty) before (refusal_in r) after → is_ok r ≡ true
identity_served n (Ok none) u e w = refl
identity_served n (Err refusal) u e w = absurd (number_some refusal (identity_passed n u e w))

-- and what is written from it is the identity
pub identity_written : (n : ℕ) {before after : List ℕ} {r : ℕ} → n ≤ 20 → length before ≡ n → FromArray (take n twenty) before r after → after ≡ positions n
identity_written n u e w = w.written (identity_passed n u e w) ∙ rw (first-values n u) (identity_product n)

-- a call that has no refusal gives the number of fixed points
given : (r : Result ℕ Refusal) → (answer_of r).refusal ≡ 0 → is_ok r ≡ true
given (Ok fixed) e = refl
given (Err refusal) e = absurd (number_some refusal e)

-- the array of a permutation, written to the front of 20 bytes
module _ (s z : List ℕ) {after : List ℕ} {r : Array} (e : length z ≡ 20) (u : length s ≤ 20) (p : IsPermutation (length s) s) (w : ToArray s (take (length s) z) r after) where
  made-passed : r.refusal ≡ 0
  made-passed =
      w.refusal
      ∙ rw (size_passes (length s) u, ← (lent_passes (length s) (length (take (length s) z)) (length-take-le (length s) z (omega arith))), passes_values p) (passes_twice p)

  pub array_served : (answer : Result ℕ Refusal) → r ≡ answer_of answer → is_ok answer ≡ true
  array_served answer e = given answer (rw e at made-passed)

  pub array_made : IsArrayOf s (take (length s) (after ++ drop (length s) z))
  array_made = rw (take_at after (drop (length s) z) (length s) (w.written made-passed).array.size) (w.written made-passed)

  pub array-room : length s ≤ length (after ++ drop (length s) z)
  array-room = omega (arith, length-append after (drop (length s) z), (w.written made-passed).array.size)

module _ (kind : Kind) where
  -- where the searches begin
  pub identity-stands : (n : ℕ) {s : List ℕ} → n ≤ 20 → s ≡ positions n → Stands kind n 0 s
  unfolding tally range
  identity-stands n {s} u e =
      let z = length-range 1 n in
      let y : length (positions n) - n ≡ 0 = omega arith in
      rw e (record { small = omega arith; room = omega arith; settled = rw (y, z) (identity_settled n); of_kind = rw z (fits kind n).identity; usable = rw y })

  -- the rows from there on are the list
  pub identity-rows : (n : ℕ) {s : List ℕ} → s ≡ positions n → rows (rule_of kind) (length s - n) n s ≡ listed kind n
  identity-rows n {s} e =
      let y : length (positions n) - n ≡ 0 = omega (arith, length-range 1 n) in
      rw (e, y) (sym (tree-rows (rule_of kind) n))

  -- the array of a permutation of the kind leads to it
  array-leads : {n : ℕ} {s a : List ℕ} → IsOf kind n s → IsArray n a → product a ≡ s → Leads kind a 0 (positions n)
  unfolding partial
  array-leads {n} {s} {a} k w e =
      let last : IsOf kind n (partial n a n) = rw (← (product-partial a w.size), e) k in
      record { array = rw w.size w; here = rw w.size; allowed = rw w.size (λ i b u. partial-allowed (fits kind n) a w last i u) }

-- a place that has s, where no place before it has, is its place
placed_first : (s : List ℕ) (rows : List (List ℕ)) (r : ℕ) → r < length rows → row_at rows r ≡ s → ((q : ℕ) → q < r → row_at rows q ≢ s) → place_in s rows ≡ r
unfolding place_in
placed_first s [] r u e d = absurd (omega arith)
placed_first s (t ∷ rows) zero u e d = rw (same_equal s t (sym e))
placed_first s (t ∷ rows) (suc r) u e d =
    rw (same_false s t (λ f. d 0 (omega arith) (sym f))) (ap suc (placed_first s rows r (omega arith) e (λ q v. d (suc q) (omega arith))))

-- so in a tree, where no row stands twice
pub placed : (rule : Rule) (n r : ℕ) (s : List ℕ) → r < length (tree rule n) → row_at (tree rule n) r ≡ s → place_in s (tree rule n) ≡ r
placed rule n r s u e = placed_first s (tree rule n) r u e (λ q v f. omega (arith, only rule n q r (omega arith) u (f ∙ sym e)))

-- the search for the place of a permutation of the kind with array a, from the first values of the code's identity on
module _ (kind : Kind) (s a : List ℕ) (u : length s ≤ 20) (k : IsOf kind (length s) s) (w : IsArrayOf s a) where
  abbrev start : List ℕ
  start = take (length s) twenty

  begins : start ≡ positions (length s)
  begins = first-values (length s) u

  pub search-begins : Stands kind (length s) 0 start × (length a ≡ length start) × Leads kind a (length start - length s) start
  search-begins =
      let z = length-range 1 (length s) in
      let y : length (positions (length s)) - length s ≡ 0 = omega arith in
      (identity-stands kind (length s) u begins, rw begins (w.array.size ∙ sym z), rw (begins, y) (array-leads kind k w.array w.equal))

  pub search-ends : (r : ℕ) → r < size kind 0 (length s) → row_at (rows (rule_of kind) (length start - length s) (length s) start) r ≡ product a
      → r ≡ place_in s (listed kind (length s))
  search-ends r v e =
      let row : row_at (listed kind (length s)) r ≡ s = ap (λ l. row_at l r) (sym (identity-rows kind (length s) begins)) ∙ e ∙ w.equal in
      sym (placed (rule_of kind) (length s) r s (omega (arith, size-listed kind (length s))) row)
