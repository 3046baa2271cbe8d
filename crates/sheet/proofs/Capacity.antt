-- The answer to any text and its rewriting fit: how long a line of names, a row, a refusal and a sheet are at most. From the laws of S(n,k): there are c(n,k) rows, and
-- each is a permutation of n. Assumes nothing.
use Prim.Native.Nat.{ℕ, zero, suc, ◌+◌, ◌*◌, ◌^◌, ◌≤◌, ◌<◌}
use native.Mathlib.Omega.{arith}
use mathlib.Core.Path.{◌≡◌, refl, ap, ◌∙◌}
use mathlib.Core.List.{List, [], ◌∷◌, ◌++◌}
use lib.ListN.{length, take, drop, get_or, length-append, length-drop}
use lib.Seq.{length-take-le, get_or-take, get_or-drop}
use Rattle.std.specs.Prelude.{Option, Some, None}
use Rattle.stirling.specs.Refusal.{unless}
use Rattle.stirling.specs.Count.{c}
use Rattle.perm.specs.Lists.{range, positions}
use Rattle.perm.specs.Permutation.{IsPermutation}
use Rattle.perm.proofs.Values.{at_suc, in_range}
use Rattle.gray.specs.Order.{Row, S}
use Rattle.gray.specs.Listing.{row_at}
use Rattle.gray.proofs.Once.{length-S, complete}
use Rattle.rank.specs.Place.{check_row_count}
use Rattle.rank.proofs.RowChecks.{row-count_passed}
use Rattle.sheet.specs.Text.{LF, decimal}
use Rattle.sheet.specs.Asked.{asked, asked_in}
use Rattle.sheet.specs.Sheet.{names, name_line, values, row_lines, lines_of, refused_line, answer_to, answer}
use Rattle.sheet.specs.Rewriting.{sheet_of, rewritten_to, rewritten}
use Rattle.sheet.specs.Written.{CAPACITY, REWRITTEN_CAPACITY, row_line}
use Rattle.sheet.specs.declared.Request.{Request}
use Rattle.sheet.specs.declared.Grammar.{Grammar}
use Rattle.sheet.specs.declared.Grammar.TheVariants.{Filed}
use Rattle.sheet.proofs.Lines.{rows_next}
use Rattle.sheet.proofs.Decimal.{length_digits, length-decimal, length_two}
use Rattle.sheet.proofs.Numbers.{number_below}
use Rattle.sheet.proofs.Reader.{only}

-- a name is a space, four letters and at most two digits
length-names : (a n : ℕ) → a + n ≤ 100 → length (names (range a n)) ≤ n * 7
unfolding names range
length-names a zero h = omega arith
length-names a (suc n) h =
    omega (arith, length-append (decimal a) (names (range (suc a) n)), length_two a (omega arith), length-names (suc a) n (omega arith))

-- a value is a space and at most two digits
length-values : (row : Row) → ((i : ℕ) → i < length row → get_or row i 0 < 100) → length (values row) ≤ length row * 3
unfolding values
length-values [] small = omega arith
length-values (v ∷ vs) small =
    omega (
      arith,
      length-append (decimal v) (values vs),
      length_two v (small 0 (omega arith)),
      length-values vs (λ i h. small (suc i) (omega arith)),
    )

-- the line of a row is a place of at most 20 digits, values of at most 60 bytes and LF
length-line : (place : ℕ) (row : Row) → length (values row) ≤ 60 → length (row_line place row) ≤ 81
length-line place row h =
    omega (
      arith,
      length-append (decimal place) (values row ++ (LF ∷ [])),
      length-append (values row) (LF ∷ []),
      length_digits 20 place,
    )

length_lines : (place : ℕ) (rows : List Row) → ((i : ℕ) → i < length rows → length (values (row_at rows i)) ≤ 60)
    → length (row_lines place rows) ≤ length rows * 81
unfolding row_lines
length_lines place [] narrow = omega arith
length_lines place (row ∷ rows) narrow =
    omega (
      arith,
      ap length (rows_next place row rows) ∙ length-append (row_line place row) (row_lines (suc place) rows),
      length-line place row (narrow 0 (omega arith)),
      length_lines (suc place) rows (λ i h. narrow (suc i) (omega arith)),
    )

-- a line of names is at most 146 bytes
length-name_line : (n : ℕ) → n ≤ 20 → length (name_line n) ≤ 146
length-name_line n h = omega (arith, length-append (names (positions n)) (LF ∷ []), length-names 1 n (omega arith))

-- a refusal is at most 29 bytes
length_refused : (r : ℕ) → length (refused_line r) ≤ 29
length_refused r = omega (arith, length-append (decimal r) (LF ∷ []), length_digits 20 r)

-- a row of S(n,k) has n values of at most two digits
narrow : (n k place : ℕ) → n ≤ 20 → place < c n k → length (values (row_at (S n k) place)) ≤ 60
narrow n k place h p =
    let row = row_at (S n k) place in
    let permutation : IsPermutation n row = ((complete n k).sound place (omega (arith, length-S n k))).permutation in
    let size : length row ≡ n = permutation.size in
    let small : (i : ℕ) → i < length row → get_or row i 0 < 100 = λ i l. omega (arith, at_suc row i, in_range permutation (suc i) (omega arith) (omega arith)) in
    omega (arith, length-values row small)

module _ (n k place m : ℕ) (passed : check_row_count n k place m ≡ 0) where
  rows-narrow : (i : ℕ) → i < length (take m (drop place (S n k))) → length (values (row_at (take m (drop place (S n k))) i)) ≤ 60
  rows-narrow i h =
      let on = row-count_passed n k place m passed in
      let size = length-take-le m (drop place (S n k)) (omega (arith, length-drop place (S n k), length-S n k)) in
      rw (get_or-take m (drop place (S n k)) i [] (omega arith), get_or-drop place (S n k) i []) (narrow n k (place + i) on.0 (omega arith))

  -- the line of names and the rows fit
  rows_fit : length (name_line n ++ row_lines place (take m (drop place (S n k)))) ≤ CAPACITY
  rows_fit =
      let on = row-count_passed n k place m passed in
      let size = length-take-le m (drop place (S n k)) (omega (arith, length-drop place (S n k), length-S n k)) in
      omega (
        arith,
        length-append (name_line n) (row_lines place (take m (drop place (S n k)))),
        length-name_line n on.0,
        length_lines place (take m (drop place (S n k))) rows-narrow,
      )

-- what is written for any asked fits
asked_fits : (asks : Option Request) → length (answer_to asks) ≤ CAPACITY
unfolding answer_to
asked_fits None = omega (arith, length_refused 11)
asked_fits (Some r) = by-check (check_row_count r.n r.k r.place r.m) refl
  where
    by-check : (i : ℕ) → check_row_count r.n r.k r.place r.m ≡ i → length (unless i (name_line r.n ++ lines_of r) (refused_line i)) ≤ CAPACITY
    by-check zero e = rows_fit r.n r.k r.place r.m e
    by-check (suc i) e = omega (arith, length_refused (suc i))

-- the answer to any text fits
pub answer_fits : (text : List ℕ) → length (answer text) ≤ CAPACITY
answer_fits text = asked_fits (asked text)

-- a sheet with numbers below 10^19 is at most 103 bytes
length_sheet : (n k place m : ℕ) → n < 10 ^ 19 → k < 10 ^ 19 → place < 10 ^ 19 → m < 10 ^ 19 → length (sheet_of n k place m) ≤ REWRITTEN_CAPACITY
length_sheet n k place m a b c d =
    simp length-append
    (omega (arith, length-decimal n a, length-decimal k b, length-decimal place c, length-decimal m d))

-- and so does the sheet of what any text asks for, by either grammar,
pub sheet_fits : (g : Grammar) (text : List ℕ) → length (rewritten_to (asked_in g text)) ≤ REWRITTEN_CAPACITY
unfolding rewritten_to
sheet_fits g text = by-asked (asked_in g text) refl
  where
    by-asked : (asks : Option Request) → asked_in g text ≡ asks → length (rewritten_to asks) ≤ REWRITTEN_CAPACITY
    by-asked None e = omega (arith, length_refused 11)
    by-asked (Some r) e =
        let s = only g text r.n r.k r.place r.m e in
        length_sheet r.n r.k r.place r.m (number_below s.writes_n) (number_below s.writes_k) (number_below s.writes_place) (number_below s.writes_m)

-- and the rewriting of any text
pub rewritten_fits : (text : List ℕ) → length (rewritten text) ≤ REWRITTEN_CAPACITY
rewritten_fits = sheet_fits Filed
