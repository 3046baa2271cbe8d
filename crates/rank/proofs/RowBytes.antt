-- Rows of S(n,k), one after another in a list of bytes: how long they are, one row more, and which row stands where.
-- From the laws of S(n,k): each row is a permutation of n, and there are c(n,k) rows. Assumes nothing.
use Prim.Native.Nat.{ℕ, zero, suc, ◌+◌, ◌-◌, ◌*◌, ◌≤◌, ◌<◌}
use native.Mathlib.Omega.{arith}
use native.Mathlib.Nat.{suc-mul, mul-le-mul_right}
use native.Mathlib.Numerals.{add-one}
use mathlib.Core.Path.{◌≡◌, ◌∙◌, refl, sym, ap}
use mathlib.Core.Bool.{Bool, true, false}
use mathlib.Core.List.{List, [], ◌∷◌, ◌++◌, flatten, append_assoc, append-nil}
use lib.ListN.{length, take, drop, length-append, length-drop, length-reverse, drop_of_length-le}
use lib.Seq.{length-take-le, take_at, drop_at, take-append-le, drop-append-le, drop-append-add, get_or-take, get_or-drop, take_all, drop-drop}
use Rattle.stirling.specs.Count.{c}
use Rattle.gray.specs.Order.{S}
use Rattle.gray.specs.Listing.{row_at}
use Rattle.rank.specs.Place.{check_rows, rows_from, RowsWritten}
use Rattle.gray.proofs.Once.{length-S}
use Rattle.rank.specs.Search.{reading_of}
use Rattle.rank.proofs.Reversed.{row-size}
use Rattle.rank.proofs.RowChecks.{row-count_passed, rows-passed}

-- every row of a list is n long
abbrev pub Wide : ℕ → List (List ℕ) → Type 0
Wide n rows = (i : ℕ) → i < length rows → length (row_at rows i) ≡ n

pub wide_tail : (n : ℕ) (row : List ℕ) (rows : List (List ℕ)) → Wide n (row ∷ rows) → Wide n rows
wide_tail n row rows w i h = w (suc i) (omega arith)

-- rows n long, one after another, are n times as many elements
length-flatten : (n : ℕ) (rows : List (List ℕ)) → Wide n rows → length (flatten rows) ≡ length rows * n
unfolding flatten
length-flatten n [] w = omega arith
length-flatten n (row ∷ rows) w =
    omega (arith, length-append row (flatten rows), w 0 (omega arith), length-flatten n rows (wide_tail n row rows w), suc-mul (length rows) n)

-- row i of rows n long, one after another, stands at i × n
row-flatten : (n : ℕ) (rows : List (List ℕ)) (i : ℕ) → Wide n rows → i < length rows → take n (drop (i * n) (flatten rows)) ≡ row_at rows i
unfolding flatten
row-flatten n [] i w h = absurd (omega arith)
row-flatten n (row ∷ rows) zero w h =
    let e : 0 * n ≡ 0 = omega arith in
    rw e (take_at row (flatten rows) n (w 0 (omega arith)))
row-flatten n (row ∷ rows) (suc i) w h =
    let e : suc i * n ≡ length row + i * n = omega (arith, w 0 (omega arith), suc-mul i n) in
    rw (e, drop-append-add row (flatten rows) (i * n)) (row-flatten n rows i (wide_tail n row rows w) (omega arith))

-- one row more
flatten_more : (rows : List (List ℕ)) (i : ℕ) → i < length rows → flatten (take (suc i) rows) ≡ flatten (take i rows) ++ row_at rows i
unfolding flatten
flatten_more [] i h = absurd (omega arith)
flatten_more (row ∷ rows) zero h = append-nil row
flatten_more (row ∷ rows) (suc i) h =
    rw (flatten_more rows i (omega arith)) (sym (append_assoc row (flatten (take i rows)) (row_at rows i)))

-- a reading has as many rows as the list
pub length-reading : (backward : Bool) (n k : ℕ) → length (reading_of backward n k) ≡ c n k
length-reading true n k = length-reverse (S n k) ∙ length-S n k
length-reading false n k = length-S n k

-- some rows of a reading of S(n,k) from a place on
abbrev pub rows_of : Bool → ℕ → ℕ → ℕ → ℕ → List (List ℕ)
rows_of backward n k place m = take m (drop place (reading_of backward n k))

module _ (backward : Bool) (n k place m : ℕ) (inside : place + m ≤ c n k) where
  -- there are m rows from the place on
  pub count-rows : length (rows_of backward n k place m) ≡ m
  count-rows =
      length-take-le m (drop place (reading_of backward n k)) (omega (arith, length-drop place (reading_of backward n k), length-reading backward n k))

  -- row i of them is the row at place + i
  pub row_from : (i : ℕ) → i < m → row_at (rows_of backward n k place m) i ≡ row_at (reading_of backward n k) (place + i)
  row_from i h = get_or-take m (drop place (reading_of backward n k)) i [] h ∙ get_or-drop place (reading_of backward n k) i []

  -- and n long
  pub wide_rows : Wide n (rows_of backward n k place m)
  wide_rows i h =
      let below : i < m = omega (arith, count-rows) in
      rw (row_from i below) (row-size n k (place + i) backward (omega arith))

module _ (n k place m : ℕ) (inside : place + m ≤ c n k) where
  -- m rows are m × n bytes
  pub length-rows : length (rows_from n k place m) ≡ m * n
  length-rows = length-flatten n (take m (drop place (S n k))) (wide_rows false n k place m inside) ∙ ap (λ (l : ℕ). l * n) (count-rows false n k place m inside)

  -- row i of m rows from a place on, n bytes from byte i × n on, is the row at place + i
  pub row_of : (i : ℕ) → i < m → take n (drop (i * n) (rows_from n k place m)) ≡ row_at (S n k) (place + i)
  row_of i h =
      row-flatten n (take m (drop place (S n k))) i (wide_rows false n k place m inside) (omega (arith, count-rows false n k place m inside))
      ∙ row_from false n k place m inside i h

-- one row more
pub one_more : (n k place i : ℕ) → place + i < c n k → rows_from n k place (i + 1) ≡ rows_from n k place i ++ row_at (S n k) (place + i)
one_more n k place i h =
    let below : i < length (drop place (S n k)) = omega (arith, length-drop place (S n k), length-S n k) in
    rw (add-one, flatten_more (drop place (S n k)) i below, get_or-drop place (S n k) i [])

-- a row put after the rows that a list begins with: n elements from the `at`-th on, behind a front of `at` elements
splice : (at n : ℕ) (front row whole : List ℕ) → length front ≡ at
    → take at (front ++ drop at whole) ++ (row ++ drop n (drop at (front ++ drop at whole))) ≡ front ++ row ++ drop (at + n) whole
splice at n front row whole e =
    rw (take_at front (drop at whole) at e, drop_at front (drop at whole) at e, drop-drop n at whole)
    (sym (append_assoc front row (drop (at + n) whole)))

-- the row after i of m rows ends where m rows end, or before
pub next_row : (i m n : ℕ) → i < m → i * n + n ≤ m * n
next_row i m n h = rw (suc-mul i n) at (mul-le-mul_right n h)

-- before the first turn no row is written
pub no_rows : (n k place : ℕ) (whole : List ℕ) → whole ≡ rows_from n k place 0 ++ drop (0 * n) whole
unfolding flatten
no_rows n k place whole =
    let e : 0 * n ≡ 0 = omega arith in
    rw e

-- the part of a list from i × n to (i + 1) × n has n elements
pub row_lent : (n i end : ℕ) (part : List ℕ) → end ≡ i * n + n → end ≤ length part → length (take (end - i * n) (drop (i * n) part)) ≡ n
row_lent n i end part z room =
    let size : end - i * n ≡ n = omega arith in
    rw size (length-take-le n (drop (i * n) part) (omega (arith, length-drop (i * n) part)))

-- one turn: a list that begins with i rows, whose part from i × n to (i + 1) × n becomes the row at place + i, begins with i + 1 rows
pub turn : (n k place i end : ℕ) (part whole row : List ℕ) → place + i < c n k → end ≡ i * n + n
    → part ≡ rows_from n k place i ++ drop (i * n) whole
    → row ≡ row_at (S n k) (place + i)
    → take (i * n) part ++ (row ++ drop (end - i * n) (drop (i * n) part)) ≡ rows_from n k place (i + 1) ++ drop ((i + 1) * n) whole
turn n k place i end part whole row p z e written =
    let front : length (rows_from n k place i) ≡ i * n = length-rows n k place i (omega arith) in
    let size : end - i * n ≡ n = omega arith in
    let next : (i + 1) * n ≡ i * n + n = omega (arith, suc-mul i n) in
    rw (size, e, splice (i * n) n (rows_from n k place i) row whole front, one_more n k place i p, written, next)

-- a front put where the part of a list from o on begins, with that part handed back whole
splice_tail : (o j : ℕ) (front whole : List ℕ)
    → take o whole ++ ((front ++ drop j (take (length whole - o) (drop o whole))) ++ drop (length whole - o) (drop o whole)) ≡ take o whole ++ front ++ drop (o + j) whole
splice_tail o j front whole =
    let e : length (drop o whole) ≡ length whole - o = length-drop o whole in
    let short : length (drop o whole) ≤ length whole - o = omega arith in
    rw (take_all (length whole - o) (drop o whole) short, drop_of_length-le (drop o whole) short, append-nil, drop-drop j o whole)
    (sym (append_assoc (take o whole) front (drop (o + j) whole)))

-- a call that is not refused writes m rows, where the part from o on comes back with them at its front
pub rows-put : (n k place m o : ℕ) (buf part : List ℕ) → check_rows n k place m o (length buf) ≡ 0
    → part ≡ rows_from n k place m ++ drop (m * n) (take (length buf - o) (drop o buf))
    → RowsWritten n k place m o buf 0 (take o buf ++ (part ++ drop (length buf - o) (drop o buf)))
rows-put n k place m o buf part passed e =
    record { refusal = sym passed; written = λ _. rw e (splice_tail o (m * n) (rows_from n k place m) buf); kept = λ refused. absurd (refused refl) }

-- what a reader of the buffer finds: after a call that is not refused, the n bytes from o + i × n on are the row at place + i
pub written_row : (n k place m o : ℕ) (before after : List ℕ) → RowsWritten n k place m o before 0 after
    → (i : ℕ) → i < m → take n (drop (o + i * n) after) ≡ row_at (S n k) (place + i)
written_row n k place m o before after w i h =
    let passed = rows-passed n k place m o (length before) (sym w.refusal) in
    let on = row-count_passed n k place m passed.0 in
    let written = rows_from n k place m in
    let rest = drop (o + m * n) before in
    let front : length (take o before) ≡ o = length-take-le o before (omega (arith, passed.1)) in
    let size : length written ≡ m * n = length-rows n k place m on.3 in
    let room : i * n + n ≤ m * n = next_row i m n h in
    let inner : i * n ≤ length written = omega arith in
    let row : n ≤ length (drop (i * n) written) = omega (arith, length-drop (i * n) written) in
    let at : o + i * n ≡ length (take o before) + i * n = omega arith in
    rw (w.written refl, append_assoc (take o before) written rest, at, drop-append-add (take o before) (written ++ rest) (i * n), drop-append-le (i * n) written rest inner, take-append-le n (drop (i * n) written) rest row)
    (row_of n k place m on.3 i h)
