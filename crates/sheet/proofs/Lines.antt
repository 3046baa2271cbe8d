-- The texts of the answer, one name, one value or one row at a time. From the law of S(n,k) that there are c(n,k) rows. Assumes nothing.
use Prim.Native.Nat.{ℕ, suc, ◌+◌, ◌-◌, ◌≤◌, ◌<◌}
use native.Mathlib.Numerals.{add-one}
use native.Mathlib.Omega.{arith}
use mathlib.Core.Path.{◌≡◌, refl}
use mathlib.Core.List.{List, [], ◌∷◌, ◌++◌, append_assoc}
use lib.ListN.{length, take, drop, get_or}
use lib.Seq.{drop-cons}
use Rattle.stirling.specs.Count.{c}
use Rattle.perm.specs.Lists.{range}
use Rattle.gray.specs.Order.{Row, S}
use Rattle.gray.specs.Listing.{row_at}
use Rattle.gray.proofs.Once.{length-S}
use Rattle.sheet.specs.Text.{SPACE, column_name, decimal}
use Rattle.sheet.specs.Sheet.{names, values, row_lines}
use Rattle.sheet.specs.Written.{Wrote, row_line}
use Rattle.sheet.specs.declared.Writer.{Writer}
use Rattle.sheet.proofs.Writing.{Left, left-next}

-- of the names before `end`, that of i and the next ones
pub names-next : (i end : ℕ) → i < end → names (range i (end - i)) ≡ (SPACE ∷ (column_name ++ decimal i)) ++ names (range (i + 1) (end - (i + 1)))
unfolding names range
names-next i end h =
    let s : end - i ≡ suc (end - (i + 1)) = omega arith in
    rw (s, add-one i)

-- so the others are left once it is written
pub name_left : {u v w : Writer} {all : List ℕ} (i end : ℕ) → i < end → Left u all v (names (range i (end - i))) → Wrote v (SPACE ∷ (column_name ++ decimal i)) w
    → Left u all w (names (range (i + 1) (end - (i + 1))))
name_left i end h l p = left-next (SPACE ∷ (column_name ++ decimal i)) _ (names-next i end h) l p

-- after all names, none
pub names_none : (i end : ℕ) → end ≤ i → names (range i (end - i)) ≡ []
unfolding names range
names_none i end h =
    let none : end - i ≡ 0 = omega arith in
    rw none

-- after i values of a row, the next
pub values-next : (row : Row) (i : ℕ) → i < length row → values (drop i row) ≡ (SPACE ∷ decimal (get_or row i 0)) ++ values (drop (i + 1) row)
unfolding values
values-next row i h = rw (drop-cons row i 0 h, add-one i)

-- of no values, nothing is written
pub values_none : values [] ≡ []
unfolding values
values_none = refl

-- so the others are left once it is written
pub value_left : {u v w : Writer} {all : List ℕ} (row : Row) (i : ℕ) → i < length row → Left u all v (values (drop i row))
    → Wrote v (SPACE ∷ decimal (get_or row i 0)) w → Left u all w (values (drop (i + 1) row))
value_left row i h l p = left-next (SPACE ∷ decimal (get_or row i 0)) _ (values-next row i h) l p

-- the first of several rows, and the others
pub rows_next : (place : ℕ) (row : Row) (rows : List Row) → row_lines place (row ∷ rows) ≡ row_line place row ++ row_lines (suc place) rows
unfolding row_lines
rows_next place row rows = simp append_assoc

-- of the rows before `end`, that at a place and the next ones
pub lines_next : (n k place end : ℕ) → place < end → place < c n k
    → row_lines place (take (end - place) (drop place (S n k)))
    ≡ row_line place (row_at (S n k) place) ++ row_lines (place + 1) (take (end - (place + 1)) (drop (place + 1) (S n k)))
lines_next n k place end h p =
    let s : end - place ≡ suc (end - (place + 1)) = omega arith in
    let inside : place < length (S n k) = omega (arith, length-S n k) in
    rw (s, drop-cons (S n k) place [] inside, rows_next, add-one place)

-- after all rows, none
pub lines_none : (place end : ℕ) (rows : List Row) → end ≤ place → row_lines place (take (end - place) rows) ≡ []
unfolding row_lines
lines_none place end rows h =
    let none : end - place ≡ 0 = omega arith in
    rw none
