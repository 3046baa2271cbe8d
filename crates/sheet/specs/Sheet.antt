-- What is written for a sheet: document 01's "The sheet". These are definitions; nothing is assumed.
use Rattle.std.specs.Prelude.{ℕ, suc, Option, None, Some, List, [], ◌∷◌, ◌++◌, take, drop}
use Rattle.stirling.specs.Refusal.{unless}
use Rattle.perm.specs.Lists.{positions}
use Rattle.gray.specs.Order.{Row, S}
use Rattle.rank.specs.Place.{check_row_count}
use Rattle.sheet.specs.Text.{SPACE, LF, place_name, column_name, refused_name, decimal}
use Rattle.sheet.specs.Asked.{asked}
use Rattle.sheet.specs.declared.Request.{Request}

-- for each position, a space, `road` and its number
unfoldable pub names : List ℕ → List ℕ
names [] = []
names (i ∷ is) = SPACE ∷ (column_name ++ decimal i ++ names is)

-- the line of names
abbrev pub name_line : ℕ → List ℕ
name_line n = place_name ++ names (positions n) ++ (LF ∷ [])

-- for each value of a row, a space and the value
unfoldable pub values : Row → List ℕ
values [] = []
values (v ∷ vs) = SPACE ∷ (decimal v ++ values vs)

-- for each row, its place and the value at each position
unfoldable pub row_lines : ℕ → List Row → List ℕ
row_lines place [] = []
row_lines place (row ∷ rows) = decimal place ++ values row ++ (LF ∷ row_lines (suc place) rows)

-- the lines of the rows that are asked for
abbrev pub lines_of : Request → List ℕ
lines_of r = row_lines r.place (take r.m (drop r.place (S r.n r.k)))

-- `refused`, one space, the number, LF
abbrev pub refused_line : ℕ → List ℕ
refused_line r = refused_name ++ (SPACE ∷ (decimal r ++ (LF ∷ [])))

-- the answer to what a text asks for: 11 for an unreadable text, then checks 1, 2, 3, 4; otherwise the line of names and the rows
unfoldable pub answer_to : Option Request → List ℕ
answer_to None = refused_line 11
answer_to (Some r) =
    unless (check_row_count r.n r.k r.place r.m)
    (name_line r.n ++ lines_of r)
    (refused_line (check_row_count r.n r.k r.place r.m))

-- what is written for a text
abbrev pub answer : List ℕ → List ℕ
answer text = answer_to (asked text)
