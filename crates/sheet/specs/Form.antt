-- The form of a sheet, said without a reader: document 01's "The sheet", with the number of a grammar. These are definitions; nothing is assumed.
use Rattle.std.specs.Prelude.{ℕ, ◌<◌, ◌≡◌, true, false, List, length, get_or}
use Rattle.sheet.specs.Text.{is_digit, value_from}
use Rattle.sheet.specs.Asked.{leading_zero, number_in}
use Rattle.sheet.specs.Rewriting.{sheet_text}
use Rattle.sheet.specs.declared.Grammar.{Grammar}

-- a text of digits
abbrev pub AllDigits : List ℕ → Type 0
AllDigits ds = (i : ℕ) → i < length ds → is_digit (get_or ds i 0) ≡ true

-- digits that are a number of the grammar, and write x
pub record Writes (g : Grammar) (ds : List ℕ) (x : ℕ) : Type 0 where
  pub each : AllDigits ds
  pub right : number_in g ds ≡ true
  pub value : value_from 0 ds ≡ x

-- a text that asks for m rows of S(n,k) from a place on: the header, four numbers, single spaces between, each line ended by LF, nothing after
pub record IsSheet (g : Grammar) (text : List ℕ) (n k place m : ℕ) : Type 0 where
  pub first : List ℕ
  pub second : List ℕ
  pub third : List ℕ
  pub fourth : List ℕ
  pub writes_n : Writes g first n
  pub writes_k : Writes g second k
  pub writes_place : Writes g third place
  pub writes_m : Writes g fourth m
  pub whole : text ≡ sheet_text first second third fourth

-- none of its four numbers, other than `0`, begins with 0
abbrev pub Plain : {g : Grammar} {text : List ℕ} {n k place m : ℕ} → IsSheet g text n k place m → Type 0
Plain s =
    (leading_zero s.first ≡ false)
    × (leading_zero s.second ≡ false)
    × (leading_zero s.third ≡ false)
    × (leading_zero s.fourth ≡ false)
