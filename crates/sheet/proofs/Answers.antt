-- Examples of document 02, m), by computation: what some texts ask for by each grammar, and how they are rewritten. The bytes of `0` to `9` are 48 to 57.
-- Assumes nothing.
use mathlib.Core.Path.{◌≡◌, refl}
use mathlib.Core.List.{[], ◌∷◌, ◌++◌}
use lib.ListN.{replicate}
use Rattle.stirling.specs.Count.{c}
use Rattle.perm.specs.Lists.{same}
use Rattle.sheet.specs.Text.{SPACE, LF, ZERO, value_from, digits}
use Rattle.sheet.specs.Asked.{Rows, Unreadable, leading, field, asked_line, asked_in, asked, asked_filed}
use Rattle.sheet.specs.Sheet.{refused_line}
use Rattle.sheet.specs.Rewriting.{sheet_text, rewritten_to, rewritten}

pub record Table : Type 0 where
  -- `0 0 0 1` is a sheet of both grammars
  pub zero : asked (sheet_text (48 ∷ []) (48 ∷ []) (48 ∷ []) (49 ∷ [])) ≡ Rows 0 0 0 1
  pub zero_filed : asked_filed (sheet_text (48 ∷ []) (48 ∷ []) (48 ∷ []) (49 ∷ [])) ≡ Rows 0 0 0 1
  -- `00 0 0 1` of that of filed sheets alone
  pub two_zeros : asked (sheet_text (48 ∷ 48 ∷ []) (48 ∷ []) (48 ∷ []) (49 ∷ [])) ≡ Unreadable
  pub two_zeros_filed : asked_filed (sheet_text (48 ∷ 48 ∷ []) (48 ∷ []) (48 ∷ []) (49 ∷ [])) ≡ Rows 0 0 0 1
  -- so are `04 2 5 3`, `4 02 5 3`, `4 2 05 3` and `4 2 5 03`
  pub first : asked (sheet_text (48 ∷ 52 ∷ []) (50 ∷ []) (53 ∷ []) (51 ∷ [])) ≡ Unreadable
  pub second : asked (sheet_text (52 ∷ []) (48 ∷ 50 ∷ []) (53 ∷ []) (51 ∷ [])) ≡ Unreadable
  pub third : asked (sheet_text (52 ∷ []) (50 ∷ []) (48 ∷ 53 ∷ []) (51 ∷ [])) ≡ Unreadable
  pub fourth : asked (sheet_text (52 ∷ []) (50 ∷ []) (53 ∷ []) (48 ∷ 51 ∷ [])) ≡ Unreadable
  -- `04 002 05 03` becomes `4 2 5 3`
  pub all_four : rewritten (sheet_text (48 ∷ 52 ∷ []) (48 ∷ 48 ∷ 50 ∷ []) (48 ∷ 53 ∷ []) (48 ∷ 51 ∷ [])) ≡ sheet_text (52 ∷ []) (50 ∷ []) (53 ∷ []) (51 ∷ [])
  -- zeros that do not lead stay: `010 010 00 01` becomes `10 10 0 1`; and `021 1 0 1`, out of range, becomes `21 1 0 1`
  pub later_zeros : rewritten (sheet_text (48 ∷ 49 ∷ 48 ∷ []) (48 ∷ 49 ∷ 48 ∷ []) (48 ∷ 48 ∷ []) (48 ∷ 49 ∷ [])) ≡ sheet_text (49 ∷ 48 ∷ []) (49 ∷ 48 ∷ []) (48 ∷ []) (49 ∷ [])
  pub out_of_range : rewritten (sheet_text (48 ∷ 50 ∷ 49 ∷ []) (49 ∷ []) (48 ∷ []) (49 ∷ [])) ≡ sheet_text (50 ∷ 49 ∷ []) (49 ∷ []) (48 ∷ []) (49 ∷ [])
  -- 19 zeros become `0`, and 20 are no number of either grammar
  pub nineteen : rewritten (sheet_text (replicate 19 ZERO) (48 ∷ []) (48 ∷ []) (49 ∷ [])) ≡ sheet_text (48 ∷ []) (48 ∷ []) (48 ∷ []) (49 ∷ [])
  pub twenty : rewritten (sheet_text (replicate 20 ZERO) (48 ∷ []) (48 ∷ []) (49 ∷ [])) ≡ refused_line 11
  -- no other text is rewritten: bytes after the line, a number missing, another header, the line that refuses
  pub bytes_after : rewritten (sheet_text (52 ∷ []) (50 ∷ []) (53 ∷ []) (51 ∷ []) ++ (LF ∷ [])) ≡ refused_line 11
  pub no_number : rewritten (sheet_text (52 ∷ []) (50 ∷ []) (53 ∷ []) []) ≡ refused_line 11
  pub other_header : rewritten (SPACE ∷ sheet_text (52 ∷ []) (50 ∷ []) (53 ∷ []) (51 ∷ [])) ≡ refused_line 11
  pub refused : rewritten (refused_line 11) ≡ refused_line 11

pub table : Table
unfolding leading field asked_line asked_in same value_from digits rewritten_to c
table = record {
  zero = refl;
  zero_filed = refl;
  two_zeros = refl;
  two_zeros_filed = refl;
  first = refl;
  second = refl;
  third = refl;
  fourth = refl;
  all_four = refl;
  later_zeros = refl;
  out_of_range = refl;
  nineteen = refl;
  twenty = refl;
  bytes_after = refl;
  no_number = refl;
  other_header = refl;
  refused = refl;
}
