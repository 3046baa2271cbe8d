-- What the program rewrite writes for a text: document 02, m). These are definitions; nothing is assumed.
use Rattle.std.specs.Prelude.{ℕ, Option, None, Some, List, [], ◌∷◌, ◌++◌}
use Rattle.sheet.specs.Text.{SPACE, LF, header, decimal}
use Rattle.sheet.specs.Asked.{asked_filed}
use Rattle.sheet.specs.Sheet.{refused_line}
use Rattle.sheet.specs.declared.Request.{Request}

-- the header, and a line of four texts with single spaces between, ended by LF
abbrev pub sheet_text : (a b c d : List ℕ) → List ℕ
sheet_text a b c d = header ++ (a ++ (SPACE ∷ (b ++ (SPACE ∷ (c ++ (SPACE ∷ (d ++ (LF ∷ []))))))))

-- the sheet that asks for m rows of S(n,k) from a place on, no number with a leading zero
abbrev pub sheet_of : (n k place m : ℕ) → List ℕ
sheet_of n k place m = sheet_text (decimal n) (decimal k) (decimal place) (decimal m)

-- what is written for what a filed sheet asks for, in range or not, and for any other text
unfoldable pub rewritten_to : Option Request → List ℕ
rewritten_to None = refused_line 11
rewritten_to (Some r) = sheet_of r.n r.k r.place r.m

-- the rewriting of a text
abbrev pub rewritten : List ℕ → List ℕ
rewritten text = rewritten_to (asked_filed text)
