-- What a sheet's text asks for: document 01's "The sheet", with document 02's number, and as filed sheets are read, for every text of any length. These are
-- definitions; nothing is assumed.
use Rattle.std.specs.Prelude.{ℕ, ◌+◌, Bool, false, cond, not, ◌&&◌, Option, None, Some, List, [], ◌∷◌, eqb, leb, length, take, drop}
use Rattle.stirling.specs.Refusal.{within}
use Rattle.perm.specs.Lists.{same}
use Rattle.sheet.specs.Text.{SPACE, LF, ZERO, header, is_digit, value_from}
use Rattle.sheet.specs.declared.Request.{Request}
use Rattle.sheet.specs.declared.Grammar.{Grammar}
use Rattle.sheet.specs.declared.Grammar.TheVariants.{Current, Filed}

-- what a text asks for: m rows of S(n,k) from a place on; or that it is no sheet
abbrev pub Rows : (n k place m : ℕ) → Option Request
Rows n k place m = Some (record { n = n; k = k; place = place; m = m })

abbrev pub Unreadable : Option Request
Unreadable = None

-- the digits that a text begins with
unfoldable pub leading : List ℕ → List ℕ
leading [] = []
leading (b ∷ bs) = cond (is_digit b) (b ∷ leading bs) []

-- the text begins with the byte b
abbrev pub begins : ℕ → List ℕ → Bool
begins b [] = false
begins b (x ∷ xs) = eqb x b

-- document 01's number, by which filed sheets are read: 1 to 19 digits, leading zeros allowed
abbrev pub is_filed_number : List ℕ → Bool
is_filed_number ds = within 1 19 (length ds)

-- a number other than `0` that begins with 0
abbrev pub leading_zero : List ℕ → Bool
leading_zero ds = begins ZERO ds && not (same ds (ZERO ∷ []))

-- document 02's number, m): such a one is refused
abbrev pub is_number : List ℕ → Bool
is_number ds = is_filed_number ds && not (leading_zero ds)

-- the number of each grammar
abbrev pub number_in : Grammar → List ℕ → Bool
number_in Current ds = is_number ds
number_in Filed ds = is_filed_number ds

-- a number at the beginning of a text, and the byte that ends it: the number, the text after that byte, and whether the digits are a number and that byte stands there
pub record Field : Type 0 where
  pub value : ℕ
  pub rest : List ℕ
  pub good : Bool

unfoldable pub field : Grammar → ℕ → List ℕ → Field
field g end text = record {
  value = value_from 0 (leading text);
  rest = drop (length (leading text) + 1) text;
  good = number_in g (leading text) && begins end (drop (length (leading text)) text);
}

-- the line after the header: four numbers, single spaces between, ended by LF, nothing after
unfoldable pub asked_line : Grammar → List ℕ → Option Request
asked_line g line =
    let n = field g SPACE line in
    let k = field g SPACE n.rest in
    let place = field g SPACE k.rest in
    let m = field g LF place.rest in
    cond (n.good && k.good && place.good && m.good && same m.rest [])
    (Rows n.value k.value place.value m.value)
    Unreadable

-- the whole text: at most 4,096 bytes, the header, then that line
unfoldable pub asked_in : Grammar → List ℕ → Option Request
asked_in g text =
    cond (leb (length text) 4096 && same (take (length header) text) header)
    (asked_line g (drop (length header) text))
    Unreadable

-- what a sheet asks for
abbrev pub asked : List ℕ → Option Request
asked text = asked_in Current text

-- what a filed sheet asks for, read as before document 02, m)
abbrev pub asked_filed : List ℕ → Option Request
asked_filed text = asked_in Filed text
