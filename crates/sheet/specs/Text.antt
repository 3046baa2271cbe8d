-- Bytes of a text: the header, digits and numbers in base ten. These are definitions; nothing is assumed.
use Rattle.std.specs.Prelude.{ℕ, zero, suc, ◌+◌, ◌-◌, ◌*◌, ◌/◌, ◌%◌, Bool, cond, List, [], ◌∷◌, ◌++◌, ltb}
use Rattle.stirling.specs.Refusal.{within}

-- a space, and the LF that ends a line
abbrev pub SPACE : ℕ
SPACE = 32

abbrev pub LF : ℕ
LF = 10

-- `trams loops first rows` and LF
abbrev pub header : List ℕ
header =
    116 ∷ 114 ∷ 97 ∷ 109 ∷ 115 ∷ 32 ∷ 108 ∷ 111 ∷ 111 ∷ 112 ∷ 115 ∷ 32
    ∷ 102 ∷ 105 ∷ 114 ∷ 115 ∷ 116 ∷ 32 ∷ 114 ∷ 111 ∷ 119 ∷ 115 ∷ 10 ∷ []

-- `place`
abbrev pub place_name : List ℕ
place_name = 112 ∷ 108 ∷ 97 ∷ 99 ∷ 101 ∷ []

-- `road`
abbrev pub column_name : List ℕ
column_name = 114 ∷ 111 ∷ 97 ∷ 100 ∷ []

-- `refused`
abbrev pub refused_name : List ℕ
refused_name = 114 ∷ 101 ∷ 102 ∷ 117 ∷ 115 ∷ 101 ∷ 100 ∷ []

-- the digit `0`
abbrev pub ZERO : ℕ
ZERO = 48

-- a digit's byte, `0` to `9`
abbrev pub is_digit : ℕ → Bool
is_digit b = within ZERO 57 b

-- the number that a text of digits writes in base ten, after the digits that wrote `before`
unfoldable pub value_from : ℕ → List ℕ → ℕ
value_from before [] = before
value_from before (b ∷ bs) = value_from (before * 10 + (b - 48)) bs

-- a number in base ten, of at most `most` digits, with no leading zero
unfoldable pub digits : ℕ → ℕ → List ℕ
digits zero x = []
digits (suc most) x = cond (ltb x 10) ((48 + x) ∷ []) (digits most (x / 10) ++ ((48 + x % 10) ∷ []))

-- a number below 10^20 in base ten, with no leading zero
abbrev pub decimal : ℕ → List ℕ
decimal x = digits 20 x
