-- Pairs of positions as bytes, two a pair: how document 02, c) and l), writes exchanges and moves. These are definitions; nothing is assumed.
use Rattle.std.specs.Prelude.{ℕ, ◌*◌, List, [], ◌∷◌, ◌++◌, length, drop}

-- two positions
abbrev pub Pair : Type 0
Pair = ℕ × ℕ

-- pairs as two bytes each
unfoldable pub bytes_of : List Pair → List ℕ
bytes_of [] = []
bytes_of (x ∷ xs) = x.0 ∷ x.1 ∷ bytes_of xs

-- the bytes of pairs in the front of a buffer that held `before`; the bytes after them stay
abbrev pub front : List Pair → List ℕ → List ℕ
front x before = bytes_of x ++ drop (2 * length x) before

-- bytes read as pairs
unfoldable pub pairs_in : List ℕ → List Pair
pairs_in [] = []
pairs_in (a ∷ []) = []
pairs_in (a ∷ b ∷ bytes) = (a, b) ∷ pairs_in bytes
