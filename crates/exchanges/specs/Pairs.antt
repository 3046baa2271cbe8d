-- Document 02, c): pairs of positions whose values are exchanged, one pair after another. These are definitions; nothing is assumed.
use Rattle.std.specs.Prelude.{ℕ, zero, suc, ◌≤◌, cond, List, [], ◌∷◌, ◌++◌, eqb, length}
use Rattle.perm.specs.Permutation.{at, exchange}
use Rattle.perm.specs.Pairs.{Pair}

-- the pair pi, i, where the array p has pi other than i, and else none
abbrev pub pair_at : List ℕ → ℕ → List Pair
pair_at p i = cond (eqb (at p i) i) [] ((at p i, i) ∷ [])

-- such pairs for each i up to m, rising
unfoldable pub pairs_to : List ℕ → ℕ → List Pair
pairs_to p zero = []
pairs_to p (suc m) = pairs_to p m ++ pair_at p (suc m)

-- and for each i of the array
abbrev pub pairs_of : List ℕ → List Pair
pairs_of p = pairs_to p (length p)

-- the values at the two positions of each pair exchanged, one pair after another from the left
unfoldable pub exchange_all : List Pair → List ℕ → List ℕ
exchange_all [] s = s
exchange_all (x ∷ xs) s = exchange_all xs (exchange x.0 x.1 s)

-- each pair names positions 1 to n; the two may be equal
unfoldable pub Inside : ℕ → List Pair → Type 0
Inside n [] = Unit
Inside n (x ∷ xs) = (1 ≤ x.0) × (x.0 ≤ n) × (1 ≤ x.1) × (x.1 ≤ n) × Inside n xs
