-- Wishes, and the first row of a list that meets them: document 02, i). These are definitions; nothing is assumed.
use Rattle.std.specs.Prelude.{ℕ, suc, ◌+◌, Bool, not, cond, ◌||◌, List, [], ◌∷◌, eqb, length, drop}
use Rattle.perm.specs.Lists.{some, positions}
use Rattle.perm.specs.Permutation.{at}
use Rattle.gray.specs.Order.{Row}

-- a position's wish and the value that stands there: 0 leaves the position free, and any other wish is for that value
abbrev pub granted : ℕ → ℕ → Bool
granted entry value = eqb entry 0 || eqb entry value

-- document 02's *wishes*, a number for each position: s has the wished value at each position with a wish
unfoldable pub meets : List ℕ → Row → Bool
meets w s = not (some (λ i. not (granted (at w i) (at s i))) (positions (length w)))

-- how many rows of a list come before the first that passes a test: all of them where none does
unfoldable pub until : (Row → Bool) → List Row → ℕ
until p [] = 0
until p (s ∷ rows) = cond (p s) 0 (suc (until p rows))

-- document 02's "first stabling at or after it": the least place from `place` on whose row passes the test, and the number of rows where none does
abbrev pub least_from : (Row → Bool) → List Row → ℕ → ℕ
least_from p rows place = place + until p (drop place rows)
