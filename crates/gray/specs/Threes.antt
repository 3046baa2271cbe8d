-- Document 02, n), of the whole list: how many neighbours have arrays that differ in exactly three entries. These are definitions; nothing is assumed.
use Rattle.std.specs.Prelude.{ℕ, zero, suc, ◌+◌, ◌-◌, ◌*◌, cond, ◌||◌, List, [], ◌∷◌, eqb, leb}
use Rattle.perm.specs.Lists.{one, tally}
use Rattle.perm.specs.Array.{entries_changed}
use Rattle.gray.specs.Order.{Row}

-- the neighbours of a list: each row with the one after it. The ring step, from the last row to the first, is left out
unfoldable pub pairs : List Row → List (Row × Row)
pairs [] = []
pairs (s ∷ []) = []
pairs (s ∷ t ∷ rows) = (s, t) ∷ pairs (t ∷ rows)

-- how many neighbours of a list of permutations of n have arrays that differ in exactly three entries
unfoldable pub threes : ℕ → List Row → ℕ
threes n rows = tally (λ (pair : Row × Row). eqb (entries_changed n pair.0 pair.1) 3) (pairs rows)

-- document 02's t(n,k): 0 for n ≤ 4 or k = 0, otherwise (n−1)×t(n−1,k) + t(n−1,k−1), plus 1 if k = 2
unfoldable pub t : ℕ → ℕ → ℕ
t zero k = 0
t (suc n) k = cond (leb (suc n) 4 || eqb k 0) 0 (n * t n k + t n (k - 1) + one (eqb k 2))
