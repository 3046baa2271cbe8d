-- Rows at a distance from each other in a slice of bytes: what a page is while its rows are being made. Only private contracts cite them. These are definitions;
-- nothing is assumed.
use Rattle.std.specs.Prelude.{ℕ, ◌+◌, ◌-◌, ◌*◌, ◌≤◌, List, [], ◌∷◌, ◌++◌, map, length, get_or, set, drop, take, replicate}
use Rattle.stirling.specs.Count.{c}
use Rattle.gray.specs.Order.{Row}

-- a row written over the front of some bytes; the bytes behind it stay
abbrev pub overwritten : Row → List ℕ → List ℕ
overwritten row bytes = row ++ drop (length row) bytes

-- value n put into a row of n−1 in front of some bytes: the value at position i goes to position n, and n to position i
abbrev pub put_in : ℕ → ℕ → List ℕ → List ℕ
put_in n i bytes = set (set bytes (n - 1) (get_or bytes (i - 1) 0)) (i - 1) n

-- some changes, each of `apart` bytes of its own: the first of the first bytes, the next of those after them, and so on; the bytes after them all stay
unfoldable pub spaced : ℕ → List (List ℕ → List ℕ) → List ℕ → List ℕ
spaced apart [] bytes = bytes
spaced apart (change ∷ changes) bytes = change (take apart bytes) ++ spaced apart changes (drop apart bytes)

-- rows at a distance, each written over the front of its own bytes
abbrev pub rows_apart : ℕ → List Row → List ℕ → List ℕ
rows_apart apart rows bytes = spaced apart (map overwritten rows) bytes

-- value n put into each of so many rows at a distance
abbrev pub put_apart : ℕ → ℕ → ℕ → ℕ → List ℕ → List ℕ
put_apart n i apart count bytes = spaced apart (replicate count (put_in n i)) bytes

-- what rows of S(n,k) at a distance ask for: n of the table, some rows from the place on, each no longer than the distance, and bytes for them all
pub record Fillable (n k place count apart size : ℕ) : Type 0 where
  pub small : n ≤ 20
  pub some : 1 ≤ count
  pub rows : place + count ≤ c n k
  pub wide : n ≤ apart
  pub lent : count * apart ≤ size
