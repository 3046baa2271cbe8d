-- What is said of a list of permutations of a kind, and of the tree of any rule. These are definitions; nothing is assumed.
use Rattle.std.specs.Prelude.{◌≡◌, ℕ, suc, ◌≤◌, ◌<◌, cond, List, [], ◌∷◌, length, get_or}
use Rattle.perm.specs.Lists.{same}
use Rattle.perm.specs.Permutation.{IsPermutation}
use Rattle.tree.specs.Tree.{Rule, tree, IsChild, parent}

-- the row at a place, counted from 0
abbrev pub row_at : List (List ℕ) → ℕ → List ℕ
row_at rows place = get_or rows place []

-- document 01's *place* of s in a list that has it: how many rows stand before it
unfoldable pub place_in : List ℕ → List (List ℕ) → ℕ
place_in s [] = 0
place_in s (t ∷ rows) = cond (same s t) 0 (suc (place_in s rows))

-- document 02's "with each stabling of the kind there one time": each of the kind stands at a place, at one place only, and each place has one
pub record Holds (Kind : List ℕ → Type 0) (rows : List (List ℕ)) : Type 0 where
  pub sound : (place : ℕ) → place < length rows → Kind (row_at rows place)
  pub place : (s : List ℕ) → Kind s → (r : ℕ) × (r < length rows) × (row_at rows r ≡ s)
  pub only : (r q : ℕ) → r < length rows → q < length rows → row_at rows r ≡ row_at rows q → r ≡ q

-- document 02, k)'s law for any rule: no permutation occurs twice in the tree of n; exchanging the highest position whose value is away with the position where that value
-- stands leads from a child to its parent; and each row but the first is such a child of a row
pub record IsRooted (rule : Rule) (n : ℕ) : Type 0 where
  pub only : (r q : ℕ) → r < length (tree rule n) → q < length (tree rule n) → row_at (tree rule n) r ≡ row_at (tree rule n) q → r ≡ q
  pub up : (s x : List ℕ) → IsPermutation n s → IsChild rule s x → parent x ≡ s
  pub child : (r : ℕ) → 1 ≤ r → r < length (tree rule n)
      → IsChild rule (parent (row_at (tree rule n) r)) (row_at (tree rule n) r) × ((q : ℕ) × (q < length (tree rule n)) × (row_at (tree rule n) q ≡ parent (row_at (tree rule n) r)))
