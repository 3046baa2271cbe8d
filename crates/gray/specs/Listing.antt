-- What demand 3 says of a list of permutations: complete, and neighbours three positions apart. These are definitions; nothing is assumed.
use Rattle.std.specs.Prelude.{◌≡◌, ℕ, suc, ◌-◌, ◌≤◌, ◌<◌, List, [], length, get_or}
use Rattle.perm.specs.Permutation.{IsPermutation, rotate}
use Rattle.perm.specs.Cycle.{cycles}
use Rattle.gray.specs.Order.{Row}

-- the row at a place, counted from 0
abbrev pub row_at : List Row → ℕ → Row
row_at rows place = get_or rows place []

-- a permutation of n with exactly k cycles, counted by following
pub record HasCycles (n k : ℕ) (s : Row) : Type 0 where
  pub permutation : IsPermutation n s
  pub count : cycles s ≡ k

-- every permutation of n with exactly k cycles exactly once, and nothing else: each stands at a place, at one place only, and each place has one
pub record Complete (n k : ℕ) (rows : List Row) : Type 0 where
  pub sound : (place : ℕ) → place < length rows → HasCycles n k (row_at rows place)
  pub place : (s : Row) → HasCycles n k s → (r : ℕ) × (r < length rows) × (row_at rows r ≡ s)
  pub only : (r q : ℕ) → r < length rows → q < length rows → row_at rows r ≡ row_at rows q → r ≡ q

-- i, j and l are three different positions of 1 to n
pub record Positions (n i j l : ℕ) : Type 0 where
  pub i_in : (1 ≤ i) × (i ≤ n)
  pub j_in : (1 ≤ j) × (j ≤ n)
  pub l_in : (1 ≤ l) × (l ≤ n)
  pub i_j : i ≡ j → ⊥
  pub j_l : j ≡ l → ⊥
  pub l_i : l ≡ i → ⊥

-- document 01's "three trams going round on three roads": t is s·⟨i,j,l⟩ for three different positions
pub record Near (n : ℕ) (s t : Row) : Type 0 where
  pub i : ℕ
  pub j : ℕ
  pub l : ℕ
  pub three : Positions n i j l
  pub step : t ≡ rotate s i j l

-- each row is near the one before it
abbrev pub Neighbours : ℕ → List Row → Type 0
Neighbours n rows = (place : ℕ) → suc place < length rows → Near n (row_at rows place) (row_at rows (suc place))

-- the first row is near the last, where there are two rows or more
abbrev pub Closed : ℕ → List Row → Type 0
Closed n rows = 2 ≤ length rows → Near n (row_at rows (length rows - 1)) (row_at rows 0)
