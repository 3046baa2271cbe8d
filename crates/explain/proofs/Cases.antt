-- Examples of document 02, b), by computation: the rows of some permutations. Assumes nothing.
use mathlib.Core.Path.{◌≡◌, refl}
use Prim.Native.Nat.{ℕ}
use mathlib.Core.Bool.{true, false}
use mathlib.Core.List.{[], ◌∷◌}
use Rattle.stirling.specs.Count.{c as count}
use Rattle.perm.specs.Lists.{tally, range}
use Rattle.perm.specs.Permutation.{exchange}
use Rattle.perm.specs.Cycle.{follow, least, cycles}
use Rattle.perm.specs.Array.{position}
use Rattle.gray.specs.Order.{letter, odd, rising, falling}
use Rattle.gray.specs.Blocks.{blocks_of_a, blocks_of, blocks, number_in}
use Rattle.rank.specs.Search.{sizes, before}
use Rattle.explain.specs.declared.Level.{Level}
use Rattle.rank.specs.Descent.{steps}
use Rattle.explain.specs.Levels.{lettered, total}
use Rattle.explain.specs.Explain.{rows_of}

-- a row: letter, block, reading, rows before
abbrev forward : ℕ → ℕ → ℕ → Level
forward letter block before = record { letter = letter; backward = false; block = block; before = before }

abbrev backward : ℕ → ℕ → ℕ → Level
backward letter block before = record { letter = letter; backward = true; block = block; before = before }

-- the letters' bytes
abbrev a : ℕ
a = 97

abbrev b : ℕ
b = 98

abbrev c : ℕ
c = 99

abbrev d : ℕ
d = 100

abbrev e : ℕ
e = 101

pub record Table : Type 0 where
  -- no values: no rows
  pub none : rows_of [] ≡ []
  -- 123: (b) over (b), and at 1 always (a)
  pub identity : rows_of (1 ∷ 2 ∷ 3 ∷ []) ≡ forward b 0 0 ∷ forward b 0 0 ∷ forward a 0 0 ∷ []
  -- 231: in (a) at 3 the rows written out are blocks 0 and 1
  pub written_out : rows_of (2 ∷ 3 ∷ 1 ∷ []) ≡ forward a 1 1 ∷ forward a 0 0 ∷ forward a 0 0 ∷ []
  -- 3421: below block 1 the list for 3 is read backward, and below (a) at 3 so are the others
  pub turned_once : rows_of (3 ∷ 4 ∷ 2 ∷ 1 ∷ []) ≡ forward a 1 2 ∷ backward a 0 1 ∷ backward a 0 0 ∷ backward a 0 0 ∷ []
  -- 1324: the last block of (c) reads its list backward
  pub extended : rows_of (1 ∷ 3 ∷ 2 ∷ 4 ∷ []) ≡ forward c 3 3 ∷ backward c 1 1 ∷ backward b 0 0 ∷ backward a 0 0 ∷ []
  -- 2431: block 3 of (d)
  pub by_d : rows_of (2 ∷ 4 ∷ 3 ∷ 1 ∷ []) ≡ forward d 3 8 ∷ backward c 2 0 ∷ backward a 0 0 ∷ backward a 0 0 ∷ []
  -- document 02's place 38: 31425
  pub place_38 : rows_of (3 ∷ 1 ∷ 4 ∷ 2 ∷ 5 ∷ []) ≡ forward e 3 33 ∷ forward a 2 4 ∷ backward a 0 1 ∷ backward a 0 0 ∷ backward a 0 0 ∷ []
  pub sum_38 : total (rows_of (3 ∷ 1 ∷ 4 ∷ 2 ∷ 5 ∷ [])) ≡ 38

pub table : Table
unfolding steps lettered total number_in before sizes count cycles least follow position exchange blocks blocks_of blocks_of_a letter odd rising falling range tally
table =
    record {
      none = refl;
      identity = refl;
      written_out = refl;
      turned_once = refl;
      extended = refl;
      by_d = refl;
      place_38 = refl;
      sum_38 = refl;
    }
