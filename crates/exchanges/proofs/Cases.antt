-- Examples of document 02, c), by computation: the pairs between some permutations. Assumes nothing.
use mathlib.Core.Path.{◌≡◌, refl}
use mathlib.Core.List.{[], ◌∷◌}
use Rattle.perm.specs.Permutation.{exchange}
use Rattle.perm.specs.Array.{position, array_of}
use Rattle.exchanges.specs.Carrying.{carrying}
use Rattle.exchanges.specs.Pairs.{pairs_to}
use Rattle.exchanges.specs.Between.{pairs_between}

pub record Table : Type 0 where
  -- no values: no pairs
  pub nothing : pairs_between [] [] ≡ []
  -- equal permutations: none
  pub equal : pairs_between (3 ∷ 1 ∷ 2 ∷ []) (3 ∷ 1 ∷ 2 ∷ []) ≡ []
  -- 21 to 12
  pub two : pairs_between (2 ∷ 1 ∷ []) (1 ∷ 2 ∷ []) ≡ (1, 2) ∷ []
  -- 123 to 312
  pub three : pairs_between (1 ∷ 2 ∷ 3 ∷ []) (3 ∷ 1 ∷ 2 ∷ []) ≡ (1, 2) ∷ (1, 3) ∷ []
  -- 3241 to 3124, places 5 and 6 of S(4,2): two exchanges from a row to the next
  pub rows : pairs_between (3 ∷ 2 ∷ 4 ∷ 1 ∷ []) (3 ∷ 1 ∷ 2 ∷ 4 ∷ []) ≡ (2, 3) ∷ (2, 4) ∷ []
  -- 1324 to 3412
  pub four : pairs_between (1 ∷ 3 ∷ 2 ∷ 4 ∷ []) (3 ∷ 4 ∷ 1 ∷ 2 ∷ []) ≡ (1, 2) ∷ (2, 3) ∷ (2, 4) ∷ []

pub table : Table
unfolding carrying pairs_to position array_of exchange
table = record { nothing = refl; equal = refl; two = refl; three = refl; rows = refl; four = refl }
