-- Fixed points and fixed entries of the array are two numbers, and so are positions and entries on which two differ: examples, by computation. Assumes nothing.
use mathlib.Core.Path.{◌≡◌, refl}
use mathlib.Core.List.{[], ◌∷◌}
use Rattle.perm.specs.Lists.{tally, range}
use Rattle.perm.specs.Permutation.{exchange, fixed, distance}
use Rattle.perm.specs.Cycle.{follow, least, cycles}
use Rattle.perm.specs.Array.{position, array_of, entries_changed}

pub record Table : Type 0 where
  -- 31425 has one fixed point, and its array 11135 two fixed entries, as many as it has cycles
  pub fixed_31425 : fixed (3 ∷ 1 ∷ 4 ∷ 2 ∷ 5 ∷ []) ≡ 1
  pub array_31425 : array_of 5 (3 ∷ 1 ∷ 4 ∷ 2 ∷ 5 ∷ []) ≡ 1 ∷ 1 ∷ 1 ∷ 3 ∷ 5 ∷ []
  pub entries_31425 : fixed (1 ∷ 1 ∷ 1 ∷ 3 ∷ 5 ∷ []) ≡ 2
  pub cycles_31425 : cycles (3 ∷ 1 ∷ 4 ∷ 2 ∷ 5 ∷ []) ≡ 2
  -- 2134 has two, and its array 1134 three
  pub fixed_2134 : fixed (2 ∷ 1 ∷ 3 ∷ 4 ∷ []) ≡ 2
  pub array_2134 : array_of 4 (2 ∷ 1 ∷ 3 ∷ 4 ∷ []) ≡ 1 ∷ 1 ∷ 3 ∷ 4 ∷ []
  pub entries_2134 : fixed (1 ∷ 1 ∷ 3 ∷ 4 ∷ []) ≡ 3
  pub cycles_2134 : cycles (2 ∷ 1 ∷ 3 ∷ 4 ∷ []) ≡ 3
  -- of the identity every value is fixed, of 21 none, and nothing has none
  pub fixed_123 : fixed (1 ∷ 2 ∷ 3 ∷ []) ≡ 3
  pub fixed_21 : fixed (2 ∷ 1 ∷ []) ≡ 0
  pub fixed_nothing : fixed [] ≡ 0

pub table : Table
unfolding fixed tally range exchange position array_of follow least cycles
table =
    record {
      fixed_31425 = refl;
      array_31425 = refl;
      entries_31425 = refl;
      cycles_31425 = refl;
      fixed_2134 = refl;
      array_2134 = refl;
      entries_2134 = refl;
      cycles_2134 = refl;
      fixed_123 = refl;
      fixed_21 = refl;
      fixed_nothing = refl;
    }

pub record Changes : Type 0 where
  -- 23415 and 31425 differ on three positions, and their arrays 11235 and 11135 in one entry; those of 31425 and 35124, 11135 and 12122, in three
  pub positions_23415 : distance (2 ∷ 3 ∷ 4 ∷ 1 ∷ 5 ∷ []) (3 ∷ 1 ∷ 4 ∷ 2 ∷ 5 ∷ []) ≡ 3
  pub changed_23415 : entries_changed 5 (2 ∷ 3 ∷ 4 ∷ 1 ∷ 5 ∷ []) (3 ∷ 1 ∷ 4 ∷ 2 ∷ 5 ∷ []) ≡ 1
  pub changed_31425 : entries_changed 5 (3 ∷ 1 ∷ 4 ∷ 2 ∷ 5 ∷ []) (3 ∷ 5 ∷ 1 ∷ 2 ∷ 4 ∷ []) ≡ 3
  -- the same permutation changes none, and nothing has none
  pub changed_same : entries_changed 3 (3 ∷ 1 ∷ 2 ∷ []) (3 ∷ 1 ∷ 2 ∷ []) ≡ 0
  pub changed_nothing : entries_changed 0 [] [] ≡ 0

pub changes : Changes
unfolding distance tally range exchange position array_of
changes =
    record {
      positions_23415 = refl;
      changed_23415 = refl;
      changed_31425 = refl;
      changed_same = refl;
      changed_nothing = refl;
    }
