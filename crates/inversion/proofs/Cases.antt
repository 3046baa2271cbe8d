-- Examples of document 02, f), by computation: the tables of some sequences, and their record lows. Assumes nothing.
use mathlib.Core.Path.{◌≡◌, refl}
use Prim.Native.Nat.{ℕ, ◌+◌}
use mathlib.Core.List.{List, [], ◌∷◌, map}
use lib.ListN.{length}
use Rattle.perm.specs.Lists.{tally, range, positions}
use Rattle.perm.specs.Checks.{check_from_array, check_to_array}
use Rattle.inversion.specs.Table.{higher, record_low, record_lows}

-- the entries of the table of a sequence
abbrev pub entries : List ℕ → List ℕ
entries q = map (λ i. 1 + higher q i) (positions (length q))

pub record Table : Type 0 where
  -- 24531 has the table 11135, the array of 31425, place 38 of S(5,2); its record lows are 2 and 1
  pub entries_24531 : entries (2 ∷ 4 ∷ 5 ∷ 3 ∷ 1 ∷ []) ≡ 1 ∷ 1 ∷ 1 ∷ 3 ∷ 5 ∷ []
  pub lows_24531 : record_lows (2 ∷ 4 ∷ 5 ∷ 3 ∷ 1 ∷ []) ≡ 2
  -- 132 has the table 112; its last element is below the one before it and is no record low
  pub entries_132 : entries (1 ∷ 3 ∷ 2 ∷ []) ≡ 1 ∷ 1 ∷ 2 ∷ []
  pub lows_132 : record_lows (1 ∷ 3 ∷ 2 ∷ []) ≡ 1
  -- 231 has the table 113: its last element has two higher before it
  pub entries_231 : entries (2 ∷ 3 ∷ 1 ∷ []) ≡ 1 ∷ 1 ∷ 3 ∷ []
  pub lows_231 : record_lows (2 ∷ 3 ∷ 1 ∷ []) ≡ 2
  -- falling: every element is a record low; rising: the first alone
  pub entries_321 : entries (3 ∷ 2 ∷ 1 ∷ []) ≡ 1 ∷ 2 ∷ 3 ∷ []
  pub lows_321 : record_lows (3 ∷ 2 ∷ 1 ∷ []) ≡ 3
  pub entries_123 : entries (1 ∷ 2 ∷ 3 ∷ []) ≡ 1 ∷ 1 ∷ 1 ∷ []
  pub lows_123 : record_lows (1 ∷ 2 ∷ 3 ∷ []) ≡ 1
  -- the sequence of nothing has the table of nothing, and neither is refused
  pub entries_nothing : entries [] ≡ []
  pub lows_nothing : record_lows [] ≡ 0
  pub table_of_nothing : check_from_array [] 0 ≡ 0
  pub sequence_of_nothing : check_to_array [] 0 ≡ 0

pub table : Table
unfolding tally range higher record_low record_lows
table =
    record {
      entries_24531 = refl;
      lows_24531 = refl;
      entries_132 = refl;
      lows_132 = refl;
      entries_231 = refl;
      lows_231 = refl;
      entries_321 = refl;
      lows_321 = refl;
      entries_123 = refl;
      lows_123 = refl;
      entries_nothing = refl;
      lows_nothing = refl;
      table_of_nothing = refl;
      sequence_of_nothing = refl;
    }
