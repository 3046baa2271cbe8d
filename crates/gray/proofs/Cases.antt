-- The cases of document 01 and those of the empty list, as facts about the definitions, by computation. Assumes nothing.
use mathlib.Core.Path.{◌≡◌, refl}
use Prim.Native.Nat.{ℕ}
use mathlib.Core.List.{List, [], ◌∷◌}
use lib.ListN.{length}
use Rattle.stirling.specs.Count.{c, check_size, check_cycles, check_place}
use Rattle.perm.specs.Lists.{tally, range}
use Rattle.perm.specs.Permutation.{extend, insert, exchange, rotate, distance}
use Rattle.perm.specs.Array.{IsArrayOf, partial, product, position, array_of, entries_changed}
use Rattle.perm.specs.Checks.{check_entries}
use Rattle.gray.specs.Order.{S, relation, relation_a, relation_b, relation_c, relation_d, relation_e, letter, joined, rows, reading, odd, rising, falling}
use Rattle.gray.specs.Listing.{row_at}
use Rattle.gray.specs.Threes.{pairs, threes, t}
use Rattle.perm.proofs.Checked.{checked_array}

-- document 01's table "What is proved of the cases", line by line, with n = 0 as document 02, a), has it: a fact's name has n, k and the place
pub record Table : Type 0 where
  -- 0,0: count 1, and place 0 is the permutation of nothing, with the array of no entry
  pub count_0_0 : c 0 0 ≡ 1
  pub row_0_0_0 : row_at (S 0 0) 0 ≡ []
  pub array_0_0_0 : IsArrayOf (row_at (S 0 0) 0) []
  -- 1,1: place 0 is 1
  pub row_1_1_0 : row_at (S 1 1) 0 ≡ 1 ∷ []
  -- 4,2: count 11
  pub count_4_2 : c 4 2 ≡ 11
  -- 4,2: place 0: 4213, array 1211
  pub row_4_2_0 : row_at (S 4 2) 0 ≡ 4 ∷ 2 ∷ 1 ∷ 3 ∷ []
  pub array_4_2_0 : IsArrayOf (row_at (S 4 2) 0) (1 ∷ 2 ∷ 1 ∷ 1 ∷ [])
  -- 4,2: 0 to 1: 4321, roads 2,4,3
  pub row_4_2_1 : row_at (S 4 2) 1 ≡ 4 ∷ 3 ∷ 2 ∷ 1 ∷ []
  pub step_4_2_1 : row_at (S 4 2) 1 ≡ rotate (row_at (S 4 2) 0) 2 4 3
  -- 4,2: place 10: 3412, array 1212
  pub row_4_2_10 : row_at (S 4 2) 10 ≡ 3 ∷ 4 ∷ 1 ∷ 2 ∷ []
  pub array_4_2_10 : IsArrayOf (row_at (S 4 2) 10) (1 ∷ 2 ∷ 1 ∷ 2 ∷ [])
  -- 4,1: places 2, 3, 4: 2413, 3421, 2341
  pub row_4_1_2 : row_at (S 4 1) 2 ≡ 2 ∷ 4 ∷ 1 ∷ 3 ∷ []
  pub row_4_1_3 : row_at (S 4 1) 3 ≡ 3 ∷ 4 ∷ 2 ∷ 1 ∷ []
  pub row_4_1_4 : row_at (S 4 1) 4 ≡ 2 ∷ 3 ∷ 4 ∷ 1 ∷ []
  -- 5,2: count 50
  pub count_5_2 : c 5 2 ≡ 50
  -- 5,2: place 0: 52134; place 49: 45132
  pub row_5_2_0 : row_at (S 5 2) 0 ≡ 5 ∷ 2 ∷ 1 ∷ 3 ∷ 4 ∷ []
  pub row_5_2_49 : row_at (S 5 2) 49 ≡ 4 ∷ 5 ∷ 1 ∷ 3 ∷ 2 ∷ []
  -- 5,2: 38: 31425, array 11135
  pub row_5_2_38 : row_at (S 5 2) 38 ≡ 3 ∷ 1 ∷ 4 ∷ 2 ∷ 5 ∷ []
  pub array_5_2_38 : IsArrayOf (row_at (S 5 2) 38) (1 ∷ 1 ∷ 1 ∷ 3 ∷ 5 ∷ [])
  -- 5,2: 39: 35124, array 12122, roads 2,5,3
  pub row_5_2_39 : row_at (S 5 2) 39 ≡ 3 ∷ 5 ∷ 1 ∷ 2 ∷ 4 ∷ []
  pub array_5_2_39 : IsArrayOf (row_at (S 5 2) 39) (1 ∷ 2 ∷ 1 ∷ 2 ∷ 2 ∷ [])
  pub step_5_2_39 : row_at (S 5 2) 39 ≡ rotate (row_at (S 5 2) 38) 2 5 3
  -- edges: n = 0 serves, with k = 0 alone; with n = 1, k = 0 is refused 2
  pub cycles_0_0 : check_cycles 0 0 ≡ 0
  pub cycles_0_1 : check_cycles 0 1 ≡ 2
  pub cycles_1_0 : check_cycles 1 0 ≡ 2
  -- n = 20 serves, 21 is refused 1
  pub size_20 : check_size 20 ≡ 0
  pub size_21 : check_size 21 ≡ 1
  -- place 0 of 0,0 serves, 1 is refused 3
  pub place_0_0_0 : check_place 0 0 0 ≡ 0
  pub place_0_0_1 : check_place 0 0 1 ≡ 3
  -- place 49 of 5,2 serves, 50 is refused 3
  pub place_5_2_49 : check_place 5 2 49 ≡ 0
  pub place_5_2_50 : check_place 5 2 50 ≡ 3

-- document 02, n)'s case, 6 for n = 6 and k = 2, and its edges; t is 0 up to n = 4 and for k = 0, and 1 more for k = 2. At 5,2 the one step that changes three
-- entries is that from 38 to 39, between the arrays 11135 and 12122
pub record Threes : Type 0 where
  pub t_6_2 : t 6 2 ≡ 6
  pub t_4_2 : t 4 2 ≡ 0
  pub t_5_0 : t 5 0 ≡ 0
  pub t_5_1 : t 5 1 ≡ 0
  pub t_5_2 : t 5 2 ≡ 1
  pub t_6_3 : t 6 3 ≡ 1
  pub t_7_3 : t 7 3 ≡ 12
  pub counted_4_2 : threes 4 (S 4 2) ≡ 0
  pub counted_5_2 : threes 5 (S 5 2) ≡ 1
  pub counted_6_2 : threes 6 (S 6 2) ≡ 6
  pub changed_5_2_37 : entries_changed 5 (row_at (S 5 2) 37) (row_at (S 5 2) 38) ≡ 1
  pub changed_5_2_38 : entries_changed 5 (row_at (S 5 2) 38) (row_at (S 5 2) 39) ≡ 3
  pub changed_5_2_ring : entries_changed 5 (row_at (S 5 2) 49) (row_at (S 5 2) 0) ≡ 1

-- p is the array of s: its entries pass check 6, and its product is s
array_of_lem : (s p : List ℕ) → length p ≡ length s → check_entries p ≡ 0 → product p ≡ s → IsArrayOf s p
array_of_lem s p l e q = record { array = rw (← l) (checked_array p e); equal = q }

pub table : Table
unfolding S relation relation_a relation_b relation_c relation_d relation_e letter joined rows reading odd rising falling range tally insert extend exchange rotate partial product c
table =
    record {
      count_0_0 = refl;
      row_0_0_0 = refl;
      array_0_0_0 = array_of_lem _ _ refl refl refl;
      row_1_1_0 = refl;
      count_4_2 = refl;
      row_4_2_0 = refl;
      array_4_2_0 = array_of_lem _ _ refl refl refl;
      row_4_2_1 = refl;
      step_4_2_1 = refl;
      row_4_2_10 = refl;
      array_4_2_10 = array_of_lem _ _ refl refl refl;
      row_4_1_2 = refl;
      row_4_1_3 = refl;
      row_4_1_4 = refl;
      count_5_2 = refl;
      row_5_2_0 = refl;
      row_5_2_49 = refl;
      row_5_2_38 = refl;
      array_5_2_38 = array_of_lem _ _ refl refl refl;
      row_5_2_39 = refl;
      array_5_2_39 = array_of_lem _ _ refl refl refl;
      step_5_2_39 = refl;
      cycles_0_0 = refl;
      cycles_0_1 = refl;
      cycles_1_0 = refl;
      size_20 = refl;
      size_21 = refl;
      place_0_0_0 = refl;
      place_0_0_1 = refl;
      place_5_2_49 = refl;
      place_5_2_50 = refl;
    }

pub threes_table : Threes
unfolding S relation relation_a relation_b relation_c relation_d relation_e letter joined rows reading odd rising falling range tally insert extend exchange position array_of distance pairs threes t
threes_table =
    record {
      t_6_2 = refl;
      t_4_2 = refl;
      t_5_0 = refl;
      t_5_1 = refl;
      t_5_2 = refl;
      t_6_3 = refl;
      t_7_3 = refl;
      counted_4_2 = refl;
      counted_5_2 = refl;
      counted_6_2 = refl;
      changed_5_2_37 = refl;
      changed_5_2_38 = refl;
      changed_5_2_ring = refl;
    }
