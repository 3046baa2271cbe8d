-- The list that document 02, j), writes out, those of k) and of every l < j for few values, and edges of the calls, as facts about the definitions. Assumes nothing.
use mathlib.Core.Path.{◌≡◌, refl}
use mathlib.Core.List.{[], ◌∷◌}
use Rattle.perm.specs.Lists.{tally, range, same}
use Rattle.perm.specs.Permutation.{exchange}
use Rattle.perm.specs.Cycle.{follow, least}
use Rattle.perm.specs.Array.{position}
use Rattle.tree.specs.Tree.{highest_to, highest, each, subtree, parent, permutations}
use Rattle.tree.specs.Kind.{involutions, bells}
use Rattle.tree.specs.Listing.{place_in}
use Rattle.tree.specs.Calls.{check_unrank, check_rank, count_of, rank_of}
use Rattle.tree.specs.Sizes.{size}
use Rattle.tree.specs.declared.Kind.TheVariants.{Involution, Bell}

-- the cases, each a fact by computation
pub record Table : Type 0 where
  -- for four values
  pub list_4 : involutions 4
      ≡ (1 ∷ 2 ∷ 3 ∷ 4 ∷ [])
      ∷ (2 ∷ 1 ∷ 3 ∷ 4 ∷ [])
      ∷ (2 ∷ 1 ∷ 4 ∷ 3 ∷ [])
      ∷ (3 ∷ 2 ∷ 1 ∷ 4 ∷ [])
      ∷ (3 ∷ 4 ∷ 1 ∷ 2 ∷ [])
      ∷ (1 ∷ 3 ∷ 2 ∷ 4 ∷ [])
      ∷ (4 ∷ 3 ∷ 2 ∷ 1 ∷ [])
      ∷ (4 ∷ 2 ∷ 3 ∷ 1 ∷ [])
      ∷ (1 ∷ 4 ∷ 3 ∷ 2 ∷ [])
      ∷ (1 ∷ 2 ∷ 4 ∷ 3 ∷ [])
      ∷ []
  -- Bell permutations of four values
  pub bells_4 : bells 4
      ≡ (1 ∷ 2 ∷ 3 ∷ 4 ∷ [])
      ∷ (2 ∷ 1 ∷ 3 ∷ 4 ∷ [])
      ∷ (3 ∷ 1 ∷ 2 ∷ 4 ∷ [])
      ∷ (4 ∷ 1 ∷ 2 ∷ 3 ∷ [])
      ∷ (4 ∷ 1 ∷ 3 ∷ 2 ∷ [])
      ∷ (2 ∷ 1 ∷ 4 ∷ 3 ∷ [])
      ∷ (3 ∷ 2 ∷ 1 ∷ 4 ∷ [])
      ∷ (4 ∷ 2 ∷ 1 ∷ 3 ∷ [])
      ∷ (3 ∷ 4 ∷ 1 ∷ 2 ∷ [])
      ∷ (1 ∷ 3 ∷ 2 ∷ 4 ∷ [])
      ∷ (4 ∷ 3 ∷ 2 ∷ 1 ∷ [])
      ∷ (1 ∷ 4 ∷ 2 ∷ 3 ∷ [])
      ∷ (4 ∷ 2 ∷ 3 ∷ 1 ∷ [])
      ∷ (1 ∷ 4 ∷ 3 ∷ 2 ∷ [])
      ∷ (1 ∷ 2 ∷ 4 ∷ 3 ∷ [])
      ∷ []
  -- and with every l < j, of three
  pub permutations_3 : permutations 3
      ≡ (1 ∷ 2 ∷ 3 ∷ [])
      ∷ (2 ∷ 1 ∷ 3 ∷ [])
      ∷ (3 ∷ 1 ∷ 2 ∷ [])
      ∷ (2 ∷ 3 ∷ 1 ∷ [])
      ∷ (3 ∷ 2 ∷ 1 ∷ [])
      ∷ (1 ∷ 3 ∷ 2 ∷ [])
      ∷ []
  -- one permutation of nothing
  pub list_0 : involutions 0 ≡ [] ∷ []
  pub list_1 : involutions 1 ≡ (1 ∷ []) ∷ []
  pub bells_0 : bells 0 ≡ [] ∷ []
  -- the highest position away, 1 if none
  pub highest_1234 : highest (1 ∷ 2 ∷ 3 ∷ 4 ∷ []) ≡ 1
  pub highest_2134 : highest (2 ∷ 1 ∷ 3 ∷ 4 ∷ []) ≡ 2
  pub highest_1432 : highest (1 ∷ 4 ∷ 3 ∷ 2 ∷ []) ≡ 4
  -- the parent by it: 4 stands at position 1, and then 3 does
  pub parent_4123 : parent (4 ∷ 1 ∷ 2 ∷ 3 ∷ []) ≡ 3 ∷ 1 ∷ 2 ∷ 4 ∷ []
  pub parent_3124 : parent (3 ∷ 1 ∷ 2 ∷ 4 ∷ []) ≡ 2 ∷ 1 ∷ 3 ∷ 4 ∷ []
  -- counts: 10 and 15 for four
  pub count_4 : count_of Involution 4 ≡ record { refusal = 0; count = 10 }
  pub bell_count_4 : count_of Bell 4 ≡ record { refusal = 0; count = 15 }
  -- and what they are for twenty
  pub size_20 : size Involution 0 20 ≡ 23758664096
  pub bell_size_20 : size Bell 0 20 ≡ 51724158235372
  pub count_21 : count_of Involution 21 ≡ record { refusal = 1; count = 0 }
  -- place 9 of four serves, 10 is refused 3, also where the slice is too short
  pub place_9 : check_unrank Involution 4 9 4 ≡ 0
  pub place_10 : check_unrank Involution 4 10 3 ≡ 3
  pub bell_place_14 : check_unrank Bell 4 14 4 ≡ 0
  pub bell_place_15 : check_unrank Bell 4 15 3 ≡ 3
  pub lent_3 : check_unrank Involution 4 9 3 ≡ 5
  pub size_21 : check_unrank Involution 21 0 21 ≡ 1
  -- the place of a permutation, and what is refused
  pub rank_4321 : rank_of Involution (4 ∷ 3 ∷ 2 ∷ 1 ∷ []) ≡ record { refusal = 0; place = 6 }
  pub pair : check_rank Involution (2 ∷ 1 ∷ []) ≡ 0
  pub three : check_rank Involution (2 ∷ 3 ∷ 1 ∷ []) ≡ 15
  pub twice : check_rank Involution (2 ∷ 3 ∷ 3 ∷ []) ≡ 7
  pub four : check_rank Involution (2 ∷ 3 ∷ 4 ∷ []) ≡ 6
  -- a cycle of three that falls, 3 to 2 to 1, and one that rises at its end, 3 to 1 to 2
  pub bell_rank_4123 : rank_of Bell (4 ∷ 1 ∷ 2 ∷ 3 ∷ []) ≡ record { refusal = 0; place = 3 }
  pub falling : check_rank Bell (3 ∷ 1 ∷ 2 ∷ []) ≡ 0
  pub rising : check_rank Bell (2 ∷ 3 ∷ 1 ∷ []) ≡ 16
  pub bell_twice : check_rank Bell (2 ∷ 3 ∷ 3 ∷ []) ≡ 7
  pub bell_four : check_rank Bell (2 ∷ 3 ∷ 4 ∷ []) ≡ 6

pub table : Table
unfolding tally range same exchange follow least position highest_to each subtree place_in size
table = record {
  list_4 = refl;
  bells_4 = refl;
  permutations_3 = refl;
  list_0 = refl;
  list_1 = refl;
  bells_0 = refl;
  highest_1234 = refl;
  highest_2134 = refl;
  highest_1432 = refl;
  parent_4123 = refl;
  parent_3124 = refl;
  count_4 = refl;
  bell_count_4 = refl;
  size_20 = refl;
  bell_size_20 = refl;
  count_21 = refl;
  place_9 = refl;
  place_10 = refl;
  bell_place_14 = refl;
  bell_place_15 = refl;
  lent_3 = refl;
  size_21 = refl;
  rank_4321 = refl;
  pair = refl;
  three = refl;
  twice = refl;
  four = refl;
  bell_rank_4123 = refl;
  falling = refl;
  rising = refl;
  bell_twice = refl;
  bell_four = refl;
}
