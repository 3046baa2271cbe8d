-- Examples of document 02, i), by computation. Assumes nothing.
use mathlib.Core.Path.{◌≡◌, refl}
use mathlib.Core.List.{[], ◌∷◌}
use Rattle.stirling.specs.Count.{c}
use Rattle.perm.specs.Lists.{tally, range}
use Rattle.perm.specs.Permutation.{extend, insert}
use Rattle.perm.specs.Cycle.{follow, least, cycles}
use Rattle.gray.specs.Order.{S, odd, reading, rows, joined, rising, falling, letter, relation, relation_a, relation_b, relation_c, relation_d, relation_e}
use Rattle.find.specs.Meeting.{meets, until}
use Rattle.find.specs.Find.{find_of}
use Rattle.find.specs.Counting.{meeting}

pub record Table : Type 0 where
  -- of nothing: the one row meets no wishes
  pub nothing : find_of 0 0 0 [] 0 ≡ record { refusal = 0; place = 0 }
  -- value 3 at position 1 of S(4,2): 3241, 3124 and 3412, at places 5, 6 and 10
  pub three_first : find_of 4 2 0 (3 ∷ 0 ∷ 0 ∷ 0 ∷ []) 4 ≡ record { refusal = 0; place = 5 }
  pub three_there : find_of 4 2 6 (3 ∷ 0 ∷ 0 ∷ 0 ∷ []) 4 ≡ record { refusal = 0; place = 6 }
  pub three_on : find_of 4 2 7 (3 ∷ 0 ∷ 0 ∷ 0 ∷ []) 4 ≡ record { refusal = 0; place = 10 }
  -- value 4 at position 3: the last is at place 4, and after it there is none
  pub four_last : find_of 4 2 4 (0 ∷ 0 ∷ 4 ∷ 0 ∷ []) 4 ≡ record { refusal = 0; place = 4 }
  pub four_past : find_of 4 2 6 (0 ∷ 0 ∷ 4 ∷ 0 ∷ []) 4 ≡ record { refusal = 14; place = 0 }
  -- two wishes: 1423
  pub two_values : find_of 4 2 0 (0 ∷ 4 ∷ 0 ∷ 3 ∷ []) 4 ≡ record { refusal = 0; place = 9 }
  -- all positions wished: the row itself, from any place up to its own
  pub all_given : find_of 4 2 2 (3 ∷ 1 ∷ 2 ∷ 4 ∷ []) 4 ≡ record { refusal = 0; place = 6 }
  pub all_before : find_of 4 2 7 (3 ∷ 1 ∷ 2 ∷ 4 ∷ []) 4 ≡ record { refusal = 14; place = 0 }
  -- a value wished at two positions is never met
  pub twice : find_of 4 2 0 (2 ∷ 0 ∷ 2 ∷ 0 ∷ []) 4 ≡ record { refusal = 14; place = 0 }
  -- no wishes: the place itself
  pub free : find_of 4 2 8 (0 ∷ 0 ∷ 0 ∷ 0 ∷ []) 4 ≡ record { refusal = 0; place = 8 }
  -- the order of the refusals: 3, 5 for the wishes and for the slice, 6
  pub above : find_of 4 2 0 (5 ∷ 0 ∷ 2 ∷ 0 ∷ []) 4 ≡ record { refusal = 6; place = 0 }
  pub pattern_short : find_of 4 2 0 (5 ∷ 0 ∷ 2 ∷ []) 4 ≡ record { refusal = 5; place = 0 }
  pub slice_long : find_of 4 2 0 (5 ∷ 0 ∷ 2 ∷ 0 ∷ []) 5 ≡ record { refusal = 5; place = 0 }
  pub past_the_end : find_of 4 2 11 (5 ∷ 0 ∷ 2 ∷ []) 5 ≡ record { refusal = 3; place = 0 }
  -- how many rows of S(4,2) meet wishes: value 4 at position 3, value 2 at its own position, and 4 and 1 at positions 1 and 4
  pub count_four : meeting 2 (0 ∷ 0 ∷ 4 ∷ 0 ∷ []) ≡ 3
  pub count_fixed : meeting 2 (0 ∷ 2 ∷ 0 ∷ 0 ∷ []) ≡ 2
  pub count_pair : meeting 2 (4 ∷ 0 ∷ 0 ∷ 1 ∷ []) ≡ 1

pub table : Table
unfolding c tally range extend insert follow least cycles S odd reading rows joined rising falling letter relation relation_a relation_b relation_c relation_d relation_e meets until
table =
    record {
      nothing = refl;
      three_first = refl;
      three_there = refl;
      three_on = refl;
      four_last = refl;
      four_past = refl;
      two_values = refl;
      all_given = refl;
      all_before = refl;
      twice = refl;
      free = refl;
      above = refl;
      pattern_short = refl;
      slice_long = refl;
      past_the_end = refl;
      count_four = refl;
      count_fixed = refl;
      count_pair = refl;
    }
