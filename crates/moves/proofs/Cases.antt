-- Examples of document 02, l), by computation: the moves to some permutations, and what the check says of some lists. Assumes nothing.
use mathlib.Core.Path.{◌≡◌, refl}
use mathlib.Core.List.{[], ◌∷◌}
use Rattle.perm.specs.Lists.{tally, range, same}
use Rattle.perm.specs.Cycle.{follow, least}
use Rattle.perm.specs.Pairs.{bytes_of, pairs_in}
use Rattle.moves.specs.State.{all_possible, after}
use Rattle.moves.specs.Written.{filling, moves_to, moves_of, away, long_cycles}
use Rattle.moves.specs.Calls.{list_of, written_by, verdict_of}

pub record Table : Type 0 where
  -- no values, and each at its own position: no moves
  pub nothing : moves_of [] ≡ []
  pub identity : moves_of (1 ∷ 2 ∷ 3 ∷ []) ≡ []
  -- the document's example, 21: 1 0, 2 1, 0 2
  pub two : moves_of (2 ∷ 1 ∷ []) ≡ (1, 0) ∷ (2, 1) ∷ (0, 2) ∷ []
  -- one cycle either way round
  pub three : moves_of (2 ∷ 3 ∷ 1 ∷ []) ≡ (1, 0) ∷ (2, 1) ∷ (3, 2) ∷ (0, 3) ∷ []
  pub back : moves_of (3 ∷ 1 ∷ 2 ∷ []) ≡ (1, 0) ∷ (3, 1) ∷ (2, 3) ∷ (0, 2) ∷ []
  -- two cycles, by their least positions: 1 and 3, then 2 and 4; and a cycle that does not begin at 1
  pub pairs : moves_of (3 ∷ 4 ∷ 1 ∷ 2 ∷ []) ≡ (1, 0) ∷ (3, 1) ∷ (0, 3) ∷ (2, 0) ∷ (4, 2) ∷ (0, 4) ∷ []
  pub later : moves_of (1 ∷ 4 ∷ 2 ∷ 5 ∷ 3 ∷ []) ≡ (2, 0) ∷ (4, 2) ∷ (5, 4) ∷ (3, 5) ∷ (0, 3) ∷ []
  -- the total: three values away and one cycle; four and two
  pub total_three : (away (2 ∷ 3 ∷ 1 ∷ []) ≡ 3) × (long_cycles (2 ∷ 3 ∷ 1 ∷ []) ≡ 1)
  pub total_pairs : (away (3 ∷ 4 ∷ 1 ∷ 2 ∷ []) ≡ 4) × (long_cycles (3 ∷ 4 ∷ 1 ∷ 2 ∷ []) ≡ 2)
  -- what the call answers and writes for 21: a buffer of seven bytes keeps its last, one of five is refused 5; a value twice is refused 7 whatever buffer is lent
  pub seven : list_of (2 ∷ 1 ∷ []) 7 ≡ record { refusal = 0; count = 3 }
  pub last_kept : written_by (2 ∷ 1 ∷ []) 0 (9 ∷ 9 ∷ 9 ∷ 9 ∷ 9 ∷ 9 ∷ 9 ∷ []) ≡ 1 ∷ 0 ∷ 2 ∷ 1 ∷ 0 ∷ 2 ∷ 9 ∷ []
  pub five : list_of (2 ∷ 1 ∷ []) 5 ≡ record { refusal = 5; count = 0 }
  pub twice : list_of (1 ∷ 1 ∷ []) 0 ≡ record { refusal = 7; count = 0 }
  -- the check: yes to another way from the identity to 21, and to nothing at all for 12
  pub other_way : verdict_of (2 ∷ 1 ∷ []) (2 ∷ 0 ∷ 1 ∷ 2 ∷ 0 ∷ 1 ∷ []) ≡ record { refusal = 0; valid = 1 }
  pub no_moves : verdict_of (1 ∷ 2 ∷ []) [] ≡ record { refusal = 0; valid = 1 }
  -- no: onto an occupied position, from an empty one, from a position to itself, a value left on 0, an end that is not s
  pub occupied : verdict_of (2 ∷ 1 ∷ []) (1 ∷ 2 ∷ []) ≡ record { refusal = 0; valid = 0 }
  pub empty : verdict_of (2 ∷ 1 ∷ []) (0 ∷ 1 ∷ []) ≡ record { refusal = 0; valid = 0 }
  pub itself : verdict_of (1 ∷ 2 ∷ []) (1 ∷ 1 ∷ []) ≡ record { refusal = 0; valid = 0 }
  pub left : verdict_of (1 ∷ []) (1 ∷ 0 ∷ []) ≡ record { refusal = 0; valid = 0 }
  pub not_s : verdict_of (1 ∷ 2 ∷ []) (1 ∷ 0 ∷ 2 ∷ 1 ∷ 0 ∷ 2 ∷ []) ≡ record { refusal = 0; valid = 0 }
  -- the order of the refusals: 5 for an odd list before 6, 6 for a position of the list before 7
  pub odd : verdict_of (3 ∷ 1 ∷ []) (9 ∷ []) ≡ record { refusal = 5; valid = 0 }
  pub position : verdict_of (1 ∷ 1 ∷ []) (3 ∷ 0 ∷ []) ≡ record { refusal = 6; valid = 0 }
  pub value-twice : verdict_of (1 ∷ 1 ∷ []) (2 ∷ 0 ∷ []) ≡ record { refusal = 7; valid = 0 }

pub table : Table
unfolding filling moves_to away long_cycles least follow tally range same bytes_of pairs_in all_possible after
table = record {
  nothing = refl;
  identity = refl;
  two = refl;
  three = refl;
  back = refl;
  pairs = refl;
  later = refl;
  total_three = (refl, refl);
  total_pairs = (refl, refl);
  seven = refl;
  last_kept = refl;
  five = refl;
  twice = refl;
  other_way = refl;
  no_moves = refl;
  occupied = refl;
  empty = refl;
  itself = refl;
  left = refl;
  not_s = refl;
  odd = refl;
  position = refl;
  value-twice = refl;
}
