-- The cases of document 01 that are steps: the three positions that the plain machine answers; shows; the ends of a list; and the walk of the empty list. By computation. Assumes nothing.
use mathlib.Core.Path.{◌≡◌, refl}
use Prim.Native.Nat.{ℕ}
use lib.ListN.{replicate}
use Rattle.stirling.specs.Count.{c}
use Rattle.perm.specs.Lists.{tally, range, same}
use Rattle.perm.specs.Permutation.{exchange, fixed, distance, extend, insert}
use Rattle.perm.specs.Array.{position, array_of}
use Rattle.gray.specs.Order.{S, relation, relation_a, relation_b, relation_c, relation_d, relation_e, letter, joined, rows, reading, odd, rising, falling}
use Rattle.cursor.specs.Machine.{Machine, Call, forward, back, jump, show, observe, first_from, moved, turn, bare, answered}
use Rattle.cursor.specs.Walk.{sound, called, section, start, zeros, opened}
use Rattle.cursor.specs.declared.Answer.{Answer}
use Rattle.cursor.specs.declared.Opening.TheVariants.{Whole, Section}

-- the three positions of an answer
abbrev Names : Answer → ℕ → ℕ → ℕ → Type 0
Names answer i j l = (answer.i ≡ i) × (answer.j ≡ j) × (answer.l ≡ l)

-- the answer that reports three positions and a number of entries changed
abbrev three : ℕ → ℕ → ℕ → ℕ → Answer
three i j l changed = record {
  refusal = 0;
  i = i;
  j = j;
  l = l;
  changed = changed;
  place = 0;
  perm = replicate 20 0;
  array = replicate 20 0;
  fixed = 0;
}

-- a call on the record of one place gives the record of another, and an answer
abbrev Goes : Machine → Call → ℕ → Answer → Type 0
Goes m call place answer = called (observe m) call ≡ record { cursor = observe (moved m place); answer = answer }

pub record Table : Type 0 where
  -- 4,2: 0 to 1: roads 2,4,3
  pub step_4_2_1 : Names (answered (start 4 2) forward) 2 4 3
  -- 5,2: 38 to 39: roads 2,5,3
  pub step_5_2_39 : Names (answered (moved (start 5 2) 38) forward) 2 5 3
  -- document 02, n): these two steps change one entry and three; 4,2: 1 to 2 changes two
  pub changed_4_2_1 : (answered (start 4 2) forward).changed ≡ 1
  pub changed_4_2_2 : (answered (moved (start 4 2) 1) forward).changed ≡ 2
  pub changed_5_2_39 : (answered (moved (start 5 2) 38) forward).changed ≡ 3
  -- 5,2: show at 38 reports one fixed point, and at 39 none
  pub show_5_2_38 : (called (observe (moved (start 5 2) 38)) show).answer.fixed ≡ 1
  pub show_5_2_39 : (called (observe (moved (start 5 2) 39)) show).answer.fixed ≡ 0
  -- 0,0: open serves and hands back a walk of zeros; a refused open hands back the same, with its refusal
  pub open_0_0 : opened (Whole 0 0) ≡ record { cursor = zeros; answer = bare 0 }
  pub open_0_1 : opened (Whole 0 1) ≡ record { cursor = zeros; answer = bare 2 }
  -- on a walk of zeros forward is refused 9 and back 10; jump 0 serves, jump 1 is refused 3; show hands out place 0 and zeros
  pub forward_0_0 : called zeros forward ≡ record { cursor = zeros; answer = bare 9 }
  pub back_0_0 : called zeros back ≡ record { cursor = zeros; answer = bare 10 }
  pub jump_0_0_0 : called zeros (jump 0) ≡ record { cursor = zeros; answer = bare 0 }
  pub jump_0_0_1 : called zeros (jump 1) ≡ record { cursor = zeros; answer = bare 3 }
  pub show_0_0 : called zeros show ≡ record { cursor = zeros; answer = bare 0 }
  -- document 02, g), 4,2 and 5,2: forward from the last place to 0, and back from 0 to the last
  pub round_4_2 : Goes (moved (start 4 2) 10) forward 0 (three 1 2 4 1)
  pub around_4_2 : Goes (start 4 2) back 10 (three 1 4 2 1)
  pub round_5_2 : Goes (moved (start 5 2) 49) forward 0 (three 1 2 5 1)
  pub around_5_2 : Goes (start 5 2) back 49 (three 1 5 2 1)
  -- 3,1, a list of two: both ends lie either way
  pub round_3_1 : Goes (moved (start 3 1) 1) forward 0 (three 1 2 3 1)
  pub around_3_1 : Goes (start 3 1) back 1 (three 1 3 2 1)
  -- 2,1, a list of one: forward is refused 9 and back 10
  pub forward_2_1 : Goes (start 2 1) forward 0 (bare 9)
  pub back_2_1 : Goes (start 2 1) back 0 (bare 10)
  -- document 02, h), 5,3, the section from 13 to 15: its open; within it, its steps; at its ends 9 and 10; a jump past the list is refused 3, and out of the section 13
  pub open_5_3 : opened (Section 5 3 13 15) ≡ record { cursor = observe (section 5 3 13 15); answer = bare 0 }
  pub next_5_3 : Goes (section 5 3 13 15) forward 14 (three 2 3 5 1)
  pub first_5_3 : Goes (section 5 3 13 15) back 13 (bare 10)
  pub last_5_3 : Goes (moved (section 5 3 13 15) 15) forward 15 (bare 9)
  pub jump_5_3_15 : Goes (section 5 3 13 15) (jump 15) 15 (bare 0)
  pub jump_5_3_12 : Goes (section 5 3 13 15) (jump 12) 13 (bare 13)
  pub jump_5_3_16 : Goes (section 5 3 13 15) (jump 16) 13 (bare 13)
  pub jump_5_3_35 : Goes (section 5 3 13 15) (jump 35) 13 (bare 3)
  -- a section of one place in a list of two stops both ways
  pub forward_3_1_1 : Goes (section 3 1 1 1) forward 1 (bare 9)
  pub back_3_1_1 : Goes (section 3 1 1 1) back 1 (bare 10)
  -- the whole of that list, opened as a section, turns round
  pub open_3_1 : opened (Section 3 1 0 1) ≡ opened (Whole 3 1)
  -- an end past the list is refused 3, whichever it is and whatever the order; then the order 13; a refused open hands back a walk of zeros
  pub open_3_1_lowest : opened (Section 3 1 2 0) ≡ record { cursor = zeros; answer = bare 3 }
  pub open_3_1_highest : opened (Section 3 1 1 2) ≡ record { cursor = zeros; answer = bare 3 }
  pub open_3_1_order : opened (Section 3 1 1 0) ≡ record { cursor = zeros; answer = bare 13 }

pub table : Table
unfolding S relation relation_a relation_b relation_c relation_d relation_e letter joined rows reading odd rising falling range insert extend c position first_from answered opened called sound observe turn same array_of exchange fixed distance tally
table =
    record {
      step_4_2_1 = (refl, refl, refl);
      step_5_2_39 = (refl, refl, refl);
      changed_4_2_1 = refl;
      changed_4_2_2 = refl;
      changed_5_2_39 = refl;
      show_5_2_38 = refl;
      show_5_2_39 = refl;
      open_0_0 = refl;
      open_0_1 = refl;
      forward_0_0 = refl;
      back_0_0 = refl;
      jump_0_0_0 = refl;
      jump_0_0_1 = refl;
      show_0_0 = refl;
      round_4_2 = refl;
      around_4_2 = refl;
      round_5_2 = refl;
      around_5_2 = refl;
      round_3_1 = refl;
      around_3_1 = refl;
      forward_2_1 = refl;
      back_2_1 = refl;
      open_5_3 = refl;
      next_5_3 = refl;
      first_5_3 = refl;
      last_5_3 = refl;
      jump_5_3_15 = refl;
      jump_5_3_12 = refl;
      jump_5_3_16 = refl;
      jump_5_3_35 = refl;
      forward_3_1_1 = refl;
      back_3_1_1 = refl;
      open_3_1 = refl;
      open_3_1_lowest = refl;
      open_3_1_highest = refl;
      open_3_1_order = refl;
    }
