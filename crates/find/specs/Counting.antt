-- How many permutations of n with k cycles meet some wishes, by the positions that are free and the cycles that the wishes close. These are definitions; nothing is
-- assumed.
use Rattle.std.specs.Prelude.{ℕ, ◌-◌, cond, List, eqb, leb}
use Rattle.stirling.specs.Count.{c}
use Rattle.perm.specs.Lists.{tally}
use Rattle.perm.specs.Cycle.{cycles}

-- how many positions are free
abbrev pub free : List ℕ → ℕ
free w = tally (eqb 0) w

-- the number of permutations of as many values as there are wishes, with k cycles, that meet them: those of the free positions with the cycles that are left. `cycles w` counts
-- the cycles that the wishes close, by following them: a free position leads to 0, which is below every position, and so a path that comes to one is not counted
abbrev pub meeting : ℕ → List ℕ → ℕ
meeting k w = cond (leb (cycles w) k) (c (free w) (k - cycles w)) 0
