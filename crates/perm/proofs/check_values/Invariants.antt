-- `perm::check_values` meets its contract. The loop's invariant: all that the test of check 6 counts is counted from index i on. Assumes nothing.
use Prim.Native.Nat.{ℕ}
use mathlib.Core.Path.{◌≡◌}
use mathlib.Core.Bool.{Bool, not}
use mathlib.Core.List.{List}
use lib.ListN.{length, drop}
use Rattle.stirling.specs.Refusal.{within}
use Rattle.perm.specs.Lists.{tally}
use Rattle.perm.proofs.check_values.Given as goal

-- the test of check 6
abbrev pub outside : List ℕ → ℕ → Bool
outside s v = not (within 1 (length s) v)

abbrev pub invariant-loop-v : goal.invariant-loop-v
invariant-loop-v l = tally (outside l.s) l.s ≡ tally (outside l.s) (drop l.v-index l.s)
