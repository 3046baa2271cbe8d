-- `perm::check_entries` meets its contract. The loop's invariant: all that the test of check 6 counts is counted from position i + 1 on. Assumes nothing.
use Prim.Native.Nat.{ℕ}
use mathlib.Core.Path.{◌≡◌}
use mathlib.Core.Bool.{Bool, not}
use mathlib.Core.List.{List}
use lib.ListN.{length, drop}
use Rattle.stirling.specs.Refusal.{within}
use Rattle.perm.specs.Lists.{tally, positions}
use Rattle.perm.specs.Permutation.{at}
use Rattle.perm.proofs.check_entries.Given as goal

-- the test of check 6
abbrev pub outside : List ℕ → ℕ → Bool
outside a i = not (within 1 i (at a i))

abbrev pub invariant-loop-i : goal.invariant-loop-i
invariant-loop-i l = tally (outside l.a) (positions (length l.a)) ≡ tally (outside l.a) (drop l.i (positions (length l.a)))
