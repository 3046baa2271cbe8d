-- `rank::write_identity` meets its contract. The loop's invariant: the slice begins with 1 to i, and is as it was after them. Assumes nothing.
use mathlib.Core.Path.{◌≡◌}
use mathlib.Core.List.{◌++◌}
use lib.ListN.{length, drop}
use Rattle.perm.specs.Lists.{positions}
use Rattle.rank.proofs.write_identity.Given as goal

abbrev pub invariant-loop-i : goal.invariant-loop-i
invariant-loop-i l = (length l.out ≡ length l.initial.out) × (l.out ≡ positions l.i ++ drop l.i l.initial.out)
