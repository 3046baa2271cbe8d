-- `moves::go_home` meets its contract. The loop's invariant: the first i positions have their own values. Assumes nothing.
use mathlib.Core.Path.{◌≡◌}
use lib.ListN.{take}
use Rattle.perm.specs.Lists.{range}
use Rattle.moves.proofs.go_home.Given as goal

abbrev pub invariant-loop-i : goal.invariant-loop-i
invariant-loop-i l = take l.i l.state ≡ range 0 l.i
