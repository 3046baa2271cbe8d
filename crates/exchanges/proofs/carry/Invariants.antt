-- `exchanges::carry` meets its contract. The loop's invariant: the first i values are those of the permutation that carries one to the other. Assumes nothing.
use mathlib.Core.Path.{◌≡◌}
use lib.ListN.{take}
use Rattle.exchanges.specs.Carrying.{carrying}
use Rattle.exchanges.proofs.carry.Given as goal

abbrev pub invariant-loop-i : goal.invariant-loop-i
invariant-loop-i l = take l.i l.carrier ≡ take l.i (carrying l.from l.to)
