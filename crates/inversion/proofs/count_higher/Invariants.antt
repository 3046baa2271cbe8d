-- `inversion::count_higher` meets its contract. The loop's invariant: so many of the elements passed are higher. Assumes nothing.
use mathlib.Core.Path.{◌≡◌}
use lib.Dec.{ltb}
use Rattle.std.specs.Prelude.{take}
use Rattle.std.specs.List.{count_by}
use Rattle.inversion.proofs.count_higher.Given as goal

abbrev pub invariant-loop-x : goal.invariant-loop-x
invariant-loop-x l = l.count ≡ count_by (ltb l.element) (take l.x-index l.elements)
