-- `sheet::value_of` meets its contract. The loop's invariant: the digits so far and those that are left write the number of all, and the number of those so far has no more
-- digits, so that no product or sum wraps. Assumes nothing.
use Prim.Native.Nat.{◌^◌, ◌<◌}
use mathlib.Core.Path.{◌≡◌}
use lib.ListN.{drop}
use Rattle.sheet.specs.Text.{value_from}
use Rattle.sheet.proofs.value_of.Given as goal

abbrev pub invariant-loop-digit : goal.invariant-loop-digit
invariant-loop-digit l = (l.value < 10 ^ l.digit-index) × (value_from l.value (drop l.digit-index l.digits) ≡ value_from 0 l.digits)
