-- `sheet::Writer::names` meets its contract. The loop's invariant: the names of the positions from i on are left to write. Assumes nothing.
use Prim.Native.Nat.{◌+◌, ◌-◌}
use Rattle.perm.specs.Lists.{range, positions}
use Rattle.sheet.specs.Sheet.{names}
use Rattle.sheet.proofs.Writing.{Left}
use Rattle.sheet.proofs.Writer.names.Given as goal

abbrev pub invariant-loop-i : goal.invariant-loop-i
invariant-loop-i l = Left l.initial.self (names (positions l.n)) l.self (names (range l.i (l.n + 1 - l.i)))
