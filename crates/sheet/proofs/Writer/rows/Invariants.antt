-- `sheet::Writer::rows` meets its contract. The loop's invariant: the lines of the rows from `place` on are left to write. Assumes nothing.
use Prim.Native.Nat.{◌+◌, ◌-◌}
use lib.ListN.{take, drop}
use Rattle.gray.specs.Order.{S}
use Rattle.sheet.specs.Sheet.{row_lines}
use Rattle.sheet.proofs.Writing.{Left}
use Rattle.sheet.proofs.Writer.rows.Given as goal

abbrev pub invariant-loop-place : goal.invariant-loop-place
invariant-loop-place l =
    Left l.initial.self (row_lines l.first (take l.m (drop l.first (S l.n l.k)))) l.self (row_lines l.place (take (l.first + l.m - l.place) (drop l.place (S l.n l.k))))
