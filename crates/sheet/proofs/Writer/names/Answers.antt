use mathlib.Core.List.{◌∷◌, ◌++◌}
use Prim.Native.Nat.{◌+◌}
use native.Mathlib.Omega.{arith}
use Rattle.sheet.specs.Text.{SPACE, column_name, decimal}
use Rattle.sheet.proofs.Writing.{left_room, left_none}
use Rattle.sheet.proofs.Lines.{names-next, name_left, names_none}
use Rattle.sheet.proofs.Writer.names.Goals as goal

pub name-requires : goal.name-requires
name-requires c =
    left_room (SPACE ∷ (column_name ++ decimal _)) _ (names-next c.loop-i.i (c.args.n + 1) (omega arith)) c.loop-i.invariant

pub returns : goal.returns
returns c = left_none (names_none c.loop-i.i (c.args.n + 1) (omega arith)) c.loop-i.invariant

pub returns-2 : goal.returns-2
returns-2 c =
    left_none (names_none (c.loop-i.i + 1) (c.args.n + 1) (omega arith)) (name_left c.loop-i.i (c.args.n + 1) (omega arith) c.loop-i.invariant c.name.ensures)
