-- `cursor::replay` meets its contract. The invariant: the rest of the calls ends, from the step reached, as all of them do from the step of the open. Assumes nothing.
use mathlib.Core.Path.{◌≡◌}
use lib.ListN.{drop}
use Rattle.cursor.specs.Walk.{decoded}
use Rattle.cursor.proofs.Endings.{ending}
use Rattle.cursor.proofs.replay.Given as goal

abbrev pub invariant-loop-t : goal.invariant-loop-t
invariant-loop-t l = ending l.step (decoded (drop l.t l.kinds) (drop l.t l.places)) ≡ ending l.initial.step (decoded l.kinds l.places)
