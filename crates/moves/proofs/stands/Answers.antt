-- `moves::stands` meets its contract: the slices are compared where position 0 is empty. Assumes nothing.
use mathlib.Core.Path.{◌≡◌}
use native.Mathlib.Omega.{arith}
use Prim.Native.Nat.{◌-◌}
use lib.ListN.{length, take, drop, length-drop}
use lib.Seq.{take_all}
use Rattle.moves.proofs.Judged.{standing_there}
use Rattle.moves.proofs.stands.Goals as goal

pub returns-then-state-eq0 : goal.returns-then-state-eq0
returns-then-state-eq0 c =
    let t = c.args.state.now in
    let rest : take (length t - 1) (drop 1 t) ≡ drop 1 t = take_all (length t - 1) (drop 1 t) (omega (arith, length-drop 1 t)) in
    standing_there c.args.state.now c.args.s.now c.eq.result c.requires (omega (arith, c.if-state-eq0.true)) (rw rest at c.eq.ensures)
