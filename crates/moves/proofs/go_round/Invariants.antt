-- `moves::go_round` meets its contract. The loop's invariant is `Going`: the moves to position x are written. The measure is what is left of as many moves as there are
-- positions. Assumes nothing.
use Prim.Native.Nat.{◌+◌, ◌*◌, ◌-◌}
use lib.ListN.{length}
use Rattle.moves.proofs.Going.{Going}
use Rattle.moves.proofs.go_round.Given as goal

abbrev pub invariant-loop-wanted : goal.invariant-loop-wanted
invariant-loop-wanted l = Going l.s l.a l.initial.state l.initial.out l.state l.out l.size l.x

abbrev pub decreases-loop-wanted : goal.decreases-loop-wanted
decreases-loop-wanted l = 2 * length l.s + 2 - l.size
