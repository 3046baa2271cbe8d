-- `moves::go_round_all` meets its contract. The loop's invariant is `Rounds`: the moves round the cycles that begin at the positions passed are written, and made. Assumes
-- nothing.
use Rattle.moves.proofs.Rounds.{Rounds}
use Rattle.moves.proofs.go_round_all.Given as goal

abbrev pub invariant-loop-i : goal.invariant-loop-i
invariant-loop-i l = Rounds l.s l.initial.out l.state l.out l.size l.i
