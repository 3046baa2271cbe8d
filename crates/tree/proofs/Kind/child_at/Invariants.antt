-- `tree::Kind::child_at` meets its contract. The loop's invariant is `Passed`: the place is the rows of the children before position l, and the rest. Assumes nothing.
use Prim.Native.Nat.{suc, ◌≤◌}
use Rattle.tree.proofs.Steps.{Passed}
use Rattle.tree.proofs.Kind.child_at.Given as goal

abbrev pub invariant-loop-l : goal.invariant-loop-l
invariant-loop-l l = (l.l ≤ suc l.h) × Passed l.self l.s l.size l.place l.l l.rest
