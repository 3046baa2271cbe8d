-- `find::Pattern::by_value` meets its contract. The loop's invariant: the positions below i are noted. Assumes nothing.
use Prim.Native.Nat.{◌+◌, ◌≤◌}
use Rattle.find.proofs.Noting.{Seen}
use Rattle.find.proofs.Pattern.by_value.Given as goal

abbrev pub invariant-loop-i : goal.invariant-loop-i
invariant-loop-i l = (l.i ≤ l.self.size + 1) × Seen l.self.size l.self.values l.i l.free l.positions
