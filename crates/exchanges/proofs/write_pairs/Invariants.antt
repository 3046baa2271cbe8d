-- `exchanges::write_pairs` meets its contract. The loop's invariant: the pairs of the first i entries stand in front of what `out` held, and `at` bytes are theirs.
-- Assumes nothing.
use Prim.Native.Nat.{◌*◌}
use mathlib.Core.Path.{◌≡◌}
use lib.ListN.{length}
use Rattle.perm.specs.Pairs.{front}
use Rattle.exchanges.specs.Pairs.{pairs_to}
use Rattle.exchanges.proofs.write_pairs.Given as goal

abbrev pub invariant-loop-i : goal.invariant-loop-i
invariant-loop-i l = (l.at ≡ 2 * length (pairs_to l.entries l.i)) × (l.out ≡ front (pairs_to l.entries l.i) l.initial.out)
