-- `rank::fixed_entries` meets its contract. The loop's invariant is `FixedTo`: so many of the entries passed are fixed. Assumes nothing.
use Prim.Native.Nat.{◌≤◌}
use lib.ListN.{length}
use Rattle.perm.proofs.Fixed.{FixedTo}
use Rattle.rank.proofs.fixed_entries.Given as goal

abbrev pub invariant-loop-i : goal.invariant-loop-i
invariant-loop-i l = (l.i ≤ length l.a) × FixedTo l.a l.i l.fixed
