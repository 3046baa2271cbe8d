-- `perm::copy_indexed` meets its contract. The loop's invariant: the first i values are copied; `Indexed`: they have their indices; `FixedTo`: so many of them are fixed.
-- Assumes nothing.
use Prim.Native.Nat.{◌≤◌}
use mathlib.Core.Path.{◌≡◌}
use lib.ListN.{length, take}
use Rattle.perm.proofs.Fixed.{FixedTo}
use Rattle.perm.proofs.Steps.{Indexed}
use Rattle.perm.proofs.copy_indexed.Given as goal

abbrev pub invariant-loop-i : goal.invariant-loop-i
invariant-loop-i l =
    (length l.out ≡ length l.s) × (l.i ≤ length l.s) × (take l.i l.out ≡ take l.i l.s) × Indexed l.s l.index l.i × FixedTo l.s l.i l.fixed
