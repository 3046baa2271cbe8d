-- `tree::is_longer` meets its contract: a value of a permutation is a position. Assumes nothing.
use Prim.Native.Nat.{◌≤◌}
use native.Mathlib.Omega.{arith}
use mathlib.Core.Path.{sym}
use lib.ListN.{length}
use Rattle.perm.specs.Permutation.{at}
use Rattle.perm.proofs.Values.{in_range}
use Rattle.tree.proofs.Involution.{longer_two}
use Rattle.tree.proofs.is_longer.Goals.{Start}
use Rattle.tree.proofs.is_longer.Goals as goal

-- the value that is read is 1 to n
value : (c : Start) → let s = c.args.s.now in (1 ≤ at s c.args.i) × (at s c.args.i ≤ length s)
value c = let p = c.requires in in_range p.1 c.args.i p.2 p.3

pub overflow_sub-next : goal.overflow_sub-next
overflow_sub-next c = omega (arith, c.from-next.ensures, value (goal.at.overflow_sub-next c).Start)

pub bounds-s-next : goal.bounds-s-next
bounds-s-next c = omega (arith, c.from-next.ensures, value (goal.at.bounds-s-next c).Start)

pub returns : goal.returns
returns c = rw (c.from.ensures, c.from-next.ensures) (sym (longer_two _ _))
