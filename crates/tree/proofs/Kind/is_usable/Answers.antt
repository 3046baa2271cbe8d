-- `tree::Kind::is_usable` meets its contract: the value is a byte, and in a Bell permutation it tells the least of a cycle. Assumes nothing.
use mathlib.Core.Path.{sym}
use Rattle.tree.proofs.Falling.{least-value}
use Rattle.tree.proofs.Kind.is_usable.Goals as goal

pub returns-in-Bell : goal.returns-in-Bell
returns-in-Bell c =
    rw (c.in-Bell.is, c.from-value.ensures) (sym (least-value (rw c.in-Bell.is at c.requires.2) c.args.l c.requires.0 c.requires.1))
