-- `tree::Kind::count_usable` meets its contract. The loop's invariant is `CountedTo`: so many of the first l positions may be used. Assumes nothing.
use Rattle.perm.proofs.Counted.{CountedTo}
use Rattle.tree.specs.Kind.{rule_of}
use Rattle.tree.proofs.Kind.count_usable.Given as goal

abbrev pub invariant-loop-l : goal.invariant-loop-l
invariant-loop-l l = CountedTo (rule_of l.self l.s) l.l l.count
