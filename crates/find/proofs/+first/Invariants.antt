-- `find::first` calls itself with n falling by one from a list to the one below. The loop's invariant is `Going`. Assumes
-- nothing.
use Rattle.find.proofs.Searching.{Going}
use Rattle.find.proofs.+first.Given as goal

abbrev pub decreases-first : goal.decreases-first
decreases-first l = l.sought.size

abbrev pub invariant-loop-number : goal.invariant-loop-number
invariant-loop-number l = Going l.sought.size l.k l.backward l.start l.sought.values l.number l.before l.calls
