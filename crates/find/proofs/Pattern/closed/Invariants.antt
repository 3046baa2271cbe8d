-- `find::Pattern::closed` meets its contract. The loop's invariant: the cycles counted, and those that the wishes of the positions below m close, are all. Assumes nothing.
use Rattle.find.proofs.Links.{Closing}
use Rattle.find.proofs.Pattern.closed.Given as goal

abbrev pub invariant-loop-m : goal.invariant-loop-m
invariant-loop-m l = Closing l.fn.self.size l.initial.values l.values l.positions l.count l.m
