-- `find::Pattern::can_meet` meets its contract, by the count. Assumes nothing.
use Prim.Native.Nat.{◌+◌}
use native.Mathlib.Omega.{arith}
use borrow.Author.Tests.{leb-true, leb-false, ltb-true}
use Rattle.find.proofs.Possible.{none-sound, few, all_closed, some-free}
use Rattle.find.proofs.Pattern.can_meet.Goals as goal

pub returns-in_default : goal.returns-in_default
returns-in_default c = none-sound c.args.self.size c.args.k c.args.self.values (omega arith) c.in_default.ensures

pub returns-then-free-eq0 : goal.returns-then-free-eq0
returns-then-free-eq0 c = all_closed c.args.k (omega arith) c.in-Some.ensures c.closed-cycles.ensures c.if-free-eq0.true

pub overflow_add-result : goal.overflow_add-result
overflow_add-result c = omega (arith, few c.args.k (omega arith) c.in-Some.ensures c.closed-cycles.ensures)

pub returns-then-cycles-k : goal.returns-then-cycles-k
returns-then-cycles-k c =
    some-free c.args.k (omega arith) c.in-Some.ensures c.closed-cycles.ensures c.if-free-eq0.false _
    (λ t. (omega arith, leb-true c.args.k (c.closed-cycles.result + c.in-Some.seen.free) t))
    (λ f l u. omega (arith, leb-false c.args.k (c.closed-cycles.result + c.in-Some.seen.free) f))

pub returns-else-cycles-k : goal.returns-else-cycles-k
returns-else-cycles-k c =
    some-free c.args.k (omega arith) c.in-Some.ensures c.closed-cycles.ensures c.if-free-eq0.false _
    (λ t. absurd (omega (arith, ltb-true c.closed-cycles.result c.args.k t, c.if-cycles-k.false)))
    (λ f l u. omega (arith, c.if-cycles-k.false))
