-- `explain::explain` meets its contract: a refusal is that of the way down, or 12 where too few rows are lent; otherwise the steps are lettered and added up. Assumes
-- nothing.
use mathlib.Core.Path.{refl}
use lib.ListN.{length, take}
use Rattle.explain.proofs.ByValue.{fit, is-explained}
use Rattle.explain.proofs.explain.Goals as goal

pub sum_up-sum-requires : goal.sum_up-sum-requires
sum_up-sum-requires c =
    fit c.in_ok-descent.ensures (take (length c.args.s.now) c.in_ok-descent.descent.steps) refl

pub returns : goal.returns
returns c =
    is-explained c.in_ok-descent.ensures (take (length c.args.s.now) c.in_ok-descent.descent.steps) refl c.args.lent c.if-lent-n.false c.sum_up-sum.result c.sum_up-sum.ensures
