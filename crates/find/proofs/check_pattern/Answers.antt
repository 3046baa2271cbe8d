-- `find::check_pattern` meets its contract: what is asked of each wish is the test that check 6 counts by. Assumes nothing.
use mathlib.Core.Path.{◌≡◌, sym, ◌∙◌}
use lib.Dec.{ltb}
use borrow.Author.Tests.{tests}
use Rattle.std.proofs.Common.{rules}
use Rattle.std.proofs.lemmas.Iterator.{YieldsList-from_slice}
use Rattle.std.proofs.lemmas.Iterator.Search.{any_from_yields_List}
use Rattle.stirling.proofs.Refusals.{refuse_applies, refuse_passes}
use Rattle.perm.specs.Lists.{some}
use Rattle.find.proofs.Patterns.{some-any}
use Rattle.find.proofs.check_pattern.Goals.{After-any}
use Rattle.find.proofs.check_pattern.Goals as goal

above : (c : After-any) → c.any.result ≡ some (ltb c.args.n) c.args.pattern.now
above c =
    any_from_yields_List (ltb c.args.n) _ _ c.any.result c.any.ensures.ran (YieldsList-from_slice c.args.pattern.now cc) (λ x b q k. search (rules, tests))
    ∙ some-any (ltb c.args.n) c.args.pattern.now

pub returns-then-any : goal.returns-then-any
returns-then-any c = sym (refuse_applies _ 6 (sym (above (goal.at.returns-then-any c).After-any) ∙ c.if-any.true))

pub returns : goal.returns
returns c = sym (refuse_passes _ 6 (sym (above (goal.at.returns c).After-any) ∙ c.if-any.false))
