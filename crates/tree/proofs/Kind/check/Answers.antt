-- `tree::Kind::check` meets its contract: the chain finds a position that keeps the permutation from being of the kind, or there is none. Assumes nothing.
use mathlib.Core.Path.{◌≡◌, sym, ◌∙◌}
use mathlib.Core.Bool.{true, false}
use lib.ListN.{length}
use borrow.Author.Tests.{tests}
use Rattle.std.proofs.Common.{rules}
use Rattle.std.proofs.lemmas.Iterator.{cases_from_any}
use Rattle.stirling.proofs.Refusals.{refuse_applies, refuse_passes}
use Rattle.perm.specs.Lists.{some, positions}
use Rattle.tree.specs.Kind.{breaks}
use Rattle.tree.proofs.Chains.{YieldsList-from_positions, found-any}
use Rattle.tree.proofs.Kind.check.Goals.{After-any}
use Rattle.tree.proofs.Kind.check.Goals as goal

found : (c : After-any) → c.any.result ≡ some (breaks c.args.self c.args.s.now) (positions (length c.args.s.now))
found c =
    let test = breaks c.args.self c.args.s.now in
    let n = length c.args.s.now in
    found-any test (positions n) c.any.result
    (cases_from_any _ _ _ (λ i. test i ≡ true) (λ i. test i ≡ false) c.any.ensures.ran (YieldsList-from_positions n c.new.ensures.start c.new.ensures.end c.new.ensures.exhausted) (λ x q k. search (rules, tests)) (λ x q k. search (rules, tests)))

pub returns-then-any : goal.returns-then-any
returns-then-any c = c.refusal.ensures ∙ sym (refuse_applies _ _ (sym (found (goal.at.returns-then-any c).After-any) ∙ c.if-any.true))

pub returns : goal.returns
returns c = sym (refuse_passes _ _ (sym (found (goal.at.returns c).After-any) ∙ c.if-any.false))
