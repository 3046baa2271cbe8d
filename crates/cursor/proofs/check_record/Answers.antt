-- `cursor::check_record` meets its contract: out of range the record fails, and in range it is compared with the record that shows its place. Assumes nothing.
use mathlib.Core.Path.{◌≡◌, sym, ap, ◌∙◌}
use mathlib.Core.Bool.{not, false≢true}
use borrow.Author.Tests.{not-true, not-false}
use Rattle.cursor.specs.Walk.{sound}
use Rattle.cursor.proofs.Numbers.{no_error, is_served}
use Rattle.cursor.proofs.Sound.{InRange, compared, sound_compares, sound_refuses, equals, equals_compared}
use Rattle.cursor.proofs.check_record.Goals.{After-ne, Else-not-is_within}
use Rattle.cursor.proofs.check_record.Goals as goal

in_range : (c : Else-not-is_within) → InRange c.args.w
in_range c =
    record {
      listed = sym c.check_place.ensures ∙ no_error c.check_place.result (sym c.is_err.ensures.value ∙ c.if-is_err.false);
      inside = sym c.is_within.ensures ∙ c.if-not-is_within.false;
    }

-- then the records are what is compared
decides : (c : Else-not-is_within) → sound c.args.w ≡ compared c.args.w
decides c = sound_compares c.args.w (in_range c)

found : (c : After-ne) → c.ne.result ≡ not (compared c.args.w)
found c = c.ne.ensures ∙ ap (λ right. not (equals c.args.w right.cursor)) c.counted_at-right.ensures ∙ ap not (equals_compared c.args.w)

pub returns-then-is_err : goal.returns-then-is_err
returns-then-is_err c = rw (sound_refuses c.args.w (λ r. false≢true (sym (is_served c.check_place.result (c.check_place.ensures ∙ r.listed)) ∙ sym c.is_err.ensures.value ∙ c.if-is_err.true)))

pub returns-then-not-is_within : goal.returns-then-not-is_within
returns-then-not-is_within c =
    let w = c.args.w in
    let outside = c.if-not-is_within.true in
    rw (sound_refuses w (λ r. false≢true (sym outside ∙ c.is_within.ensures ∙ r.inside)))

pub returns-then-ne : goal.returns-then-ne
returns-then-ne c =
    let w = c.args.w in
    let differs = not-true (compared w) (sym (found (goal.at.returns-then-ne c).After-ne) ∙ c.if-ne.true) in
    rw (decides (goal.at.returns-then-ne c).Else-not-is_within, differs)

pub returns : goal.returns
returns c =
    let w = c.args.w in
    let agrees = not-false (compared w) (sym (found (goal.at.returns c).After-ne) ∙ c.if-ne.false) in
    rw (decides (goal.at.returns c).Else-not-is_within, agrees, c.counted_at-right.ensures)
