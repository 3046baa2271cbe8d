-- `cursor::try_section` meets its contract: where its checks pass, the lowest place is a place of the list. Assumes nothing.
use mathlib.Core.Path.{refl, sym}
use Rattle.std.proofs.lemmas.Result.{err_from_is_err_and}
use Rattle.stirling.proofs.Refusals.{number_some}
use Rattle.cursor.specs.declared.Opening.TheVariants.{Section}
use Rattle.cursor.specs.Walk.{opened}
use Rattle.cursor.proofs.Calls.{opened_refused}
use Rattle.cursor.proofs.Zeros.{answer_zeros}
use Rattle.cursor.proofs.try_section.Goals as goal

pub returns-in_err-check_section : goal.returns-in_err-check_section
returns-in_err-check_section c =
    let opening = Section c.args.n c.args.k c.args.lowest c.args.highest in
    let (e, is, same) = err_from_is_err_and c.from_residual.result c.from_residual.ensures.1 in
    rw (is, same) (record { step = sym (opened_refused opening _ c.in_err-check_section.ensures (number_some _)); refusal = c.in_err-check_section.ensures })

pub returns : goal.returns
unfolding opened
returns c =
    let cursor = c.cursor_at.ensures in
    let answer = answer_zeros c.default-2.result c.default-2.ensures in
    rw (sym c.in_ok-check_section.ensures) (record { step = λ i. record { cursor = cursor i; answer = answer i }; refusal = refl })
