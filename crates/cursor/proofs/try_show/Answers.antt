-- `cursor::try_show` meets its contract: a sound record holds what the machine shows, and its fixed points were counted as it was checked. Assumes nothing.
use mathlib.Core.Path.{sym, ◌∙◌}
use Rattle.std.proofs.lemmas.Result.{err_from_is_err_and}
use Rattle.cursor.specs.Machine.{show}
use Rattle.cursor.specs.Walk.{sound}
use Rattle.cursor.proofs.Numbers.{gives_answer}
use Rattle.cursor.proofs.Outcomes.{record_fails, called-shows}
use Rattle.cursor.proofs.Zeros.{answer_zeros}
use Rattle.cursor.proofs.try_show.Goals as goal

pub returns-in_err-fixed : goal.returns-in_err-fixed
returns-in_err-fixed c =
    let (e, is, same) = err_from_is_err_and c.from_residual.result c.from_residual.ensures.1 in
    rw (is, same) (record_fails c.args.w show _ _ c.in_err-fixed.ensures)

pub returns : goal.returns
returns c =
    let w = c.args.w in
    let (passed, number) = gives_answer (sound w) _ c.in_ok-fixed.ensures in
    let zeros = answer_zeros c.default.result c.default.ensures in
    (λ i. record { cursor = w; answer = record (zeros i) { place = w.place; perm = w.perm; array = w.array; fixed = number i } }) ∙ sym (called-shows w passed)
