-- `cursor::try_step` meets its contract: each return is one outcome of the call that it makes. Assumes nothing.
use mathlib.Core.Path.{◌≡◌, sym, ◌∙◌}
use mathlib.Core.Bool.{true}
use Rattle.std.proofs.lemmas.Result.{err_from_is_err_and}
use Rattle.cursor.specs.Machine.{Steps, onward, backward, step_call}
use Rattle.cursor.specs.Walk.{sound}
use Rattle.cursor.specs.declared.Direction.{Direction}
use Rattle.cursor.specs.declared.Direction.TheVariants.{Forward, Back}
use Rattle.cursor.proofs.Numbers.{gives_answer}
use Rattle.cursor.proofs.Sound.{sound_in}
use Rattle.cursor.proofs.Outcomes.{record_fails, call_fails, step-asks, step_gives}
use Rattle.cursor.proofs.try_step.Goals.{In_ok-check_record}
use Rattle.cursor.proofs.try_step.Goals as goal

kind : (d : Direction) → Steps (step_call d)
kind Forward = onward
kind Back = backward

-- past check 8 the record is sound
passed : (c : In_ok-check_record) → sound c.args.w ≡ true
passed c = (gives_answer (sound c.args.w) _ c.in_ok-check_record.ensures).0

pub returns-in_err-check_record : goal.returns-in_err-check_record
returns-in_err-check_record c =
    let (e, is, same) = err_from_is_err_and c.from_residual.result c.from_residual.ensures.1 in
    rw (is, same) (record_fails c.args.w (step_call c.args.direction) _ _ c.in_err-check_record.ensures)

pub returns-in_err-check_step : goal.returns-in_err-check_step
returns-in_err-check_step c =
    let (e, is, same) = err_from_is_err_and c.from_residual-in_err-check_step.result c.from_residual-in_err-check_step.ensures.1 in
    rw (is, same) (call_fails c.args.w (step_call c.args.direction) _ (passed (goal.at.returns-in_err-check_step c).In_ok-check_record) c.in_err-check_step.ensures)

pub place_beside-requires : goal.place_beside-requires
place_beside-requires c =
    let inside = sound_in c.args.w (passed (goal.at.place_beside-requires c).In_ok-check_record) in
    (inside.low, inside.high)

pub step_to-requires : goal.step_to-requires
step_to-requires c =
    step-asks c.args.w (kind c.args.direction) (passed (goal.at.step_to-requires c).In_ok-check_record) (sym c.in_ok-check_step.ensures) _ c.place_beside.ensures

pub returns : goal.returns
returns c =
    c.step_to.ensures ∙ step_gives c.args.w (kind c.args.direction) (passed (goal.at.returns c).In_ok-check_record) (sym c.in_ok-check_step.ensures) _ c.place_beside.ensures
