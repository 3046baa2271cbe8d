-- `cursor::try_jump` meets its contract: each return is one outcome of the call. Assumes nothing.
use mathlib.Core.Path.{◌≡◌, sym, ◌∙◌}
use mathlib.Core.Bool.{true, false}
use lib.Dec.{leb}
use Rattle.std.proofs.lemmas.Result.{err_from_is_err_and}
use Rattle.stirling.specs.Refusal.{within, refuse}
use Rattle.stirling.specs.declared.Refusal.TheVariants.{Section}
use Rattle.stirling.specs.Count.{c as count_of, check_cycles, check_place}
use Rattle.stirling.proofs.Refusals.{number_some, refuse-passed, then_passes, then_passed, then_refuses}
use Rattle.cursor.specs.Machine.{jump, refusal_of}
use Rattle.cursor.specs.Walk.{machine_of, sound}
use Rattle.cursor.proofs.Numbers.{gives_answer}
use Rattle.cursor.proofs.Sound.{sound_on}
use Rattle.cursor.proofs.Zeros.{answer_zeros}
use Rattle.cursor.proofs.Outcomes.{record_fails, call_fails, called-moves}
use Rattle.cursor.proofs.try_jump.Goals.{In_ok-check_record, In_ok-check_place, After-is_within}
use Rattle.cursor.proofs.try_jump.Goals as goal

-- past check 8 the record is sound
passed : (c : In_ok-check_record) → sound c.args.w ≡ true
passed c = (gives_answer (sound c.args.w) _ c.in_ok-check_record.ensures).0

-- there checks 1 to 3 are whether the place is one of the list
asks : (c : In_ok-check_record) → check_place c.args.w.n c.args.w.k c.args.place ≡ refuse (leb (count_of c.args.w.n c.args.w.k) c.args.place) 3
asks c = then_passes _ _ (sound_on c.args.w (gives_answer (sound c.args.w) _ c.in_ok-check_record.ensures).0).cycles

-- past them it is
listed : (c : In_ok-check_place) → leb (count_of c.args.w.n c.args.w.k) c.args.place ≡ false
listed c =
    let both = then_passed (check_cycles c.args.w.n c.args.w.k) _ (sym c.in_ok-check_place.ensures) in
    refuse-passed _ 2 both.1

-- and the last test asks whether it is one of the section
asked : (c : After-is_within) → c.is_within.result ≡ within c.args.w.lowest c.args.w.highest c.args.place
asked c = c.is_within.ensures

pub returns-in_err-check_record : goal.returns-in_err-check_record
returns-in_err-check_record c =
    let (e, is, same) = err_from_is_err_and c.from_residual.result c.from_residual.ensures.1 in
    rw (is, same) (record_fails c.args.w (jump c.args.place) _ _ c.in_err-check_record.ensures)

pub returns-in_err-check_place : goal.returns-in_err-check_place
returns-in_err-check_place c =
    let w = c.args.w in
    let there = (goal.at.returns-in_err-check_place c).In_ok-check_record in
    let (e, is, same) = err_from_is_err_and c.from_residual-in_err-check_place.result c.from_residual-in_err-check_place.ensures.1 in
    let past = c.in_err-check_place.ensures ∙ asks there in
    let refused = past ∙ sym (then_refuses _ _ (λ z. number_some _ (past ∙ z))) in
    rw (is, same) (call_fails w (jump c.args.place) _ (passed there) refused)

pub returns-then-not-is_within : goal.returns-then-not-is_within
returns-then-not-is_within c =
    let w = c.args.w in
    let place = c.args.place in
    let outside = sym (asked (goal.at.returns-then-not-is_within c).After-is_within) ∙ c.if-not-is_within.true in
    let out : 13 ≡ refusal_of (machine_of w) (jump place) = rw (listed (goal.at.returns-then-not-is_within c).In_ok-check_place, outside) in
    call_fails w (jump place) Section (passed (goal.at.returns-then-not-is_within c).In_ok-check_record) out

pub cursor_at-cursor-requires : goal.cursor_at-cursor-requires
cursor_at-cursor-requires c = sym c.in_ok-check_place.ensures

pub returns : goal.returns
returns c =
    let w = c.args.w in
    let place = c.args.place in
    let there = sym (asked (goal.at.returns c).After-is_within) ∙ c.if-not-is_within.false in
    let served : refusal_of (machine_of w) (jump place) ≡ 0 = rw (listed (goal.at.returns c).In_ok-check_place, there) in
    let cursor = c.cursor_at-cursor.ensures in
    let answer = answer_zeros c.default-answer.result c.default-answer.ensures in
    (λ i. record { cursor = cursor i; answer = answer i }) ∙ sym (called-moves w (jump place) (passed (goal.at.returns c).In_ok-check_record) served)
