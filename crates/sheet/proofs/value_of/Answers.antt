use Prim.Native.Nat.{◌+◌, ◌*◌, ◌^◌, ◌≤◌}
use native.Mathlib.Omega.{arith}
use mathlib.Core.Path.{sym, ◌∙◌}
use lib.ListN.{get_or}
use Rattle.stirling.proofs.Refusals.{within-true}
use Rattle.sheet.proofs.Reading.{value_next, value_all, digit_more, digit_fits}
use Rattle.sheet.proofs.value_of.Goals.{In-loop-digit}
use Rattle.sheet.proofs.value_of.Goals as goal

-- in the loop: the next byte is a digit, and there is room for it
digit : (c : In-loop-digit) → let d = get_or c.args.digits.now c.loop-digit.digit-index 0 in (48 ≤ d) × (d ≤ 57)
digit c = within-true 48 57 (get_or c.args.digits.now c.loop-digit.digit-index 0) (c.requires.each c.loop-digit.digit-index (omega arith))

room : (c : In-loop-digit) → c.loop-digit.value * 10 + 10 ≤ 10 ^ 19
room c = digit_fits c.loop-digit.digit-index c.loop-digit.value (omega arith) c.loop-digit.invariant.0

pub overflow_mul-value : goal.overflow_mul-value
overflow_mul-value c = omega (arith, room (goal.at.overflow_mul-value c).In-loop-digit)

pub overflow_add-value : goal.overflow_add-value
overflow_add-value c =
    let s = (goal.at.overflow_add-value c).In-loop-digit in
    omega (arith, room s, digit s)

pub loop-digit-preserved : goal.loop-digit-preserved
loop-digit-preserved c =
    let inv = c.loop-digit.invariant in
    let d = digit (goal.at.loop-digit-preserved c).In-loop-digit in (
      digit_more c.loop-digit.digit-index c.loop-digit.value c.from.result inv.0 (omega arith),
      sym (value_next c.loop-digit.value c.loop-digit.digit-index c.from.result c.args.digits.now (omega arith) (omega arith)) ∙ inv.1,
    )

pub returns : goal.returns
returns c = sym (value_all c.loop-digit.value c.loop-digit.digit-index c.args.digits.now (omega arith)) ∙ c.loop-digit.invariant.1
