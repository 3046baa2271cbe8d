use mathlib.Core.Path.{refl, ap}
use native.Mathlib.Omega.{arith}
use lib.ListN.{length}
use Rattle.explain.specs.declared.Level.{Level}
use Rattle.explain.proofs.Summing.{none_yet, one_more, within, all_up}
use Rattle.explain.proofs.sum_up.Goals as goal

pub loop-i-init : goal.loop-i-init
loop-i-init c = none_yet (length c.args.steps.now) c.args.steps.now

pub overflow_add-place : goal.overflow_add-place
overflow_add-place c =
    let rows_before = ap (λ (row : Level). row.before) c.level_of-row.ensures in
    record { fits = omega (arith, rows_before, within c.loop-i.invariant c.loop-i-test.true c.requires.0 refl, c.requires.1) }

pub loop-i-preserved : goal.loop-i-preserved
loop-i-preserved c =
    rw c.level_of-row.ensures (one_more c.loop-i.invariant c.loop-i-test.true c.requires.0 refl)

pub returns : goal.returns
returns c = all_up c.loop-i.invariant (omega arith) refl
