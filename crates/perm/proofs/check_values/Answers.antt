use native.Mathlib.Omega.{arith}
use mathlib.Core.Path.{sym, refl, ◌≡◌}
use mathlib.Core.Bool.{true, false}
use lib.ListN.{get_or}
use Rattle.stirling.proofs.Refusals.{refuse_applies, refuse_passes}
use Rattle.perm.proofs.Search.{passed, found, exhausted}
use Rattle.perm.proofs.check_values.Invariants.{outside}
use Rattle.perm.proofs.check_values.Goals as goal

pub returns-then-not-in_range : goal.returns-then-not-in_range
returns-then-not-in_range c =
    let s = c.args.s.now in
    let test : outside s (get_or s c.loop-v.v-index 0) ≡ true = rw (← c.in_range.ensures, c.if-not-in_range.true) refl in
    sym (refuse_applies _ 6 (found (outside s) s c.loop-v.v-index c.loop-v.invariant (omega arith) test))

pub loop-v-preserved : goal.loop-v-preserved
loop-v-preserved c =
    let s = c.args.s.now in
    let test : outside s (get_or s c.loop-v.v-index 0) ≡ false = rw (← c.in_range.ensures, c.if-not-in_range.false) refl in
    passed (outside s) s c.loop-v.v-index c.loop-v.invariant (omega arith) test

pub returns : goal.returns
returns c =
    let s = c.args.s.now in
    sym (refuse_passes _ 6 (exhausted (outside s) s c.loop-v.v-index c.loop-v.invariant (omega arith)))
