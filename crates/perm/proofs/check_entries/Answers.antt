use Prim.Native.Nat.{◌+◌, ◌-◌}
use native.Mathlib.Omega.{arith}
use mathlib.Core.Path.{sym, refl, ◌≡◌}
use mathlib.Core.Bool.{true, false}
use lib.ListN.{length, get_or}
use Rattle.stirling.proofs.Refusals.{refuse_applies, refuse_passes}
use Rattle.stirling.specs.Refusal.{within}
use Rattle.perm.proofs.Search.{passed-position, found-position, exhausted-positions}
use Rattle.perm.proofs.check_entries.Invariants.{outside}
use Rattle.perm.proofs.check_entries.Goals.{After-in_range}
use Rattle.perm.proofs.check_entries.Goals as goal

-- what is asked of the entry at index i
said : (c : After-in_range)
    → c.in_range.result
    ≡ within 1 (c.loop-i.i + 1) (get_or c.args.a.now c.loop-i.i 0)
said c = c.in_range.ensures

pub returns-then-not-in_range : goal.returns-then-not-in_range
returns-then-not-in_range c =
    let a = c.args.a.now in
    let e : c.loop-i.i + 1 - 1 ≡ c.loop-i.i = omega arith in
    let test : outside a (c.loop-i.i + 1) ≡ true = rw (e, ← said (goal.at.returns-then-not-in_range c).After-in_range, c.if-not-in_range.true) refl in
    sym (refuse_applies _ 6 (found-position (outside a) (length a) c.loop-i.i c.loop-i.invariant (omega arith) test))

pub loop-i-preserved : goal.loop-i-preserved
loop-i-preserved c =
    let a = c.args.a.now in
    let e : c.loop-i.i + 1 - 1 ≡ c.loop-i.i = omega arith in
    let test : outside a (c.loop-i.i + 1) ≡ false = rw (e, ← said (goal.at.loop-i-preserved c).After-in_range, c.if-not-in_range.false) refl in
    passed-position (outside a) (length a) c.loop-i.i c.loop-i.invariant (omega arith) test

pub returns : goal.returns
returns c =
    let a = c.args.a.now in
    sym (refuse_passes _ 6 (exhausted-positions (outside a) (length a) c.loop-i.i c.loop-i.invariant (omega arith)))
