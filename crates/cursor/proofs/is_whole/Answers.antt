-- `cursor::is_whole` meets its contract: what is looked up is the count of the record's list. Assumes nothing.
use Prim.Native.Nat.{◌+◌}
use native.Mathlib.Omega.{arith}
use lib.Dec.{eqb}
use borrow.Author.Tests.{eqb-true, eqb-false, leb-true, leb-false, ltb-true, ltb-false, eq-eqb, ne_eqb}
use Rattle.stirling.specs.Count.{c as count_of}
use Rattle.cursor.proofs.Sound.{sound_in}
use Rattle.cursor.proofs.Outcomes.{agree, sound-count}
use Rattle.cursor.proofs.is_whole.Goals as goal

pub overflow_add-result : goal.overflow_add-result
overflow_add-result c =
    omega (arith, sound-count c.args.w c.requires, (sound_in c.args.w c.requires).last)

pub returns-then-w-eq0 : goal.returns-then-w-eq0
returns-then-w-eq0 c =
    let w = c.args.w in
    let sound = c.requires in
    let count = sound-count w sound in
    let last = (sound_in w sound).last in
    let right = count_of w.n w.k in
    rw (eq-eqb w.lowest 0 c.if-w-eq0.true)
    (agree
    _
    (eqb (w.highest + 1) right)
    (λ t. eq-eqb (w.highest + 1) right (omega (arith, eqb-true, leb-true, ltb-true, c.lookup.ensures, count, last)))
    (λ t. ne_eqb (w.highest + 1) right (λ e. omega (arith, eqb-false, leb-false, ltb-false, c.lookup.ensures, count, last))))
