use Prim.Native.Nat.{◌+◌}
use native.Mathlib.Numerals.{add-one}
use native.Mathlib.Omega.{arith}
use mathlib.Core.Path.{sym, ◌∙◌, ◌≡◌, refl}
use lib.ListN.{get_or, length-set}
use lib.Seq.{take-suc, take-suc-set}
use Rattle.perm.proofs.Fixed.{fixed_none, fixed_here, fixed_other, fixed_all}
use Rattle.perm.proofs.Steps.{value_bound, indexed_none, indexed_step}
use Rattle.perm.proofs.copy_indexed.Goals.{else-from-i, then-from-i}
use Rattle.perm.proofs.copy_indexed.Goals as goal

pub loop-i-init : goal.loop-i-init
loop-i-init c = (c.requires.1, omega arith, refl, indexed_none _, fixed_none _)

pub bounds-index-from : goal.bounds-index-from
bounds-index-from c =
    let pre = c.requires in
    rw c.from-in-loop-i.ensures (omega (arith, pre.0, value_bound pre.2 c.loop-i.i (omega arith)))

pub loop-i-preserved : goal.loop-i-preserved
loop-i-preserved c =
    let i = c.loop-i.i in
    let s = c.args.s.now in
    let pre = c.requires in
    let value = c.from.ensures in
    let one_more = take-suc-set c.loop-i.out i (get_or s i 0) (omega arith) in (
      simp length-set c.loop-i.invariant.0,
      omega arith,
      rw (add-one, one_more, c.loop-i.invariant.2, take-suc s i 0 (omega arith)),
      indexed_step i c.from-in-loop-i.result pre.0 pre.2 (omega arith) c.from-in-loop-i.ensures c.loop-i.invariant.3,
      elim c.if-from-i.branch [ then-from-i w ↦ let here : get_or s i 0 ≡ i + 1 = sym value ∙ w.if-from-i.true in rw w.fixed-is (fixed_here s here c.loop-i.invariant.4) | else-from-i w ↦ rw w.fixed-is (fixed_other s (λ e. w.if-from-i.false (value ∙ e)) c.loop-i.invariant.4) ],
    )

pub returns-clause-counted : goal.returns-clause-counted
returns-clause-counted c = let s = c.args.s.now in
    let x = c.loop-i.invariant.3 in fixed_all s (omega arith) c.loop-i.invariant.4
