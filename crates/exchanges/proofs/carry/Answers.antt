use native.Mathlib.Omega.{arith}
use mathlib.Core.Path.{◌≡◌, sym, ◌∙◌}
use lib.ListN.{length}
use lib.Seq.{take_all}
use Rattle.perm.proofs.Steps.{value_bound}
use Rattle.exchanges.specs.Carrying.{carrying}
use Rattle.exchanges.proofs.Carrying.{index-found, carried_step, length-carrying}
use Rattle.exchanges.proofs.carry.Goals as goal

-- a value is at most 20
pub bounds-index-from : goal.bounds-index-from
bounds-index-from c =
    let pre = c.requires in
    omega (arith, pre.0, c.from.ensures, value_bound pre.2 c.loop-i.i (omega (arith, pre.2.size)))

-- and its index is found
pub overflow_add-carrier : goal.overflow_add-carrier
overflow_add-carrier c =
    let pre = c.requires in
    let x = c.indices-index in
    rw c.from.ensures (omega (arith, pre.0, (index-found pre.1 x.result x.ensures.1 pre.2 c.loop-i.i (omega arith)).0))

pub loop-i-preserved : goal.loop-i-preserved
loop-i-preserved c =
    let pre = c.requires in
    let x = c.indices-index in
    rw c.from.ensures (carried_step pre.1 x.result x.ensures.1 pre.2 c.loop-i.i (omega arith) c.loop-i.carrier (omega (arith, pre.2.size)) c.loop-i.invariant)

pub returns : goal.returns
returns c =
    let pre = c.requires in
    let from = c.args.from.now in
    let to = c.args.to.now in
    let size = length-carrying pre.1 pre.2 in
    let done : c.loop-i.i ≡ length to = omega arith in
    sym (take_all (length to) c.loop-i.carrier (omega (arith, pre.2.size)))
    ∙ rw done at c.loop-i.invariant
    ∙ take_all (length to) (carrying from to) (omega (arith, size, pre.2.size))
