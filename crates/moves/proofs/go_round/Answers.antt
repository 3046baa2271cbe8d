use Prim.Native.Nat.{◌+◌, ◌*◌, ◌≤◌}
use native.Mathlib.Omega.{arith}
use mathlib.Core.Path.{◌≡◌}
use lib.ListN.{length, length-set}
use Rattle.moves.proofs.Going.{going-begun, going-inside, going-room, going-sizes, going_on, going-ended}
use Rattle.moves.proofs.go_round.Goals.{At-loop-wanted}
use Rattle.moves.proofs.go_round.Goals as goal

-- where the loop has come to: x is a position, there is room for a move more, and both slices are as long as they were
inside : (c : At-loop-wanted) → (1 ≤ c.loop-wanted.x) × (c.loop-wanted.x ≤ length c.args.s.now)
inside c = let (few, p, h, k, w, fits) = c.requires in going-inside p h k w c.args.out.now fits c.loop-wanted.invariant

sizes : (c : At-loop-wanted)
    → (c.loop-wanted.size + 2 ≤ length c.args.out.now)
    × (c.loop-wanted.size ≤ 2 * length c.args.s.now)
    × (length c.loop-wanted.out ≡ length c.args.out.now)
    × (length c.loop-wanted.state ≡ length c.args.s.now + 1)
sizes c =
    let (few, p, h, k, w, fits) = c.requires in
    let out = c.args.out.now in
    let r = going-room p h k w out fits c.loop-wanted.invariant in
    let l = going-sizes p h k w out fits c.loop-wanted.invariant in
    (r.0, r.1, l.0, omega (arith, l.1))

pub loop-wanted-init : goal.loop-wanted-init
loop-wanted-init c = let (few, p, h, k, w, fits) = c.requires in going-begun p h k w c.args.out.now fits

pub overflow_sub-x : goal.overflow_sub-x
overflow_sub-x c = (inside c).0

pub overflow_sub-wanted : goal.overflow_sub-wanted
overflow_sub-wanted c = (inside (goal.at.overflow_sub-wanted c).At-loop-wanted).0

pub bounds-out-size : goal.bounds-out-size
bounds-out-size c = omega (arith, sizes (goal.at.bounds-out-size c).At-loop-wanted)

pub bounds-out-size-in-loop-wanted : goal.bounds-out-size-in-loop-wanted
bounds-out-size-in-loop-wanted c = rw length-set (omega (arith, sizes (goal.at.bounds-out-size-in-loop-wanted c).At-loop-wanted))

pub loop-wanted-preserved : goal.loop-wanted-preserved
loop-wanted-preserved c =
    let (few, p, h, k, w, fits) = c.requires in
    rw c.from-x.ensures
    (going_on p h k w c.args.out.now fits c.loop-wanted.invariant (rw c.from.ensures at c.loop-wanted-test.true))

pub bounds-out-size-2 : goal.bounds-out-size-2
bounds-out-size-2 c = omega (arith, sizes (goal.at.bounds-out-size-2 c).At-loop-wanted)

pub bounds-out-size-3 : goal.bounds-out-size-3
bounds-out-size-3 c = rw length-set (omega (arith, sizes (goal.at.bounds-out-size-3 c).At-loop-wanted))

pub returns : goal.returns
returns c =
    let (few, p, h, k, w, fits) = c.requires in
    going-ended p h k w c.args.out.now fits c.loop-wanted.invariant (rw (← c.from.ensures) c.loop-wanted-test.false)
