use Prim.Native.Nat.{◌+◌, ◌≤◌, ◌<◌}
use native.Mathlib.Omega.{arith}
use native.Mathlib.Numerals.{add-one}
use mathlib.Core.Path.{◌≡◌}
use lib.ListN.{length}
use Rattle.moves.proofs.Rounds.{rounds_none, rounds-size, rounds-state, rounds-skip, round-home, round_room, rounds-next}
use Rattle.moves.proofs.go_round_all.Goals.{At-loop-i, then-state-a, else-state-a}
use Rattle.moves.proofs.go_round_all.Goals as goal

-- where the loop has come to: the slices are as long as they were, and the bytes written are some of the buffer's
sizes : (c : At-loop-i)
    → let a = c.args in
    (length c.loop-i.state ≡ length a.s.now + 1) × (length c.loop-i.out ≡ length a.out.now) × (c.loop-i.size ≤ length a.out.now)
sizes c =
    let (few, p, start, fits) = c.requires in
    let l = rounds-size p fits c.loop-i.invariant in
    (omega (arith, rounds-state p fits c.loop-i.invariant), l.0, l.1)

pub loop-i-init : goal.loop-i-init
loop-i-init c =
    rounds_none c.args.s.now c.args.out.now c.requires.2

pub bounds-state-a : goal.bounds-state-a
bounds-state-a c = omega (arith, sizes (goal.at.bounds-state-a c).At-loop-i)

pub slice_bounds-go_round-count : goal.slice_bounds-go_round-count
slice_bounds-go_round-count c = omega (arith, sizes (goal.at.slice_bounds-go_round-count c).At-loop-i)

pub slice_bounds-go_round-start : goal.slice_bounds-go_round-start
slice_bounds-go_round-start c = omega (arith, sizes (goal.at.slice_bounds-go_round-start c).At-loop-i)

pub go_round-size-requires : goal.go_round-size-requires
go_round-size-requires c =
    let (few, p, start, fits) = c.requires in
    let next = add-one c.loop-i.i in
    let inside : c.loop-i.i < length c.args.s.now = omega arith in
    let other = c.if-state-a.true in
    (few, p, omega arith, omega arith, round-home p fits c.loop-i.invariant inside next other, round_room p fits c.loop-i.invariant inside next other)

pub overflow_add-size : goal.overflow_add-size
overflow_add-size c =
    let (few, p, start, fits) = c.requires in
    let inside : c.loop-i.i < length c.args.s.now = omega arith in
    let (bytes, part, made) = c.go_round-size.ensures in
    omega (arith, (rounds-size p fits (rounds-next p fits c.loop-i.invariant inside (add-one c.loop-i.i) c.if-state-a.true bytes part made)).1)

pub loop-i-preserved : goal.loop-i-preserved
loop-i-preserved c =
    let (few, p, start, fits) = c.requires in
    let inside : c.loop-i.i < length c.args.s.now = omega arith in
    elim c.if-state-a.branch [
      | then-state-a w ↦ let (bytes, part, made) = w.go_round-size.ensures in
          rw (w.size-is, w.out-is, w.state-is) (rounds-next p fits c.loop-i.invariant inside (add-one c.loop-i.i) w.if-state-a.true bytes part made)
      | else-state-a w ↦ rw (w.size-is, w.out-is, w.state-is) (rounds-skip p fits c.loop-i.invariant inside (add-one c.loop-i.i) w.if-state-a.false)
    ]
