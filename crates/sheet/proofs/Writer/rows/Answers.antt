use Prim.Native.Nat.{◌+◌, ◌-◌, ◌<◌}
use native.Mathlib.Omega.{arith}
use mathlib.Core.Path.{◌≡◌}
use Rattle.stirling.specs.Count.{c}
use Rattle.stirling.proofs.Counts.{fits}
use Rattle.rank.proofs.RowChecks.{row-count_passed}
use Rattle.sheet.specs.Written.{row_line}
use Rattle.sheet.proofs.Writing.{left_all, left_room, left-next, left_none}
use Rattle.sheet.proofs.Lines.{lines_next, lines_none}
use Rattle.sheet.proofs.Writer.rows.Goals.{In-loop-place}
use Rattle.sheet.proofs.Writer.rows.Goals as goal

-- in the loop: the place is one of the list
inside : (s : In-loop-place) → s.loop-place.place < c s.args.request.n s.args.request.k
inside s =
    let r = s.args.request in
    omega (arith, row-count_passed r.n r.k r.place r.m s.requires.m_value)

pub overflow_add-place-end : goal.overflow_add-place-end
overflow_add-place-end s =
    let r = s.args.request in
    let on = row-count_passed r.n r.k r.place r.m s.requires.m_value in
    omega (arith, on, fits r.n r.k on.0)

pub row_at-requires-clause-room : goal.row_at-requires-clause-room
row_at-requires-clause-room s =
    let r = s.args.request in
    let on = inside (goal.at.row_at-requires-clause-room s).In-loop-place in
    left_room (row_line _ _) _ (lines_next r.n r.k s.loop-place.place (r.place + r.m) s.loop-place-test.true on) s.loop-place.invariant

pub loop-place-init : goal.loop-place-init
loop-place-init s =
    let r = s.args.request in
    let count : r.place + r.m - r.place ≡ r.m = omega arith in
    rw count (left_all s.requires.room)

pub loop-place-preserved : goal.loop-place-preserved
loop-place-preserved s =
    let r = s.args.request in
    let on = inside (goal.at.loop-place-preserved s).In-loop-place in
    left-next
    (row_line _ _)
    _
    (lines_next r.n r.k s.loop-place.place (r.place + r.m) s.loop-place-test.true on)
    s.loop-place.invariant
    s.row_at.ensures

pub returns : goal.returns
returns s =
    let r = s.args.request in
    left_none (lines_none _ (r.place + r.m) _ s.loop-place-test.false) s.loop-place.invariant
