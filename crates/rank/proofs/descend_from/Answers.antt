use mathlib.Core.Path.{◌≡◌, sym, ap}
use mathlib.Core.Bool.{false}
use Prim.Native.Nat.{◌+◌, ◌-◌, ◌<◌}
use native.Mathlib.Omega.{arith}
use lib.ListN.{length, set, get_or, take}
use lib.Seq.{length-take-le, take-length}
use Rattle.rank.proofs.Descending.{Along, along-occurs, none_along, next-along, few-along, all-along, none_passed, last-read, step_of, Down, none_done, next-done, all_done}
use Rattle.rank.proofs.descend_from.Goals.{After-part_with-part, In-Some, In-None}
use Rattle.rank.proofs.descend_from.Goals as goal

-- the entry that is read, from the last on
read : (c : In-Some)
    → let a = c.args.a.now in
    let m = length a - c.in-Some.done in
    (0 < m) × (c.next.new.self.iter.iter.rest.now ≡ take (m - 1) a) × (c.in-Some.i.now ≡ get_or a (m - 1) 0)
read c =
    let s = c.in-Some.ensures.steps in
    let a = c.args.a.now in
    rw s.1 (last-read a (length a - c.loop-done.done-iterator.count) (omega arith) c.loop-done.invariant.1 s.0)

pub loop-done-init : goal.loop-done-init
loop-done-init c =
    let f = c.enumerate-done-items.ensures in
    let all : length c.args.a.now - 0 ≡ length c.args.a.now = omega arith in
    rw (c.into_iter-done-iterator.ensures.into_iter_gives, f.count, f.source, c.rev.ensures.source, c.iter.ensures.rest, all)
    (omega arith, sym (take-length c.args.a.now), none_along c.args.a.now c.args.k false c.requires.rankable, none_done c.args.a.now c.args.k c.requires.rankable)

-- one size more
next : (c : After-part_with-part)
    → let p = c.part_with-part.result in
    let m = length c.args.a.now - c.in-Some.done in
    Along c.args.a.now c.args.k false (c.loop-done.additions + p.additions) p.below.cycles p.below.backward (m - 1)
    × Down c.args.a.now c.args.k (set c.loop-done.steps (length c.args.a.now - m) (step_of c.loop-done.cycles c.loop-done.backward p)) p.below.cycles p.below.backward (m - 1)
next c =
    let l = c.loop-done in
    let m = length c.args.a.now - c.in-Some.done in
    let r = read (goal.at.After-part_with-part c).In-Some in
    let i = rw (← c.in-Some.ensures.steps.1) at l.invariant in
    rw (c.part_with-part.ensures, c.from.ensures, r.2) (next-along m r.0 i.2, next-done m r.0 i.2 i.3)

pub part_with-part-requires : goal.part_with-part-requires
part_with-part-requires c =
    let r = read (goal.at.part_with-part-requires c).In-Some in
    let i = rw (← c.in-Some.ensures.steps.1) at c.loop-done.invariant in
    record { occurs = rw (c.from.ensures, r.2) (along-occurs (length c.args.a.now - c.in-Some.done) r.0 i.2) }

pub overflow_add-additions : goal.overflow_add-additions
overflow_add-additions c =
    omega (arith, few-along c.requires.rankable (next (goal.at.overflow_add-additions c).After-part_with-part).0)

pub loop-done-preserved : goal.loop-done-preserved
loop-done-preserved c =
    let n = length c.args.a.now in
    let s = c.in-Some.ensures.steps in
    let r = read (goal.at.loop-done-preserved c).In-Some in
    let at : n - (n - c.in-Some.done) ≡ c.in-Some.done = omega (arith, r.0) in
    let less : n - c.in-Some.done - 1 ≡ n - c.next.new.self.count = omega (arith, s.1, s.2) in
    let two = rw (at, less) at (next (goal.at.loop-done-preserved c).After-part_with-part) in
    (omega (arith, s.1, s.2, r.0), rw less at r.1, two.0, two.1)

-- at the end nothing is left to read
none_left : (c : In-None) → length c.args.a.now - c.loop-done.done-iterator.count ≡ 0
none_left c =
    let i = c.loop-done.invariant in
    let m = length c.args.a.now - c.loop-done.done-iterator.count in
    omega (arith, length-take-le m c.args.a.now (omega arith), ap length i.1, c.in-None.ensures.steps.0)

pub returns-clause-steps : goal.returns-clause-steps
returns-clause-steps c = all_done (rw (none_left (goal.at.returns-clause-steps c).In-None) at c.loop-done.invariant.3)

pub returns-clause-counted : goal.returns-clause-counted
returns-clause-counted c =
    all-along c.requires.rankable (rw (none_left (goal.at.returns-clause-counted c).In-None) at c.loop-done.invariant.2) (none_passed _ _ _)
