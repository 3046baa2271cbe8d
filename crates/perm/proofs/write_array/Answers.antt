use Prim.Native.Nat.{◌+◌, ◌-◌, ◌≤◌, ◌<◌}
use native.Mathlib.Omega.{arith}
use mathlib.Core.Path.{◌≡◌}
use lib.ListN.{length, get_or}
use Rattle.perm.proofs.Steps.{left_step, left_none, index-found, last-bound, indexed-move}
use Rattle.perm.proofs.write_array.Goals.{In-loop-m}
use Rattle.perm.proofs.write_array.Goals as goal

-- the lengths, in the loop
lengths : (c : In-loop-m) → (c.loop-m.m ≤ length c.loop-m.out) × (length c.loop-m.out ≤ 20)
lengths c =
    let left = c.loop-m.invariant.0 in
    (left.bound, omega (arith, left.size, c.requires.0))

-- the value m stands at the index that is looked up, below m
there : (c : In-loop-m)
    → (get_or c.loop-m.index c.loop-m.m 0 < c.loop-m.m)
    × (get_or c.loop-m.out (get_or c.loop-m.index c.loop-m.m 0) 0 ≡ c.loop-m.m)
there c = let b = c.loop-m in index-found b.m b.invariant.0.rest b.invariant.1 (omega arith)

-- the index after that of the place that is filled
next : (c : In-loop-m) → c.loop-m.m - 1 + 1 ≡ c.loop-m.m
next c = omega arith

pub bounds-index-from : goal.bounds-index-from
bounds-index-from c =
    let b = c.loop-m in
    rw c.from.ensures (omega (arith, lengths (goal.at.bounds-index-from c).In-loop-m, last-bound b.m b.invariant.0.rest b.invariant.1 (omega arith)))

pub bounds-out-from : goal.bounds-out-from
bounds-out-from c = rw (c.from-in-loop-m.ensures, next (goal.at.bounds-out-from c).In-loop-m) (omega (arith, there (goal.at.bounds-out-from c).In-loop-m, lengths (goal.at.bounds-out-from c).In-loop-m))

pub overflow_add-out : goal.overflow_add-out
overflow_add-out c = rw (next (goal.at.overflow_add-out c).In-loop-m) (omega (arith, there (goal.at.overflow_add-out c).In-loop-m, lengths (goal.at.overflow_add-out c).In-loop-m))

pub loop-m-preserved : goal.loop-m-preserved
loop-m-preserved c =
    let b = c.loop-m in
    let t = there (goal.at.loop-m-preserved c).In-loop-m in
    let l = lengths (goal.at.loop-m-preserved c).In-loop-m in
    rw
    (c.from-in-loop-m.ensures, next (goal.at.loop-m-preserved c).In-loop-m)
    (left_step b.m _ b.invariant.0 t.0 t.1, indexed-move b.m b.invariant.0.rest b.invariant.1 _ _ l.0 l.1 t.0 c.from.ensures)

pub returns-clause-written : goal.returns-clause-written
returns-clause-written c = let e : c.loop-m.m ≡ 0 = omega arith in
    left_none (rw e at c.loop-m.invariant.0)
