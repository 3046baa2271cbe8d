use Prim.Native.Nat.{◌+◌, ◌*◌, ◌≤◌}
use native.Mathlib.Omega.{arith}
use mathlib.Core.Path.{◌≡◌, refl, ap, ◌∙◌}
use lib.ListN.{length, get_or, set, length-set}
use Rattle.perm.specs.Pairs.{bytes_of, front}
use Rattle.exchanges.specs.Pairs.{pairs_to}
use Rattle.perm.proofs.Pairs.{length_front, front-step}
use Rattle.exchanges.proofs.Pairs.{pairs-fixed, pairs-moved, length_moved, pairs_number, pairs_room}
use Rattle.exchanges.proofs.write_pairs.Goals.{In-loop-i, then-entry-position, else-entry-position}
use Rattle.exchanges.proofs.write_pairs.Goals as goal

module _ (c : In-loop-i) (moved : get_or c.args.entries.now c.loop-i.i 0 ≡ c.loop-i.i + 1 → ⊥) where
  -- where a pair is written, `out` is as long as it was, and there is room
  room : (length c.loop-i.out ≡ length c.args.out.now)
      × (c.loop-i.at + 2 ≤ length c.args.out.now)
      × (c.loop-i.at ≤ 40)
  room =
      let entries = c.args.entries.now in
      let i = c.loop-i.i in
      let more = pairs_room entries i (length entries) (omega arith) moved in
      let most = c.requires.1 in
      let same = length_front (pairs_to entries i) c.args.out.now (omega (arith, more, most)) in
      let few = pairs_number entries i in
      (ap length c.loop-i.invariant.1 ∙ same, omega (arith, c.loop-i.invariant.0, more, most), omega (arith, c.loop-i.invariant.0, c.requires.0, few))

  -- and then it is that of one entry more
  written : let entries = c.args.entries.now in
      let i = c.loop-i.i in
      let at = c.loop-i.at in
      (at + 2 ≡ 2 * length (pairs_to entries (i + 1)))
      × (set (set c.loop-i.out at (get_or entries i 0)) (at + 1) (i + 1) ≡ front (pairs_to entries (i + 1)) c.args.out.now)
  written =
      let entries = c.args.entries.now in
      let i = c.loop-i.i in
      let step = front-step (pairs_to entries i) c.args.out.now (get_or entries i 0) (i + 1) (omega (arith, c.loop-i.invariant.0, room)) in
      (omega (arith, c.loop-i.invariant.0, length_moved entries i moved), rw (c.loop-i.invariant.1, c.loop-i.invariant.0, pairs-moved entries i moved) step)

pub loop-i-init : goal.loop-i-init
unfolding pairs_to bytes_of
loop-i-init c = (refl, refl)

pub bounds-out-at : goal.bounds-out-at
bounds-out-at c =
    omega (arith, room (goal.at.bounds-out-at c).In-loop-i c.if-entry-position.true)

pub bounds-out-at-then-entry-position : goal.bounds-out-at-then-entry-position
bounds-out-at-then-entry-position c =
    rw length-set (omega (arith, room (goal.at.bounds-out-at-then-entry-position c).In-loop-i c.if-entry-position.true))

pub overflow_add-at : goal.overflow_add-at
overflow_add-at c =
    omega (arith, room (goal.at.overflow_add-at c).In-loop-i c.if-entry-position.true)

pub loop-i-preserved : goal.loop-i-preserved
loop-i-preserved c =
    let here = (goal.at.loop-i-preserved c).In-loop-i in
    elim c.if-entry-position.branch [
      | then-entry-position w ↦ rw (w.at-is, w.out-is) (written here w.if-entry-position.true)
      | else-entry-position w ↦ let fixed = pairs-fixed c.args.entries.now c.loop-i.i w.if-entry-position.false in rw (w.at-is, w.out-is, fixed) c.loop-i.invariant
    ]
