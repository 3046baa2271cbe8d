use Prim.Native.Nat.{ℕ, ◌+◌, ◌-◌, ◌*◌, ◌≤◌, ◌<◌}
use native.Mathlib.Nat.{add-mul, mul-le-mul_right}
use native.Mathlib.Omega.{arith}
use mathlib.Core.Path.{◌≡◌, refl, sym, ap, ◌∙◌}
use lib.ListN.{length}
use Rattle.gray.specs.Blocks.{blocks}
use Rattle.stirling.specs.Count.{c}
use Rattle.stirling.proofs.Counts.{fits}
use Rattle.gray.proofs.Indexed.{block}
use Rattle.rank.specs.declared.Stop.{Stop}
use Rattle.rank.specs.Search.{size_of, blocks_read, IsStop, Listed, HoldsPlace}
use Rattle.rank.specs.Spacing.{rows_apart}
use Rattle.rank.proofs.Going.{size_is, begins, at_block, stops, next_start, may-pass, goes_on}
use Rattle.rank.proofs.Parts.{holds_place}
use Rattle.rank.proofs.Reading.{position_in}
use Rattle.rank.proofs.Paging.{listed-rows, row_written, none_written, part-start, part-size, once, length_lent, length-once, block_written}
use Rattle.rank.proofs.RowBytes.{rows_of}
use Rattle.rank.proofs.+fill_rows.Goals.{After-part_of-part, After-put_apart, After-size_at-size, After-fill_rows, At-loop-stop, Else-count-eq1}
use Rattle.rank.proofs.+fill_rows.Goals as goal

-- two rows or more are asked for, so the list has blocks
listed : (t : ℕ) (c : Else-count-eq1 t) → Listed c.args.n c.args.k
listed t c =
    let f = c.requires.fillable in
    listed-rows c.args.n c.args.k c.args.place c.args.count f.small c.if-count-eq1.false f.some f.rows

-- there is a block at hand, in a list that has blocks
left : (t : ℕ) (l : At-loop-stop t) → Listed l.args.n l.args.k → l.loop-stop.stop.number < length (blocks l.args.n l.args.k)
left t l w = at_block w l.loop-stop.invariant.1 (omega (arith, l.loop-stop.invariant.0, l.requires.fillable.rows)) l.loop-stop.invariant.2

-- and its size is at hand
is-size : (t : ℕ) (s : After-size_at-size t)
    → s.loop-stop.stop.number < length (blocks s.args.n s.args.k)
    → s.size_at-size.result ≡ size_of s.args.n s.args.k (block (blocks_read s.args.n s.args.k s.args.backward) s.loop-stop.stop.number)
is-size t s h = s.size_at-size.ensures ∙ size_is s.sizes_of-sizes.ensures h

-- from here on the block at hand has rows that are asked for: what is known of the list, the stop and the size
at_hand : (t : ℕ) (q : After-part_of-part t)
    → let a = q.args in
    Listed a.n a.k × (q.loop-stop.stop.number < length (blocks a.n a.k)) × IsStop a.n a.k a.backward q.loop-stop.stop
    × (q.size_at-size.result ≡ size_of a.n a.k (block (blocks_read a.n a.k a.backward) q.loop-stop.stop.number))
at_hand t q =
    let f = q.requires.fillable in
    let w : Listed q.args.n q.args.k = listed-rows q.args.n q.args.k q.args.place q.args.count f.small q.if-count-eq1.false f.some f.rows in
    let h : q.loop-stop.stop.number < length (blocks q.args.n q.args.k) =
    at_block w q.loop-stop.invariant.1 (omega (arith, q.loop-stop.invariant.0, f.rows)) q.loop-stop.invariant.2 in
    (w, h, stops w q.loop-stop.invariant.1 h, q.size_at-size.ensures ∙ size_is q.sizes_of-sizes.ensures h)

-- its part holds the next row
holds : (t : ℕ) (q : After-part_of-part t) → HoldsPlace q.args.n q.args.k q.args.backward (q.args.place + q.loop-stop.done) q.part_of-part.result
holds t q =
    let i = q.loop-stop.invariant in
    let (w, h, stop, size) = at_hand t q in
    holds_place w.small.0 stop
    (omega (arith, i.1.start_is, i.2), omega (arith, next_start w i.1 h size, i.2, q.if-size-from.false))
    q.part_of-part.ensures

-- and so many of its rows are written
here_in : (t : ℕ) (q : After-part_of-part t)
    → let here = q.min-here.result in
    (1 ≤ here) × (q.loop-stop.done + here ≤ q.args.count) × (q.args.place + q.loop-stop.done - q.loop-stop.stop.start + here ≤ c (q.args.n - 1) q.part_of-part.result.below.cycles)
here_in t q =
    let (w, h, stop, same) = at_hand t q in
    let size = part-size stop q.part_of-part.ensures same in
    let some = q.if-size-from.false in
    let more = q.loop-stop.invariant.0 in
    let least = q.min-here.ensures in
    (omega arith, omega arith, omega arith)

-- the part that the block's rows fill is in the slice
room : (t : ℕ) (q : After-part_of-part t) → q.loop-stop.done * q.args.apart + q.min-here.result * q.args.apart ≤ length q.loop-stop.out
room t q =
    let here = q.min-here.result in
    omega (arith, add-mul q.loop-stop.done here q.args.apart, mul-le-mul_right q.args.apart (here_in t q).1, q.requires.fillable.lent, q.loop-stop.invariant.3)

-- the slice after the rows below have come back is as long as it was
back : (t : ℕ) (w : After-fill_rows t)
    → let from = w.loop-stop.done * w.args.apart in
    let size = w.min-here.result * w.args.apart in
    from + size ≤ length w.loop-stop.out → length (once from (from + size - from) w.loop-stop.out w.fill_rows.new.out) ≡ length w.loop-stop.out
back t w r = length-once (w.loop-stop.done * w.args.apart) (w.min-here.result * w.args.apart) w.loop-stop.out w.fill_rows.new.out r w.fill_rows.auto.out

-- after both calls the block's rows are written too
written : (t : ℕ) (z : After-put_apart t)
    → let a = z.args in
    let from = z.loop-stop.done * a.apart in
    let here = z.min-here.result in
    let size = here * a.apart in
    Listed a.n a.k → IsStop a.n a.k a.backward z.loop-stop.stop
    → HoldsPlace a.n a.k a.backward (a.place + z.loop-stop.done) z.part_of-part.result
    → (1 ≤ here) × (z.loop-stop.done + here ≤ a.count) × (a.place + z.loop-stop.done - z.loop-stop.stop.start + here ≤ c (a.n - 1) z.part_of-part.result.below.cycles)
    → from + size ≤ length z.loop-stop.out
    → length (once from (from + size - from) z.loop-stop.out z.fill_rows.new.out) ≡ length z.loop-stop.out
    → let out = once from (from + size - from) (once from (from + size - from) z.loop-stop.out z.fill_rows.new.out) z.put_apart.new.out in
    (length out ≡ length a.out.now) × (out ≡ rows_apart a.apart (rows_of a.backward a.n a.k a.place (z.loop-stop.done + here)) a.out.now)
written t z w stop holding many r same =
    let a = z.args in
    let from = z.loop-stop.done * a.apart in
    let here = z.min-here.result in
    let size = here * a.apart in
    let f = z.requires.fillable in
    let i = z.loop-stop.invariant in
    let last = z.put_apart.new.out in
    let first-is : a.place + z.loop-stop.done - z.loop-stop.stop.start ≡ a.place + z.loop-stop.done - z.part_of-part.result.start =
    ap (λ (x : ℕ). a.place + z.loop-stop.done - x) (sym (part-start stop z.part_of-part.ensures)) in
    let gap : from + size - from ≡ here * a.apart = omega arith in
    let bytes : (z.loop-stop.done + here) * a.apart ≤ length a.out.now = omega (arith, add-mul z.loop-stop.done here a.apart, r, i.3) in (
      length-once from size (once from (from + size - from) z.loop-stop.out z.fill_rows.new.out) last (rw same r) z.put_apart.auto.out ∙ same ∙ i.3,
      block_written a.n a.place z.loop-stop.done here a.apart _ (from + size - from) a.out.now z.loop-stop.out
          z.fill_rows.new.out last first-is gap w.small.0 f.wide holding
          (omega (arith, many.1, f.rows)) many.2 bytes i.3 i.4
          z.fill_rows.auto.out z.fill_rows.ensures z.put_apart.ensures,
    )

pub returns-then-count-eq1 : goal.returns-then-count-eq1
returns-then-count-eq1 t c =
    let a = c.args in
    let f = c.requires.fillable in
    row_written a.backward a.n a.k a.place a.count a.apart a.out.now _ c.if-count-eq1.true f.rows f.wide f.lent c.unrank_reading.ensures.row

pub sizes_of-sizes-requires : goal.sizes_of-sizes-requires
sizes_of-sizes-requires t c = record { listed = listed t c }

pub loop-stop-init : goal.loop-stop-init
loop-stop-init t c =
    let a = c.args in (
      omega (arith, c.requires.fillable.some),
      begins a.n a.k a.backward _ (omega arith) (omega arith) (omega arith),
      omega arith,
      refl,
      none_written a.backward a.n a.k a.place a.apart a.out.now,
    )

pub overflow_add-from : goal.overflow_add-from
overflow_add-from t c =
    let f = c.requires.fillable in
    omega (arith, fits c.args.n c.args.k f.small, f.rows, c.loop-stop.invariant.0)

pub pass-stop-requires : goal.pass-stop-requires
pass-stop-requires t c =
    may-pass (listed t (goal.at.pass-stop-requires t c).Else-count-eq1) c.loop-stop.invariant.1 (left t (goal.at.pass-stop-requires t c).At-loop-stop (listed t (goal.at.pass-stop-requires t c).Else-count-eq1)) (is-size t (goal.at.pass-stop-requires t c).After-size_at-size (left t (goal.at.pass-stop-requires t c).At-loop-stop (listed t (goal.at.pass-stop-requires t c).Else-count-eq1)))

pub loop-stop-smaller-then-size-from : goal.loop-stop-smaller-then-size-from
loop-stop-smaller-then-size-from t c =
    omega (arith, left t (goal.at.loop-stop-smaller-then-size-from t c).At-loop-stop (listed t (goal.at.loop-stop-smaller-then-size-from t c).Else-count-eq1), ap (λ (s : Stop). s.number) c.pass-stop.ensures)

pub loop-stop-preserved-then-size-from : goal.loop-stop-preserved-then-size-from
loop-stop-preserved-then-size-from t c =
    let i = c.loop-stop.invariant in
    rw c.pass-stop.ensures
    (i.0, goes_on (listed t (goal.at.loop-stop-preserved-then-size-from t c).Else-count-eq1) i.1 (left t (goal.at.loop-stop-preserved-then-size-from t c).At-loop-stop (listed t (goal.at.loop-stop-preserved-then-size-from t c).Else-count-eq1)) (is-size t (goal.at.loop-stop-preserved-then-size-from t c).After-size_at-size (left t (goal.at.loop-stop-preserved-then-size-from t c).At-loop-stop (listed t (goal.at.loop-stop-preserved-then-size-from t c).Else-count-eq1))), omega (arith, i.2, c.if-size-from.true), i.3, i.4)

pub part_of-part-requires : goal.part_of-part-requires
part_of-part-requires t c = (listed t (goal.at.part_of-part-requires t c).Else-count-eq1, stops (listed t (goal.at.part_of-part-requires t c).Else-count-eq1) c.loop-stop.invariant.1 (left t (goal.at.part_of-part-requires t c).At-loop-stop (listed t (goal.at.part_of-part-requires t c).Else-count-eq1)))

pub overflow_add-end : goal.overflow_add-end
overflow_add-end t c = omega (arith, room t c)

pub overflow_sub-n : goal.overflow_sub-n
overflow_sub-n t c = (listed t (goal.at.overflow_sub-n t c).Else-count-eq1).small.0

pub slice_bounds-fill_rows-end : goal.slice_bounds-fill_rows-end
slice_bounds-fill_rows-end t c = omega (arith, room t c)

pub fill_rows-requires : goal.fill_rows-requires
fill_rows-requires t c =
    let f = c.requires.fillable in
    let some = (listed t (goal.at.fill_rows-requires t c).Else-count-eq1).small.0 in
    let many = here_in t (goal.at.fill_rows-requires t c).After-part_of-part in (
      omega (arith, c.decreases),
      record { small = omega (arith, f.small); some = many.0; rows = many.2; wide = omega (arith, f.wide); lent = rw (length_lent (c.loop-stop.done * c.args.apart) (c.min-here.result * c.args.apart) c.loop-stop.out (room t (goal.at.fill_rows-requires t c).After-part_of-part)) (omega arith) },
    )

pub put_apart-requires : goal.put_apart-requires
put_apart-requires t c =
    let f = c.requires.fillable in
    let in_list = position_in (listed t (goal.at.put_apart-requires t c).Else-count-eq1).small.0 (holds t (goal.at.put_apart-requires t c).After-part_of-part) in
    (in_list.0, in_list.1, f.small, f.wide, rw (length_lent (c.loop-stop.done * c.args.apart) (c.min-here.result * c.args.apart) (once (c.loop-stop.done * c.args.apart) ((c.loop-stop.done * c.args.apart) + (c.min-here.result * c.args.apart) - (c.loop-stop.done * c.args.apart)) c.loop-stop.out c.fill_rows.new.out) (rw (back t (goal.at.put_apart-requires t c).After-fill_rows (room t (goal.at.put_apart-requires t c).After-part_of-part)) (room t (goal.at.put_apart-requires t c).After-part_of-part))) (omega arith))

pub returns-then-done-count : goal.returns-then-done-count
returns-then-done-count t c =
    let all : _ ≡ _ = c.if-done-count.true in
    rw all at (written t (goal.at.returns-then-done-count t c).After-put_apart (at_hand t (goal.at.returns-then-done-count t c).After-part_of-part).0 (at_hand t (goal.at.returns-then-done-count t c).After-part_of-part).2 (holds t (goal.at.returns-then-done-count t c).After-part_of-part) (here_in t (goal.at.returns-then-done-count t c).After-part_of-part) (room t (goal.at.returns-then-done-count t c).After-part_of-part) (back t (goal.at.returns-then-done-count t c).After-fill_rows (room t (goal.at.returns-then-done-count t c).After-part_of-part))).1

pub loop-stop-preserved : goal.loop-stop-preserved
loop-stop-preserved t c =
    let many = here_in t (goal.at.loop-stop-preserved t c).After-part_of-part in
    let w = written t (goal.at.loop-stop-preserved t c).After-put_apart (at_hand t (goal.at.loop-stop-preserved t c).After-part_of-part).0 (at_hand t (goal.at.loop-stop-preserved t c).After-part_of-part).2 (holds t (goal.at.loop-stop-preserved t c).After-part_of-part) (here_in t (goal.at.loop-stop-preserved t c).After-part_of-part) (room t (goal.at.loop-stop-preserved t c).After-part_of-part) (back t (goal.at.loop-stop-preserved t c).After-fill_rows (room t (goal.at.loop-stop-preserved t c).After-part_of-part)) in
    (omega (arith, many.1, c.if-done-count.false), c.loop-stop.invariant.1, omega (arith, c.loop-stop.invariant.2), w.0, w.1)
