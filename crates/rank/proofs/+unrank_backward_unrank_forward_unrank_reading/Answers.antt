-- Below the part that holds the place stands a row, into which n is put.
use mathlib.Core.Path.{◌≡◌}
use mathlib.Core.Bool.{true, false}
use Prim.Native.Nat.{ℕ, ◌+◌, ◌-◌, ◌≤◌, ◌<◌}
use native.Mathlib.Omega.{arith}
use Rattle.stirling.specs.Count.{c}
use Rattle.stirling.proofs.Counts.{inside}
use Rattle.gray.specs.Listing.{row_at}
use Rattle.rank.specs.Search.{reading_of, Listed, InFront}
use Rattle.rank.specs.Descent.{passed, Additions}
use Rattle.rank.proofs.Passed.{few_additions}
use Rattle.rank.proofs.Reading.{below-part, position_in}
use Rattle.rank.proofs.Filling.{identity_written, none_added, next_written, below_written, next_added}
use Rattle.rank.proofs.+unrank_backward_unrank_forward_unrank_reading.Goals.{unrank_reading-Joined-part, unrank_reading-then-part, unrank_reading-else-part}
use Rattle.rank.proofs.+unrank_backward_unrank_forward_unrank_reading.Goals as goal

-- where k = n the identity is written
pub unrank_reading-returns-then-n-k-clause-row : goal.unrank_reading-returns-then-n-k-clause-row
unrank_reading-returns-then-n-k-clause-row t s =
    let a = s.args in
    let r = s.requires.readable in
    identity_written a.n a.k a.place a.backward a.out.now s.write_identity.new.out s.if-n-k.true r.below r.lent s.write_identity.ensures

pub unrank_reading-returns-then-n-k-clause-counted : goal.unrank_reading-returns-then-n-k-clause-counted
unrank_reading-returns-then-n-k-clause-counted t s =
    let a = s.args in
    none_added a.n a.k a.place a.backward s.if-n-k.true s.requires.readable.below

-- else fewer cycles than n are left, so the list has blocks
listed : (n k place : ℕ) → ¬ (n ≡ k) → n ≤ 20 → place < c n k → Listed n k
listed n k place other small below =
    let (some, most) = inside n k place below in
    let first : 1 ≤ n = omega arith in
    record { small = (first, small); cycles = (some first, most) }

pub unrank_reading-part_at-part-requires : goal.unrank_reading-part_at-part-requires
unrank_reading-part_at-part-requires t s =
    let r = s.requires.readable in
    record { listed = (listed s.args.n s.args.k s.args.place s.if-n-k.false r.small r.below, r.below) }

pub unrank_reading-overflow_sub-n : goal.unrank_reading-overflow_sub-n
unrank_reading-overflow_sub-n t s =
    let r = s.requires.readable in
    (listed s.args.n s.args.k s.args.place s.if-n-k.false r.small r.below).small.0

pub unrank_reading-overflow_sub-n-else-part : goal.unrank_reading-overflow_sub-n-else-part
unrank_reading-overflow_sub-n-else-part t s =
    let r = s.requires.readable in
    (listed s.args.n s.args.k s.args.place s.if-n-k.false r.small r.below).small.0

-- what either call asks: n falls, and the list below may be read at the place within the part
pub unrank_reading-unrank_backward-additions-requires : goal.unrank_reading-unrank_backward-additions-requires
unrank_reading-unrank_backward-additions-requires t s =
    let r = s.requires.readable in
    let h = (listed s.args.n s.args.k s.args.place s.if-n-k.false r.small r.below).small.0 in (
      omega (arith, s.decreases, h),
      record { small = omega (arith, r.small); below = below-part h s.part_at-part.ensures; lent = omega (arith, r.lent) },
    )

pub unrank_reading-unrank_forward-additions-requires : goal.unrank_reading-unrank_forward-additions-requires
unrank_reading-unrank_forward-additions-requires t s =
    let r = s.requires.readable in
    let h = (listed s.args.n s.args.k s.args.place s.if-n-k.false r.small r.below).small.0 in (
      omega (arith, s.decreases, h),
      record { small = omega (arith, r.small); below = below-part h s.part_at-part.ensures; lent = omega (arith, r.lent) },
    )

-- after either call: the row below stands in front
below : (t : ℕ) (s : unrank_reading-Joined-part t)
    → let a = s.args in
    let q = s.part_at-part.result in
    InFront (a.n - 1) (row_at (reading_of q.below.backward (a.n - 1) q.below.cycles) (a.place - q.start)) a.out.now s.if-part.out
    × (s.if-part.additions ≡ passed (a.n - 1) q.below.cycles q.below.backward (row_at (reading_of q.below.backward (a.n - 1) q.below.cycles) (a.place - q.start)))
below t s =
    let a = s.args in
    let q = s.part_at-part.result in
    elim s.if-part.branch [
      | unrank_reading-then-part w ↦
          let e = w.unrank_backward-additions.ensures in
          below_written (a.n - 1) (a.place - q.start) q true w.if-part.true w.out-is w.additions-is (e.row, e.counted)
      | unrank_reading-else-part w ↦
          let e = w.unrank_forward-additions.ensures in
          below_written (a.n - 1) (a.place - q.start) q false w.if-part.false w.out-is w.additions-is (e.row, e.counted)
    ]

pub unrank_reading-put_in-requires : goal.unrank_reading-put_in-requires
unrank_reading-put_in-requires t s =
    let r = s.requires.readable in
    let in_list = position_in (listed s.args.n s.args.k s.args.place s.if-n-k.false r.small r.below).small.0 s.part_at-part.ensures in
    (in_list.0, in_list.1, r.small, omega (arith, s.if-part.auto.out, r.lent))

added : (t : ℕ) (s : unrank_reading-Joined-part t)
    → let a = s.args in
    Additions a.n a.k a.backward (row_at (reading_of a.backward a.n a.k) a.place) (s.part_at-part.result.additions + s.if-part.additions)
added t s =
    let a = s.args in
    let r = s.requires.readable in
    next_added a.n (listed a.n a.k a.place s.if-n-k.false r.small r.below).small.0 s.part_at-part.ensures r.below (below t s).1

-- and after n is put in
pub unrank_reading-overflow_add-result : goal.unrank_reading-overflow_add-result
unrank_reading-overflow_add-result t s =
    omega (arith, few_additions s.args.n _ s.requires.readable.small (added t (goal.at.unrank_reading-overflow_add-result t s).Joined-part).enough)

pub unrank_reading-returns-clause-row : goal.unrank_reading-returns-clause-row
unrank_reading-returns-clause-row t s =
    let r = s.requires.readable in
    let (written, same) = below t (goal.at.unrank_reading-returns-clause-row t s).Joined-part in
    rw s.put_in.ensures
    (next_written s.args.n (listed s.args.n s.args.k s.args.place s.if-n-k.false r.small r.below).small.0 s.part_at-part.ensures r.lent s.if-part.auto.out written)

pub unrank_reading-returns-clause-counted : goal.unrank_reading-returns-clause-counted
unrank_reading-returns-clause-counted t s = added t (goal.at.unrank_reading-returns-clause-counted t s).Joined-part
