-- The part that the last entry names starts at a place, and the place of the other entries' permutation in the list below is added.
use mathlib.Core.Path.{◌≡◌}
use Prim.Native.Nat.{ℕ, ◌+◌, ◌-◌, ◌*◌, ◌<◌}
use native.Mathlib.Omega.{arith}
use lib.ListN.{length, take}
use lib.Seq.{length-take-le}
use Rattle.stirling.proofs.Counts.{fits}
use Rattle.perm.specs.Array.{product}
use Rattle.rank.specs.Ranking.{Rankable, PlaceIn}
use Rattle.rank.specs.Descent.{passed, Additions}
use Rattle.rank.proofs.Passed.{few_additions}
use Rattle.rank.proofs.Descending.{last-occurs, last-rankable, ranked, from-below, only_ranked, some_entry}
use Rattle.rank.proofs.+rank_backward_rank_forward_rank_reading.Goals.{rank_reading-After-part_with-part, rank_reading-Joined-part, rank_reading-then-part, rank_reading-else-part}
use Rattle.rank.proofs.+rank_backward_rank_forward_rank_reading.Goals as goal

pub rank_reading-returns-then-n-k-clause-place : goal.rank_reading-returns-then-n-k-clause-place
rank_reading-returns-then-n-k-clause-place t c = (only_ranked c.requires.rankable c.args.backward c.if-n-k.true).0

pub rank_reading-returns-then-n-k-clause-counted : goal.rank_reading-returns-then-n-k-clause-counted
rank_reading-returns-then-n-k-clause-counted t c = (only_ranked c.requires.rankable c.args.backward c.if-n-k.true).1

-- there is an entry of the array
pub rank_reading-overflow_sub-last : goal.rank_reading-overflow_sub-last
rank_reading-overflow_sub-last t c = some_entry c.requires.rankable c.if-n-k.false

pub rank_reading-bounds-a-last : goal.rank_reading-bounds-a-last
rank_reading-bounds-a-last t c = omega (arith, some_entry c.requires.rankable c.if-n-k.false)

pub rank_reading-part_with-part-requires : goal.rank_reading-part_with-part-requires
rank_reading-part_with-part-requires t c =
    record { occurs = rw c.from.ensures (last-occurs c.requires.rankable (some_entry c.requires.rankable c.if-n-k.false) c.args.backward) }

-- what either call asks: n falls, since n − 1 entries stand before the last, and these are an array for the list below
asks : (t : ℕ) (c : rank_reading-After-part_with-part t)
    → let a = c.args.a.now in
    (2 * length (take (length a - 1) a) + 1 < t) × Rankable (take (length a - 1) a) c.part_with-part.result.below.cycles
asks t c =
    let a = c.args.a.now in
    let h = some_entry c.requires.rankable c.if-n-k.false in
    let size : length (take (length a - 1) a) ≡ length a - 1 = length-take-le (length a - 1) a (omega arith) in
    (omega (arith, size, c.decreases, h), rw (c.part_with-part.ensures, c.from.ensures) (last-rankable c.requires.rankable h c.args.backward))

pub rank_reading-rank_backward-below-requires : goal.rank_reading-rank_backward-below-requires
rank_reading-rank_backward-below-requires t c = asks t (goal.at.rank_reading-rank_backward-below-requires t c).After-part_with-part

pub rank_reading-rank_forward-below-requires : goal.rank_reading-rank_forward-below-requires
rank_reading-rank_forward-below-requires t c = asks t (goal.at.rank_reading-rank_forward-below-requires t c).After-part_with-part

-- after either call
found : (t : ℕ) (c : rank_reading-Joined-part t)
    → let a = c.args.a.now in
    PlaceIn c.args.backward (length a) c.args.k (product a) (c.part_with-part.result.start + c.if-part.below.starts)
    × Additions (length a) c.args.k c.args.backward (product a) (c.part_with-part.result.additions + c.if-part.below.additions)
found t c =
    let h = some_entry c.requires.rankable c.if-n-k.false in
    let a = c.args.a.now in
    let q = c.part_with-part.result in
    let both : PlaceIn q.below.backward (length a - 1) q.below.cycles (product (take (length a - 1) a)) c.if-part.below.starts
    × (c.if-part.below.additions ≡ passed (length a - 1) q.below.cycles q.below.backward (product (take (length a - 1) a))) =
    elim c.if-part.branch [
      | rank_reading-then-part w ↦ let e = w.rank_backward-below.ensures in from-below a q h w.if-part.true w.below-is (e.place, e.counted)
      | rank_reading-else-part w ↦ let e = w.rank_forward-below.ensures in from-below a q h w.if-part.false w.below-is (e.place, e.counted)
    ] in
    ranked c.requires.rankable h c.args.backward (rw c.from.ensures at c.part_with-part.ensures) both.0 both.1

pub rank_reading-overflow_add-result : goal.rank_reading-overflow_add-result
rank_reading-overflow_add-result t c =
    let f = found t (goal.at.rank_reading-overflow_add-result t c).Joined-part in
    record { fits = omega (arith, f.0.below, fits (length c.args.a.now) c.args.k c.requires.rankable.small) }

pub rank_reading-overflow_add-result-2 : goal.rank_reading-overflow_add-result-2
rank_reading-overflow_add-result-2 t c =
    let f = found t (goal.at.rank_reading-overflow_add-result-2 t c).Joined-part in
    omega (arith, few_additions (length c.args.a.now) _ c.requires.rankable.small f.1.enough)

pub rank_reading-returns-clause-place : goal.rank_reading-returns-clause-place
rank_reading-returns-clause-place t c = (found t (goal.at.rank_reading-returns-clause-place t c).Joined-part).0

pub rank_reading-returns-clause-counted : goal.rank_reading-returns-clause-counted
rank_reading-returns-clause-counted t c = (found t (goal.at.rank_reading-returns-clause-counted t c).Joined-part).1
