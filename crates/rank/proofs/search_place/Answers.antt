use mathlib.Core.Path.{◌≡◌, ap, ◌∙◌}
use Prim.Native.Nat.{◌<◌}
use native.Mathlib.Omega.{arith}
use lib.ListN.{length}
use Rattle.gray.specs.Blocks.{blocks}
use Rattle.gray.proofs.Indexed.{block}
use Rattle.rank.specs.declared.Stop.{Stop}
use Rattle.rank.specs.Search.{size_of, blocks_read}
use Rattle.rank.proofs.Going.{size_is, begins, at_block, stops, next_start, may-pass, goes_on}
use Rattle.rank.proofs.search_place.Goals.{After-size_at-size, At-loop-stop}
use Rattle.rank.proofs.search_place.Goals as goal

-- there is a block at hand
left : (l : At-loop-stop) → l.loop-stop.stop.number < length (blocks l.args.n l.args.k)
left l = at_block l.requires.listed.0 l.loop-stop.invariant.0 l.requires.listed.1 l.loop-stop.invariant.1

-- and the size that is added is its own
is-size : (c : After-size_at-size)
    → c.size_at-size.result ≡ size_of c.args.n c.args.k (block (blocks_read c.args.n c.args.k c.args.backward) c.loop-stop.stop.number)
is-size c = c.size_at-size.ensures ∙ size_is c.sizes_of-sizes.ensures (at_block c.requires.listed.0 c.loop-stop.invariant.0 c.requires.listed.1 c.loop-stop.invariant.1)

pub loop-stop-init : goal.loop-stop-init
loop-stop-init c = let a = c.args in (begins a.n a.k a.backward _ (omega arith) (omega arith) (omega arith), omega arith)

pub returns-then-place-stop : goal.returns-then-place-stop
returns-then-place-stop c =
    let w = c.requires.listed.0 in record {
      stop = stops w c.loop-stop.invariant.0 (left (goal.at.returns-then-place-stop c).At-loop-stop);
      place = (
        omega (arith, c.loop-stop.invariant.0.start_is, c.loop-stop.invariant.1),
        omega (arith, next_start w c.loop-stop.invariant.0 (left (goal.at.returns-then-place-stop c).At-loop-stop) (is-size (goal.at.returns-then-place-stop c).After-size_at-size), c.loop-stop.invariant.1, c.if-place-stop.true),
      );
    }

pub pass-stop-requires : goal.pass-stop-requires
pass-stop-requires c =
    may-pass c.requires.listed.0 c.loop-stop.invariant.0 (left (goal.at.pass-stop-requires c).At-loop-stop) (is-size (goal.at.pass-stop-requires c).After-size_at-size)

pub loop-stop-smaller : goal.loop-stop-smaller
loop-stop-smaller c =
    omega (arith, left (goal.at.loop-stop-smaller c).At-loop-stop, ap (λ (s : Stop). s.number) c.pass-stop.ensures)

pub loop-stop-preserved : goal.loop-stop-preserved
loop-stop-preserved c =
    rw c.pass-stop.ensures
    (goes_on c.requires.listed.0 c.loop-stop.invariant.0 (left (goal.at.loop-stop-preserved c).At-loop-stop) (is-size (goal.at.loop-stop-preserved c).After-size_at-size), omega (arith, c.loop-stop.invariant.1, c.if-place-stop.false))
