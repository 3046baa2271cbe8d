-- `moves::make_moves` meets its contract. The loop's invariant is `Making`: the moves before the bytes that are left are made. Assumes nothing.
use Rattle.std.specs.Slice.Iter.{chunks_exact_rest, chunks_exact_size}
use mathlib.Core.Path.{◌≡◌}
use Rattle.moves.proofs.Making.{Making}
use Rattle.moves.proofs.make_moves.Given as goal

abbrev pub invariant-loop-pair : goal.invariant-loop-pair
invariant-loop-pair l =
    (goal.iterator-loop-pair).can_next l.pair-iterator
    × (goal.iterator-loop-pair).is_finite l.pair-iterator
    × (chunks_exact_size l.pair-iterator ≡ 2)
    × Making l.list l.initial.state l.state (chunks_exact_rest l.pair-iterator)
