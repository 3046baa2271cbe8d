use mathlib.Core.Path.{◌≡◌, ◌∙◌}
use native.Mathlib.Omega.{arith}
use mathlib.Core.Bool.{false≢true}
use mathlib.Core.List.{◌++◌}
use lib.ListN.{length}
use Rattle.std.specs.Slice.Iter.{chunks_exact_rest}
use Rattle.moves.proofs.Making.{making-all, making-empty, making-occupied, making-step}
use Rattle.moves.proofs.make_moves.Goals.{In-Some}
use Rattle.moves.proofs.make_moves.Goals as goal

-- the bytes that are left are those of the next move, and the rest
read : (c : In-Some)
    → (chunks_exact_rest c.loop-pair.pair-iterator ≡ c.in-Some.pair.now ++ chunks_exact_rest c.next.new.self)
    × (length c.in-Some.pair.now ≡ 2)
read c = let r = c.in-Some.ensures.steps.1 in (r.0, r.1 ∙ c.loop-pair.invariant.2)

pub returns-then-state-from-eq0 : goal.returns-then-state-from-eq0
returns-then-state-from-eq0 c =
    let r = read (goal.at.returns-then-state-from-eq0 c).In-Some in
    (making-empty c.loop-pair.invariant.3 _ _ r.0 r.1 (rw (← c.from-from.ensures) (omega (arith, c.if-state-from-eq0.true))), λ e. absurd (false≢true e))

pub returns-then-state-to-ne0 : goal.returns-then-state-to-ne0
returns-then-state-to-ne0 c =
    let r = read (goal.at.returns-then-state-to-ne0 c).In-Some in
    (making-occupied c.loop-pair.invariant.3 _ _ r.0 r.1 (rw (← c.from-to.ensures) (λ z. omega (arith, z, c.if-state-to-ne0.true))), λ e. absurd (false≢true e))

pub loop-pair-preserved : goal.loop-pair-preserved
loop-pair-preserved c =
    let r = read (goal.at.loop-pair-preserved c).In-Some in
    let size = c.in-Some.ensures.steps.0 in
    let made = making-step c.loop-pair.invariant.3 _ _ r.0 r.1 (rw (← c.from-from.ensures) (λ z. omega (arith, z, c.if-state-from-eq0.false))) (rw (← c.from-to.ensures) (omega (arith, c.if-state-to-ne0.false))) in
    (omega (arith, size, c.loop-pair.invariant.0), tt, size ∙ c.loop-pair.invariant.2, rw (c.from-from.ensures, c.from-to.ensures) made)

pub returns : goal.returns
returns c =
    let all = making-all c.loop-pair.invariant.3 (omega (arith, c.in-None.ensures.steps.1.0, c.loop-pair.invariant.2)) in
    (all.0, λ e. all.1)
