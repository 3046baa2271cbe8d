use Prim.Native.Nat.{ℕ, ◌+◌, ◌≤◌}
use native.Mathlib.Omega.{arith}
use native.Mathlib.Numerals.{add-one}
use mathlib.Core.Path.{◌≡◌, refl, sym, ap, ◌∙◌}
use mathlib.Core.Bool.{true, false, not}
use mathlib.Core.List.{List}
use borrow.Author.Tests.{lt-ltb, le-ltb}
use lib.ListN.{length}
use Rattle.perm.specs.Permutation.{at}
use Rattle.perm.specs.Cycle.{follow, least}
use Rattle.perm.proofs.Search.{passed-position, found-position, exhausted-positions}
use Rattle.perm.proofs.Cycles.{follow-range}
use Rattle.tree.proofs.is_least.Invariants.{below}
use Rattle.tree.proofs.is_least.Goals.{In-loop-step}
use Rattle.tree.proofs.is_least.Goals as goal

-- the next step
step : (s : List ℕ) (i t : ℕ) {position : ℕ} → position ≡ follow s t i → at s position ≡ follow s (t + 1) i
unfolding follow
step s i t e = rw add-one (ap (at s) e)

-- the position is 1 to n
inside : (c : In-loop-step) → (1 ≤ c.loop-step.position) × (c.loop-step.position ≤ length c.args.s.now)
inside c =
    let p = c.requires in
    rw c.loop-step.invariant.0 (follow-range p.1 c.loop-step._step c.args.i p.2 p.3)

pub loop-step-init : goal.loop-step-init
unfolding follow
loop-step-init c = (refl, refl)

pub overflow_sub-position : goal.overflow_sub-position
overflow_sub-position c = omega (arith, inside (goal.at.overflow_sub-position c).In-loop-step)

pub bounds-s-position : goal.bounds-s-position
bounds-s-position c = omega (arith, inside (goal.at.bounds-s-position c).In-loop-step)

pub returns-then-position-i : goal.returns-then-position-i
unfolding least
returns-then-position-i c =
    let s = c.args.s.now in
    let i = c.args.i in
    let test : below s i (c.loop-step._step + 1) ≡ true = rw (← step s i c.loop-step._step c.loop-step.invariant.0, ← c.from-position.ensures) (lt-ltb _ _ c.if-position-i.true) in
    ap not (sym (found-position (below s i) (length s) c.loop-step._step c.loop-step.invariant.1 (omega arith) test))

pub loop-step-preserved : goal.loop-step-preserved
loop-step-preserved c =
    let s = c.args.s.now in
    let i = c.args.i in
    let next = c.from-position.ensures ∙ step s i c.loop-step._step c.loop-step.invariant.0 in
    let test : below s i (c.loop-step._step + 1) ≡ false = rw (← next) (le-ltb _ _ c.if-position-i.false) in
    (next, passed-position (below s i) (length s) c.loop-step._step c.loop-step.invariant.1 (omega arith) test)

pub returns : goal.returns
unfolding least
returns c =
    let s = c.args.s.now in
    ap not (sym (exhausted-positions (below s c.args.i) (length s) c.loop-step._step c.loop-step.invariant.1 (omega arith)))
