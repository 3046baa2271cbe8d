use native.Mathlib.Omega.{arith}
use native.Mathlib.Numerals.{add-one}
use mathlib.Core.Path.{◌≡◌, sym, subst, ◌∙◌}
use Prim.Native.Nat.{ℕ, suc, ◌+◌, ◌-◌, ◌≤◌}
use lib.ListN.{length}
use Rattle.tree.specs.Kind.{rule_of}
use Rattle.tree.specs.Listing.{row_at}
use Rattle.tree.specs.Sizes.{usable_below}
use Rattle.tree.specs.Search.{rows, FallsTo}
use Rattle.tree.proofs.Descent.{some_remain, swap-exchange, Down, down_child, down_behind}
use Rattle.tree.proofs.Table.+unrank_from.Goals.{Else-place-eq0, After-swap, In-Behind}
use Rattle.tree.proofs.Table.+unrank_from.Goals as goal

-- a place other than 0, and so a position that remains
remains : (t : ℕ) (c : Else-place-eq0 t) → 1 ≤ c.args.branch.remaining
remains t c = some_remain c.args.self.now.kind c.args.branch.usable c.args.branch.remaining c.args.place (omega arith) c.requires.1

-- the step to a child
to_child : (t : ℕ) (c : After-swap t) → 1 ≤ c.args.branch.remaining
    → let a = c.args in Down a.self.now.kind a.branch.remaining a.place a.s.now (usable_below a.self.now.kind a.branch.usable) c.in-Child.place c.swap.new.self
to_child t c some =
    let kind = c.args.self.now.kind in
    let m = c.args.branch.remaining in
    let s = c.args.s.now in
    let w = c.requires.0 in
    let falls : FallsTo kind s (length s - m) c.child_size.result (c.args.place - 1) c.in-Child.position c.in-Child.place = c.in-Child.ensures in
    rw (c.swap.ensures.after, swap-exchange s c.in-Child.position (length s - m) falls.least (omega (arith, falls.most)) (omega (arith, w.room)))
    (down_child kind m w some (omega arith) (rw c.child_size.ensures at falls))

-- and the one behind all children
to_behind : (t : ℕ) (c : In-Behind t) → 1 ≤ c.args.branch.remaining
    → let a = c.args in Down a.self.now.kind a.branch.remaining a.place a.s.now (suc a.branch.usable) (suc c.in-Behind.place) a.s.now
to_behind t c some = down_behind c.args.self.now.kind c.args.branch.remaining c.requires.0 some (omega arith) c.requires.1 (rw c.child_size.ensures at c.in-Behind.ensures)

pub child_size-requires : goal.child_size-requires
child_size-requires t c = remains t (goal.at.child_size-requires t c).Else-place-eq0

pub swap-requires-clause-b_in_bounds : goal.swap-requires-clause-b_in_bounds
swap-requires-clause-b_in_bounds t c = omega (arith, remains t (goal.at.swap-requires-clause-b_in_bounds t c).Else-place-eq0, c.requires.0.room)

pub child-requires : goal.child-requires
child-requires t c = remains t (goal.at.child-requires t c).Else-place-eq0

pub behind-requires : goal.behind-requires
behind-requires t c = remains t (goal.at.behind-requires t c).Else-place-eq0

pub unrank_from-requires : goal.unrank_from-requires
unrank_from-requires t c =
    let here = goal.at.unrank_from-requires t c in
    let some = remains t here.Else-place-eq0 in
    let step = to_child t here.After-swap some in
    rw (c.child.ensures.remaining, c.child.ensures.usable) (omega arith, (step.stands, step.inside))

pub unrank_from-requires-in-Behind : goal.unrank_from-requires-in-Behind
unrank_from-requires-in-Behind t c =
    let here = goal.at.unrank_from-requires-in-Behind t c in
    let some = remains t here.Else-place-eq0 in
    let step = to_behind t here.In-Behind some in
    rw (c.behind.ensures.remaining, c.behind.ensures.usable, add-one) (omega arith, (step.stands, step.inside))

pub returns-in-Child : goal.returns-in-Child
returns-in-Child t c =
    let here = goal.at.returns-in-Child t c in
    let rule = rule_of c.args.self.now.kind in
    let s = c.swap.new.self in
    subst (λ (m : ℕ). c.unrank_from.new.s ≡ row_at (rows rule (length s - m) m s) c.in-Child.place) c.child.ensures.remaining c.unrank_from.ensures
    ∙ sym (to_child t here.After-swap (remains t here.Else-place-eq0)).row

pub returns-in-Behind : goal.returns-in-Behind
returns-in-Behind t c =
    let here = goal.at.returns-in-Behind t c in
    let rule = rule_of c.args.self.now.kind in
    let s = c.args.s.now in
    let row = subst (λ (m : ℕ). c.unrank_from-in-Behind.new.s ≡ row_at (rows rule (length s - m) m s) (c.in-Behind.place + 1)) c.behind.ensures.remaining c.unrank_from-in-Behind.ensures in
    subst (λ (q : ℕ). c.unrank_from-in-Behind.new.s ≡ row_at (rows rule (length s - (c.args.branch.remaining - 1)) (c.args.branch.remaining - 1) s) q) (add-one c.in-Behind.place) row
    ∙ sym (to_behind t here.In-Behind (remains t here.Else-place-eq0)).row
