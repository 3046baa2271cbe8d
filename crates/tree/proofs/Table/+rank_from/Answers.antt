use native.Mathlib.Omega.{arith}
use native.Mathlib.Numerals.{add-one}
use mathlib.Core.Path.{◌≡◌, ◌∙◌}
use Prim.Native.Nat.{ℕ, suc, ◌+◌, ◌-◌, ◌*◌, ◌<◌, ◌≤◌}
use lib.ListN.{length, get_or}
use Rattle.perm.specs.Array.{product}
use Rattle.tree.specs.Kind.{rule_of}
use Rattle.tree.specs.Listing.{row_at}
use Rattle.tree.specs.Sizes.{size}
use Rattle.tree.specs.Search.{rows}
use Rattle.tree.proofs.Descent.{size_some, leads-end, to_behind, next-bound, next-child, child-long, leads-child, leads-behind, passed-most, same-branch}
use Rattle.tree.proofs.Table.+rank_from.Goals.{After-rank_from, Else-place-eq0}
use Rattle.tree.proofs.Table.+rank_from.Goals as goal

pub returns-then-branch-eq0 : goal.returns-then-branch-eq0
returns-then-branch-eq0 t c =
    let (w, z, v) = c.requires in
    (size_some c.args.self.now.kind c.args.branch.usable c.args.branch.remaining, leads-end c.args.self.now.kind (omega (arith, c.if-branch-eq0.true)) v)

pub overflow_mul-passed : goal.overflow_mul-passed
overflow_mul-passed t c =
    let pre = c.requires in
    let a = c.args in
    let most = passed-most a.self.now.kind a.branch.remaining pre.0 (omega arith) pre.1 pre.2 in
    rw (c.count_usable.ensures, c.child_size.ensures, c.from-position.ensures) (omega (arith, most, a.self.now.holds_sizes.fits a.branch.usable a.branch.remaining a.branch.small))

pub rank_from-requires : goal.rank_from-requires
rank_from-requires t c =
    let kind = c.args.self.now.kind in
    let m = c.args.branch.remaining in
    let (w, e, v) = c.requires in
    let some : 1 ≤ m = omega arith in
    let b = rw c.from-position.ensures at c.if-position-h.true in
    let x = rw c.from-position.ensures at c.swap.ensures.after in
    rw (c.child.ensures.remaining, c.child.ensures.usable)
    (omega arith, ((next-child kind m w some e v b x).stands, child-long kind m w some e v b x, leads-child kind m w some e v b x))

-- the place before a step to a child, from the place after it
child : (t : ℕ) (c : After-rank_from t) → let a = c.args in let place = suc (c.count_usable.result * c.child_size.result + c.rank_from.result) in
    (place < size a.self.now.kind a.branch.usable a.branch.remaining) × (row_at (rows (rule_of a.self.now.kind) (length a.s.now - a.branch.remaining) a.branch.remaining a.s.now) place ≡ product a.a.now)
child t c =
    let (w, e, v) = c.requires in
    let step = next-child c.args.self.now.kind c.args.branch.remaining w (omega arith) e v (rw c.from-position.ensures at c.if-position-h.true) (rw c.from-position.ensures at c.swap.ensures.after) in
    let (inside, row) = same-branch c.args.self.now.kind c.swap.new.self c.args.a.now c.child.ensures.remaining c.child.ensures.usable c.rank_from.ensures in
    rw (c.count_usable.ensures, c.child_size.ensures, c.from-position.ensures) (step.inside c.rank_from.result inside, step.row c.rank_from.result inside ∙ row)

pub overflow_add-result : goal.overflow_add-result
overflow_add-result t c =
    let a = c.args in
    omega (arith, (child t (goal.at.overflow_add-result t c).After-rank_from).0, a.self.now.holds_sizes.fits a.branch.usable a.branch.remaining a.branch.small)

pub overflow_add-result-then-position-h : goal.overflow_add-result-then-position-h
overflow_add-result-then-position-h t c =
    let a = c.args in
    omega (arith, (child t (goal.at.overflow_add-result-then-position-h t c).After-rank_from).0, a.self.now.holds_sizes.fits a.branch.usable a.branch.remaining a.branch.small)

pub returns-then-position-h : goal.returns-then-position-h
returns-then-position-h t c = rw add-one (child t (goal.at.returns-then-position-h t c).After-rank_from)

pub rank_from-place-requires : goal.rank_from-place-requires
rank_from-place-requires t c =
    let kind = c.args.self.now.kind in
    let m = c.args.branch.remaining in
    let (w, e, v) = c.requires in
    let some : 1 ≤ m = omega arith in
    rw (c.behind.ensures.remaining, c.behind.ensures.usable)
    (omega arith, ((to_behind kind m w some).stands, e, leads-behind kind m w some e v (rw c.from-position.ensures at c.if-position-h.false)))

pub returns-then-place-eq0 : goal.returns-then-place-eq0
returns-then-place-eq0 t c =
    let (inside, row) = same-branch c.args.self.now.kind c.args.s.now c.args.a.now c.behind.ensures.remaining c.behind.ensures.usable c.rank_from-place.ensures in
    (size_some c.args.self.now.kind c.args.branch.usable c.args.branch.remaining, rw c.if-place-eq0.true at row)

-- and before the one behind all children
behind : (t : ℕ) (c : Else-place-eq0 t) → let a = c.args in let place = c.count_usable.result * c.child_size.result + c.rank_from-place.result in
    (place < size a.self.now.kind a.branch.usable a.branch.remaining) × (row_at (rows (rule_of a.self.now.kind) (length a.s.now - a.branch.remaining) a.branch.remaining a.s.now) place ≡ product a.a.now)
behind t c =
    let s = c.args.s.now in
    let m = c.args.branch.remaining in
    let (w, e, v) = c.requires in
    let step = to_behind c.args.self.now.kind m w (omega arith) in
    let (inside, row) = same-branch c.args.self.now.kind c.args.s.now c.args.a.now c.behind.ensures.remaining c.behind.ensures.usable c.rank_from-place.ensures in
    let all : get_or c.args.a.now (length s - m) 0 - 1 ≡ length s - m = omega (arith, next-bound c.args.self.now.kind m w (omega arith) e v, c.from-position.ensures, c.if-position-h.false) in
    rw (c.count_usable.ensures, c.child_size.ensures, c.from-position.ensures, all) (step.inside c.rank_from-place.result inside, step.row c.rank_from-place.result (omega arith) ∙ row)

pub overflow_add-result-2 : goal.overflow_add-result-2
overflow_add-result-2 t c =
    let a = c.args in
    omega (arith, (behind t (goal.at.overflow_add-result-2 t c).Else-place-eq0).0, a.self.now.holds_sizes.fits a.branch.usable a.branch.remaining a.branch.small)

pub returns : goal.returns
returns t c = behind t (goal.at.returns t c).Else-place-eq0
