use native.Mathlib.Omega.{arith}
use mathlib.Core.Path.{◌≡◌, sym, ap, ◌∙◌}
use mathlib.Core.Bool.{true, false}
use lib.ListN.{length}
use Prim.Native.Nat.{ℕ, suc, ◌+◌, ◌-◌, ◌≤◌, ◌<◌}
use Rattle.stirling.specs.Count.{c as rows}
use Rattle.stirling.proofs.Counts.{fits}
use Rattle.gray.specs.Blocks.{blocks}
use Rattle.rank.specs.Search.{before}
use Rattle.find.specs.Search.{enters}
use Rattle.rank.proofs.Starts.{before-most}
use Rattle.find.proofs.Searching.{begins, position_here, ends_at, passes-by, stays_out, searched-nothing, searched_none}
use Rattle.find.proofs.Entering.{counted-on, searchable-below, row-below, row-found, nothing_found}
use Rattle.find.proofs.+first.Goals.{After-entry, After-below_at-below, After-smaller-left, In-loop-number, then-start-next+then-can_enter+in_default, else-start-next, else-start-next-via-then-start-next+else-can_enter, else-start-next-via-else-start-next}
use Rattle.find.proofs.+first.Goals as goal

-- at a block
block-left : (t : ℕ) (i : In-loop-number t) → i.loop-number.number < length (blocks i.args.sought.size i.args.k)
block-left t i = omega (arith, i.loop-number-test.true, i.block_count-count.ensures)

at_position : (t : ℕ) (a : After-below_at-below t) → a.loop-number.number < length (blocks a.args.sought.size a.args.k)
    → (1 ≤ a.below_at-below.result.position) × (a.below_at-below.result.position ≤ a.args.sought.size)
at_position t a l =
    let some-value : 1 ≤ a.args.sought.size = omega arith in
    let wide : a.args.sought.size < length a.args.sought.values = omega arith in
    position_here some-value wide a.loop-number.invariant l a.below_at-below.ensures

-- its size
is-size : (t : ℕ) (a : After-entry t) → a.entry.result ≡ rows (a.args.sought.size - 1) a.below_at-below.result.cycles
is-size t a = a.entry.ensures ∙ a.requires.table.holds (a.args.sought.size - 1) a.below_at-below.result.cycles (omega arith)

-- it ends within the list
next-most : (t : ℕ) (a : After-entry t) → a.loop-number.number < length (blocks a.args.sought.size a.args.k)
    → a.loop-number.before + a.entry.result ≤ rows a.args.sought.size a.args.k
next-most t a l =
    let n = a.args.sought.size in
    let some-value : 1 ≤ n = omega arith in
    let wide : n < length a.args.sought.values = omega arith in
    let ends : a.loop-number.before + a.entry.result ≡ before n a.args.k a.args.backward (suc a.loop-number.number) =
    ap (λ (x : ℕ). a.loop-number.before + x) (is-size t a) ∙ ends_at some-value wide a.loop-number.invariant l a.below_at-below.ensures in
    rw ends (before-most n a.args.k a.args.backward (suc a.loop-number.number) some-value)

pub returns-then-n-eq0 : goal.returns-then-n-eq0
returns-then-n-eq0 t c = searched-nothing c.if-n-eq0.true c.requires.searchable

pub loop-number-init : goal.loop-number-init
loop-number-init t c = begins c.args.sought.size c.args.k c.args.backward c.args.start c.args.sought.values

pub overflow_add-next : goal.overflow_add-next
overflow_add-next t c =
    omega (arith, next-most t c (block-left t (goal.at.overflow_add-next t c).In-loop-number), fits c.args.sought.size c.args.k c.args.sought.small)

pub can_enter-requires : goal.can_enter-requires
can_enter-requires t c =
    let l = block-left t (goal.at.can_enter-requires t c).In-loop-number in
    at_position t (goal.at.can_enter-requires t c).After-below_at-below l

pub smaller-left-requires : goal.smaller-left-requires
smaller-left-requires t c =
    let l = block-left t (goal.at.smaller-left-requires t c).In-loop-number in
    at_position t (goal.at.smaller-left-requires t c).After-below_at-below l

-- a block is entered
module _ (t : ℕ) (a : After-smaller-left t) where
  some-value : 1 ≤ a.args.sought.size
  some-value = omega arith

  wide : a.args.sought.size < length a.args.sought.values
  wide = omega arith

  entered : enters a.args.sought.size a.below_at-below.result a.args.sought.values ≡ true
  entered = sym a.can_enter.ensures ∙ a.if-can_enter.true

  inside : a.entry.result ≡ rows (a.args.sought.size - 1) a.below_at-below.result.cycles
      → a.args.start < a.loop-number.before + rows (a.args.sought.size - 1) a.below_at-below.result.cycles
  inside size = omega (arith, size)

pub first-found-requires : goal.first-found-requires
first-found-requires t c =
    let l = block-left t (goal.at.first-found-requires t c).In-loop-number in
    let size = is-size t (goal.at.first-found-requires t c).After-entry in (
      omega (arith, c.decreases, c.smaller-left.ensures.size),
      (
        c.requires.table,
        searchable-below (some-value t c) (wide t c) c.loop-number.invariant l c.below_at-below.ensures (entered t c) (inside t c size) c.saturating_sub-from.ensures c.smaller-left.ensures.size c.smaller-left.ensures.values,
      ),
    )

pub overflow_add-result : goal.overflow_add-result
overflow_add-result t c =
    let l = block-left t (goal.at.overflow_add-result t c).In-loop-number in
    let e = (goal.at.overflow_add-result t c).After-entry in
    let size = is-size t e in
    let a = (goal.at.overflow_add-result t c).After-smaller-left in
    let low = row-below (some-value t a) (wide t a) c.loop-number.invariant l c.below_at-below.ensures (entered t a) (inside t a size) c.saturating_sub-from.ensures c.smaller-left.ensures.size c.smaller-left.ensures.values
    c.first-found.ensures c.in-Some.is in
    omega (arith, size, low, next-most t e l, fits c.args.sought.size c.args.k c.args.sought.small)

pub returns-in-Some : goal.returns-in-Some
returns-in-Some t c =
    let l = block-left t (goal.at.returns-in-Some t c).In-loop-number in
    let e = (goal.at.returns-in-Some t c).After-entry in
    let size = is-size t e in
    let a = (goal.at.returns-in-Some t c).After-smaller-left in
    row-found (some-value t a) (wide t a) c.loop-number.invariant l c.below_at-below.ensures (entered t a) (inside t a size) c.saturating_sub-from.ensures c.smaller-left.ensures.size c.smaller-left.ensures.values
    c.first-found.ensures c.in-Some.is
    (omega (arith, size, next-most t e l))

pub loop-number-preserved : goal.loop-number-preserved
loop-number-preserved t c =
    let l = block-left t (goal.at.loop-number-preserved t c).In-loop-number in
    let size = is-size t (goal.at.loop-number-preserved t c).After-entry in
    let h : 1 ≤ c.args.sought.size = omega arith in
    let wide : c.args.sought.size < length c.args.sought.values = omega arith in
    let i = c.loop-number in
    let part = c.below_at-below.result in
    elim c.if-start-next.branch [
      | then-start-next+then-can_enter+in_default w ↦
          let entered : enters c.args.sought.size part c.args.sought.values ≡ true = sym w.can_enter.ensures ∙ w.if-can_enter.true in
          let inside : c.args.start < i.before + rows (c.args.sought.size - 1) part.cycles = omega (arith, size) in
          rw w.calls-is
          (counted-on i.number i.before size
          (nothing_found h wide i.invariant l c.below_at-below.ensures entered inside w.saturating_sub-from.ensures w.smaller-left.ensures.size w.smaller-left.ensures.values
          w.first-found.ensures w.in_default.is))
      | else-start-next w ↦
          rw w.calls-is
          (counted-on i.number i.before size
          (elim w.else-start-next.branch [
            | else-start-next-via-then-start-next+else-can_enter v ↦
                let out : enters c.args.sought.size part c.args.sought.values ≡ false = sym v.can_enter.ensures ∙ v.if-can_enter.false in
                stays_out h wide i.invariant l c.below_at-below.ensures out
            | else-start-next-via-else-start-next v ↦ passes-by h wide i.invariant l c.below_at-below.ensures (omega (arith, size))
          ]))
    ]

pub returns : goal.returns
returns t c =
    let h : 1 ≤ c.args.sought.size = omega arith in
    searched_none h c.requires.searchable c.loop-number.invariant (omega (arith, c.block_count-count.ensures))
