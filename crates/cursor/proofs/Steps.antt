-- The three positions that forward and back report: three different ones, i the smallest, new = old·⟨i,j,l⟩, and the only such three. From the neighbours of
-- S(n,k), which crate gray proves. Assumes nothing.
use mathlib.Core.Path.{◌≡◌, ◌∙◌, sym, ap}
use mathlib.Core.Bool.{true, false, false≢true}
use mathlib.Core.List.{[], ◌∷◌}
use Prim.Native.Nat.{ℕ, zero, suc, ◌+◌, ◌-◌, ◌≤◌, ◌<◌}
use native.Mathlib.Omega.{arith}
use native.Mathlib.Numerals.{add-one}
use native.Mathlib.Decide.{ℕ_discrete}
use lib.Dec.{eqb}
use lib.ListN.{length, get_or}
use borrow.Author.Tests.{eq-eqb, ne_eqb, eqb-true, eqb-false}
use borrow.Table.Steps.{cases}
use Rattle.stirling.specs.Count.{c}
use Rattle.stirling.proofs.Refusals.{refuse-passed, and-true}
use Rattle.perm.specs.Permutation.{IsPermutation, at, rotate}
use Rattle.perm.proofs.Values.{injective, at_suc}
use Rattle.perm.proofs.ArrayOf.{position_at}
use Rattle.gray.specs.Order.{Row, S}
use Rattle.gray.specs.Listing.{row_at, Positions, Near}
use Rattle.gray.proofs.Once.{length-S, complete}
use Rattle.gray.proofs.Neighbours.{neighbours, closed}
use Rattle.cursor.specs.Machine.{Machine, InSection, Call, forward, back, Steps, onward, backward, row_of, whole, stops, place_after, refusal_of, destination, moved, turn, first_from, step_i, step_j, step_l, IsStep, Reversed, stepped, answered}
use Rattle.cursor.proofs.Ring.{after_last, after-other, before-other, after-before}
use Rattle.cursor.proofs.Calls.{OnPlace, in_on, step_in}
use Rattle.cursor.proofs.Rotate.{back_positions, length-rotate, at-rotate_i, at-rotate_j, at-rotate-other, rotate_back, near_back, from-smallest}

-- the first index where two rows differ, as a position
first-from : (i : ℕ) (s t : Row) (x : ℕ) → x < length s → x < length t → ((y : ℕ) → y < x → get_or s y 0 ≡ get_or t y 0)
    → (get_or s x 0 ≡ get_or t x 0 → ⊥) → first_from i s t ≡ i + x
unfolding first_from
first-from i [] t x h k e d = absurd (omega arith)
first-from i (a ∷ s) [] x h k e d = absurd (omega arith)
first-from i (a ∷ s) (b ∷ t) zero h k e d = rw (ne_eqb a b d) (omega arith)
first-from i (a ∷ s) (b ∷ t) (suc x) h k e d =
    rw (eq-eqb a b (e 0 (omega arith)), first-from (suc i) s t x (omega arith) (omega arith) (λ y l. e (suc y) (omega arith)) d) (omega arith)

-- a step's three positions from the smallest on are those that are reported
reported : {n : ℕ} {s t : Row} → IsPermutation n s → (i j l : ℕ) → Positions n i j l → i ≤ j → i ≤ l → t ≡ rotate s i j l
    → (i ≡ step_i s t) × (j ≡ step_j s t) × (l ≡ step_l s t)
reported {n} {s} {t} p i j l three low-j low-l step =
    let z = p.size in
    let (i-low, i-high) = three.i_in in
    let y : length t ≡ length s = rw step (length-rotate s i j l) in
    let at_i : at t i ≡ at s j = rw step (at-rotate_i s z three) in
    let at_j : at t j ≡ at s l = rw step (at-rotate_j s z three) in
    let other : (x : ℕ) → 1 ≤ x → x < i → at t x ≡ at s x = λ x h k. rw step (at-rotate-other s z three x h (omega arith) (omega arith) (omega arith)) in
    let before : (x : ℕ) → x < i - 1 → get_or s x 0 ≡ get_or t x 0 =
    λ x h. sym (at_suc s x) ∙ sym (other (suc x) (omega arith) (omega arith)) ∙ at_suc t x in
    let differ : at s i ≡ at t i → ⊥ = λ e. three.i_j (injective p i j i-low i-high three.j_in.0 three.j_in.1 (e ∙ at_i)) in
    let first : step_i s t ≡ i = first-from 1 s t (i - 1) (omega arith) (omega arith) before differ ∙ omega arith in
    let second : step_j s t ≡ j = rw (first, at_i) (position_at p j three.j_in.0 three.j_in.1) in
    let third : step_l s t ≡ l = rw (second, at_j) (position_at p l three.l_in.0 three.l_in.1) in
    (sym first, sym second, sym third)

-- wherever two rows are near, the reported positions are their step
pub near_step : {n : ℕ} {s t : Row} → IsPermutation n s → Near n s t → IsStep n s t (step_i s t) (step_j s t) (step_l s t)
near_step {n} {s} {t} p near =
    let (r, low-j, low-l) = from-smallest p.size near in
    let (i, j, l) = reported p r.i r.j r.l r.three (omega arith) (omega arith) r.step in
    record {
      three = rw (← l, ← j, ← i) r.three;
      smallest = (rw (← j, ← i) (omega arith), rw (← l, ← i) (omega arith));
      step = rw (← l, ← j, ← i) r.step;
      only = reported p;
    }

-- near rows are different
pub near_other : {n : ℕ} {s t : Row} → IsPermutation n s → Near n s t → s ≡ t → ⊥
near_other {s = s} p near e =
    let three = near.three in
    let (i-low, i-high) = three.i_in in
    let (j-low, j-high) = three.j_in in
    three.i_j (injective p near.i near.j i-low i-high j-low j-high (ap (λ r. at r near.i) (e ∙ near.step) ∙ at-rotate_i s p.size three))

-- the step back between near rows goes round the same positions the other way
pub step_back : {n : ℕ} {s t : Row} → IsPermutation n s → IsPermutation n t → Near n s t → Reversed (stepped n s t) (stepped n t s)
step_back {s = s} {t} p q near =
    let there = near_step p near in
    let back : s ≡ rotate t (step_i s t) (step_l s t) (step_j s t) =
    sym (rotate_back s p.size there.three) ∙ ap (λ r. rotate r (step_i s t) (step_l s t) (step_j s t)) (sym there.step) in
    let (i, j, l) = reported q (step_i s t) (step_l s t) (step_j s t) (back_positions there.three) there.smallest.1 there.smallest.0 back in
    (sym i, sym j, sym l)

-- the row of a machine on its place is a permutation
pub row_permutation : (m : Machine) → OnPlace m → IsPermutation m.n (row_of m)
row_permutation m on = ((complete m.n m.k).sound m.place (omega (arith, on.below, length-S m.n m.k))).permutation

-- the end of its section past which a step leads
abbrev pub end : (m : Machine) {call : Call} → Steps call → ℕ
end m onward = m.highest
end m backward = m.lowest

-- a machine that does not stop there is one that forward and back do not refuse
pub step_serves : (m : Machine) {call : Call} (kind : Steps call) → stops m (end m kind) ≡ false → refusal_of m call ≡ 0
step_serves m onward e = rw e
step_serves m backward e = rw e

-- and only such a one
pub step_served : (m : Machine) {call : Call} (kind : Steps call) → refusal_of m call ≡ 0 → stops m (end m kind) ≡ false
step_served m onward e = refuse-passed (stops m m.highest) 8 e
step_served m backward e = refuse-passed (stops m m.lowest) 9 e

-- a machine that does not stop at a place: its list is whole and has others, or it is elsewhere
abbrev pub GoesOn : Machine → ℕ → Type 0
GoesOn m place = (whole m ≡ true → c m.n m.k ≡ 1 → ⊥) × (whole m ≡ false → m.place ≡ place → ⊥)

pub goes_on : (m : Machine) (place : ℕ) → stops m place ≡ false → GoesOn m place
goes_on m place e = (λ f. eqb-false (c m.n m.k) 1 (rw f at e), λ f. eqb-false m.place place (rw f at e))

pub on_goes : (m : Machine) (place : ℕ) → GoesOn m place → stops m place ≡ false
on_goes m place g = cases (whole m) (λ f. rw (f, ne_eqb (c m.n m.k) 1 (g.0 f))) (λ f. rw (f, ne_eqb m.place place (g.1 f)))

-- on the whole list forward and back are refused just where it has one row
module _ (m : Machine) (f : whole m ≡ true) {call : Call} (kind : Steps call) where
  pub whole-serves : (c m.n m.k ≡ 1 → ⊥) → refusal_of m call ≡ 0
  whole-serves d = step_serves m kind (on_goes m (end m kind) (λ _. d, λ g. absurd (false≢true (sym g ∙ f))))

  pub whole-served : refusal_of m call ≡ 0 → c m.n m.k ≡ 1 → ⊥
  whole-served e = (goes_on m (end m kind) (step_served m kind e)).0 f

-- a closed section: the whole of a list of two rows or more
record Closing (m : Machine) : Type 0 where
  first : m.lowest ≡ 0
  last : m.highest + 1 ≡ c m.n m.k
  others : c m.n m.k ≡ 1 → ⊥

-- the whole list, by its bounds
pub whole_bounds : (m : Machine) → whole m ≡ true → (m.lowest ≡ 0) × (m.highest + 1 ≡ c m.n m.k)
whole_bounds m e =
    let (first, last) = and-true (eqb m.lowest 0) (eqb (m.highest + 1) (c m.n m.k)) e in
    (eqb-true m.lowest 0 first, eqb-true (m.highest + 1) (c m.n m.k) last)

-- at its end only a closed section goes on
end_closes : (m : Machine) (place : ℕ) → stops m place ≡ false → m.place ≡ place → Closing m
end_closes m place e at = cases (whole m) closed-one shorter
  where
    closed-one : whole m ≡ true → Closing m
    closed-one f =
        let (first, last) = whole_bounds m f in
        record { first = first; last = last; others = (goes_on m place e).0 f }

    shorter : whole m ≡ false → Closing m
    shorter f = absurd ((goes_on m place e).1 f at)

-- what holds of neighbours in every list, of its last and first row, and either way
pub record OfNeighbours (R : ℕ → Row → Row → Type 0) : Type 0 where
  pub each : (n k place : ℕ) → suc place < length (S n k) → R n (row_at (S n k) place) (row_at (S n k) (suc place))
  pub ring : (n k : ℕ) → 2 ≤ length (S n k) → R n (row_at (S n k) (length (S n k) - 1)) (row_at (S n k) 0)
  pub back : (n : ℕ) (s t : Row) → IsPermutation n s → IsPermutation n t → R n s t → R n t s

module _ {R : ℕ → Row → Row → Type 0} (holds : OfNeighbours R) where
  -- it holds of a row of a section and the one at the place after: the next one, and in a closed section of the last one and the first
  after_holds : (m : Machine) → InSection m → (m.place ≡ m.highest → Closing m)
      → R m.n (row_of m) (row_of (moved m (place_after m.lowest m.highest m.place)))
  after_holds m inside closing = go (ℕ_discrete m.place m.highest)
    where
      go : Dec (m.place ≡ m.highest) → R m.n (row_of m) (row_of (moved m (place_after m.lowest m.highest m.place)))
      go (yes e) =
          let closes = closing e in
          let last : length (S m.n m.k) - 1 ≡ m.place = omega (arith, length-S m.n m.k, closes.last) in
          let two : 2 ≤ length (S m.n m.k) = omega (arith, length-S m.n m.k, closes.others, inside.last) in
          rw (after_last m.lowest m.highest m.place e, closes.first) (rw last at (holds.ring m.n m.k two))
      go (no d) =
          rw (after-other m.lowest m.highest m.place d, add-one)
          (holds.each m.n m.k m.place (omega (arith, length-S m.n m.k, inside.high, inside.last)))

  -- and of the row before a forward or back that is not refused and the row after
  pub turn_holds : (m : Machine) (call : Call) → InSection m → Steps call → refusal_of m call ≡ 0 → R m.n (row_of m) (row_of (moved m (destination m call)))
  turn_holds m _ inside onward e = after_holds m inside (end_closes m m.highest (step_served m onward e))
  turn_holds m _ inside backward e =
      let there = moved m (destination m back) in
      let held = after_holds there (step_in m inside backward) (closes (ℕ_discrete m.place m.lowest)) in
      holds.back m.n (row_of there) (row_of m)
      (row_permutation there (in_on there (step_in m inside backward)))
      (row_permutation m (in_on m inside))
      (rw (after-before m.lowest m.highest m.place inside.low inside.high) at held)
    where
      closes : Dec (m.place ≡ m.lowest) → destination m back ≡ m.highest → Closing (moved m (destination m back))
      closes (yes at) f =
          let closing = end_closes m m.lowest (step_served m backward e) at in
          record { first = closing.first; last = closing.last; others = closing.others }
      closes (no d) f = absurd (omega (arith, before-other m.lowest m.highest m.place d, inside.low, inside.high))

-- so the two are near
pub turn_near : (m : Machine) (call : Call) → InSection m → Steps call → refusal_of m call ≡ 0 → Near m.n (row_of m) (row_of (moved m (destination m call)))
turn_near = turn_holds {R = Near} (record { each = neighbours; ring = closed; back = λ n s t p q near. near_back p.size near })

-- demand 3, the steps: at each forward or back that is not refused, the answer's three positions are the step from the old row to the new one
pub steps : (m : Machine) (call : Call) → InSection m → Steps call → refusal_of m call ≡ 0
    → IsStep m.n (row_of m) (row_of (turn m call)) (answered m call).i (answered m call).j (answered m call).l
unfolding turn answered
steps m _ inside onward e = rw e (near_step (row_permutation m (in_on m inside)) (turn_near m forward inside onward e))
steps m _ inside backward e = rw e (near_step (row_permutation m (in_on m inside)) (turn_near m back inside backward e))
