-- Forward and back undo each other (document 02, g and h): on every record where the first of them is not refused, and on the whole list whether it is or not. Assumes
-- nothing.
use mathlib.Core.Path.{◌≡◌, refl, sym, ap, ◌∙◌}
use mathlib.Core.Logic.{◌⊎◌, inl, inr}
use mathlib.Core.Bool.{true, false}
use Prim.Native.Nat.{ℕ, zero, suc}
use native.Mathlib.Omega.{arith}
use native.Mathlib.Decide.{ℕ_discrete}
use borrow.Table.Steps.{cases}
use Rattle.stirling.specs.Refusal.{unless}
use Rattle.stirling.proofs.Refusals.{unless-passes, unless-refuses}
use Rattle.perm.proofs.Distance.{changed-sym}
use Rattle.cursor.specs.Machine.{Machine, InSection, Call, forward, back, Steps, onward, backward, observe, row_of, whole, refusal_of, destination, moved, turn, Reversed, bare, stepped, given, answered, turned}
use Rattle.cursor.specs.Walk.{machine_of, sound, called, Undone}
use Rattle.cursor.specs.declared.Cursor.{Cursor}
use Rattle.cursor.specs.declared.Answer.{Answer}
use Rattle.cursor.proofs.Ring.{after-other, before-other, before-after, after-before}
use Rattle.cursor.proofs.Calls.{in_on, called-observe, destination_in, turn_in}
use Rattle.cursor.proofs.Steps.{step_back, row_permutation, step_serves, step_served, goes_on, on_goes, whole-serves, whole-served, turn_near}
use Rattle.cursor.proofs.Sound.{sound_in, sound-shows}
use Rattle.cursor.proofs.Outcomes.{given_refusal, given-step, called-unsound}

-- a step, and the one that undoes it
pub data Opposite : Call → Call → Type 0 where
  by-back : Opposite forward back
  by-forward : Opposite back forward

first : {call other : Call} → Opposite call other → Steps call
first by-back = onward
first by-forward = backward

second : {call other : Call} → Opposite call other → Steps other
second by-back = backward
second by-forward = onward

module _ (m : Machine) (call : Call) where
  -- a refused call leaves the machine where it is, and reports nothing
  pub turn-stays : (refusal_of m call ≡ 0 → ⊥) → turn m call ≡ m
  unfolding turn
  turn-stays d = unless-refuses (refusal_of m call) _ m d

  answer-none : (refusal_of m call ≡ 0 → ⊥) → answered m call ≡ bare (refusal_of m call)
  unfolding answered
  answer-none d = unless-refuses (refusal_of m call) _ _ d

  -- any other moves it
  pub turn-moves : refusal_of m call ≡ 0 → turn m call ≡ moved m (destination m call)
  unfolding turn
  turn-moves e = unless-passes (refusal_of m call) _ m e

  -- and a step reports that between the two rows
  pub answer-step : Steps call → refusal_of m call ≡ 0 → answered m call ≡ stepped m.n (row_of m) (row_of (moved m (destination m call)))
  unfolding answered
  answer-step kind e = unless-passes (refusal_of m call) _ _ e ∙ given-step m kind

-- a step and its opposite lead back to the place
leads_back : (m : Machine) {call other : Call} → Opposite call other → InSection m → destination (moved m (destination m call)) other ≡ m.place
leads_back m by-back inside = before-after m.lowest m.highest m.place inside.low inside.high
leads_back m by-forward inside = after-before m.lowest m.highest m.place inside.low inside.high

-- and where the step is not refused, neither is its opposite
serves_back : (m : Machine) {call other : Call} → Opposite call other → InSection m → refusal_of m call ≡ 0 → refusal_of (moved m (destination m call)) other ≡ 0
serves_back m by-back inside e =
    let there = moved m (destination m forward) in
    let (others, apart) = goes_on m m.highest (step_served m onward e) in
    step_serves there backward
    (on_goes there m.lowest (others, λ f g. omega (arith, after-other m.lowest m.highest m.place (apart f), inside.low)))
serves_back m by-forward inside e =
    let there = moved m (destination m back) in
    let (others, apart) = goes_on m m.lowest (step_served m backward e) in
    step_serves there onward
    (on_goes there m.highest (others, λ f g. omega (arith, before-other m.lowest m.highest m.place (apart f), apart f, inside.low, inside.high)))

-- a step that is undone: one that is not refused, and on the whole list any
abbrev Undoable : Machine → Call → Type 0
Undoable m call = (refusal_of m call ≡ 0) ⊎ (whole m ≡ true)

-- what is asked of two answers: the second has the positions of the first the other way round and as many entries changed, and is a refusal only if that is one
abbrev Answers : Machine → Call → Call → Type 0
Answers m call other =
    Reversed (answered m call) (answered (turn m call) other) × ((answered (turn m call) other).changed ≡ (answered m call).changed)
    × ((answered m call).refusal ≡ 0 → (answered (turn m call) other).refusal ≡ 0)

module _ (m : Machine) (call other : Call) (pair : Opposite call other) (inside : InSection m) (can : Undoable m call) where
  -- on the whole list a step is refused where its opposite is
  both-refused : (refusal_of m call ≡ 0 → ⊥) → refusal_of m other ≡ 0 → ⊥
  both-refused d e = by_whole can
    where
      by_whole : Undoable m call → ⊥
      by_whole (inl f) = d f
      by_whole (inr f) = d (whole-serves m f (first pair) (whole-served m f (second pair) e))

  -- so the machine is as it was
  turn-undone : turn (turn m call) other ≡ m
  turn-undone = go (ℕ_discrete (refusal_of m call) 0)
    where
      go : Dec (refusal_of m call ≡ 0) → turn (turn m call) other ≡ m
      go (yes e) =
          rw (turn-moves m call e, turn-moves (moved m (destination m call)) other (serves_back m pair inside e)) (ap (moved m) (leads_back m pair inside))
      go (no d) = rw (turn-stays m call d) (turn-stays m other (both-refused d))

  -- and the answers are as asked
  turn-answers : Answers m call other
  turn-answers = go (ℕ_discrete (refusal_of m call) 0)
    where
      go : Dec (refusal_of m call ≡ 0) → Answers m call other
      go (yes e) =
          let m' = moved m (destination m call) in
          let on' = in_on m' (destination_in m call inside e) in
          let again = answer-step m' other (second pair) (serves_back m pair inside e)
          ∙ ap (λ place. stepped m.n (row_of m') (row_of (moved m place))) (leads_back m pair inside) in
          let p = row_permutation m (in_on m inside) in
          let q = row_permutation m' on' in
          rw (turn-moves m call e, answer-step m call (first pair) e, again)
          (step_back p q (turn_near m call inside (first pair) e), changed-sym q p, λ f. refl)
      go (no d) =
          rw (turn-stays m call d, answer-none m call d, answer-none m other (both-refused d)) ((refl, refl, refl), refl, λ f. absurd (d f))

-- the refusal that an answer reports is the machine's
unless-bare : (r : ℕ) (a : Answer) → a.refusal ≡ 0 → (unless r a (bare r)).refusal ≡ r
unless-bare zero a e = e
unless-bare (suc r) a e = refl

pub answer_refusal : (m : Machine) (call : Call) → (answered m call).refusal ≡ refusal_of m call
unfolding answered
answer_refusal m call = unless-bare (refusal_of m call) (given m call) (given_refusal m call)

-- a call on a record that passes check 8 is the machine's
pub called-turned : (w : Cursor) (call : Call) → sound w ≡ true → called w call ≡ turned (machine_of w) call
unfolding called
called-turned w call e = rw e

-- and so is the one after it
called-again : (w : Cursor) (call other : Call) → sound w ≡ true → called (called w call).cursor other ≡ turned (turn (machine_of w) call) other
called-again w call other e =
    rw (called-turned w call e) (called-observe (turn (machine_of w) call) other (turn_in (machine_of w) call (sound_in w e)))

-- demand 3's calls on the ring and in a section: a step and its opposite, on every record on which the step is not refused, and on the whole list on every record
pub undone : (w : Cursor) (call other : Call) → Opposite call other → ((called w call).answer.refusal ≡ 0) ⊎ (whole (machine_of w) ≡ true) → Undone w call other
undone w call other pair can = cases (sound w) passes fails
  where
    undoable : sound w ≡ true → ((called w call).answer.refusal ≡ 0) ⊎ (whole (machine_of w) ≡ true) → Undoable (machine_of w) call
    undoable e (inl f) = inl (sym (answer_refusal (machine_of w) call) ∙ ap (λ s. s.answer.refusal) (sym (called-turned w call e)) ∙ f)
    undoable e (inr f) = inr f

    passes : sound w ≡ true → Undone w call other
    passes e =
        let m = machine_of w in
        let inside = sound_in w e in
        let again = called-again w call other e in
        let answers = turn-answers m call other pair inside (undoable e can) in
        record {
          same_record = ap (λ s. s.cursor) again ∙ ap observe (turn-undone m call other pair inside (undoable e can)) ∙ sym (sound-shows w e);
          reversed = rw (again, called-turned w call e) answers.0;
          as_many = rw (again, called-turned w call e) answers.1;
          served = rw (again, called-turned w call e) answers.2;
        }

    fails : sound w ≡ false → Undone w call other
    fails e =
        let one = called-unsound w call e in
        let two = called-unsound w other e in
        record { same_record = rw (one, two); reversed = rw (one, two) (refl, refl, refl); as_many = rw (one, two); served = rw (one, two) (λ f. f) }
