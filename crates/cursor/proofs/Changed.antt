-- The number of entries changed that a call on a record reports (document 02, n): forward and back in how many entries the array of the record that they hand back
-- differs from that of the record that they got, at least one where they are not refused; every other call and every refusal 0. Assumes nothing.
use mathlib.Core.Path.{◌≡◌, refl, sym, ap, ◌∙◌}
use mathlib.Core.Logic.{◌⊎◌}
use mathlib.Core.Bool.{true, false}
use mathlib.Core.List.{List}
use Prim.Native.Nat.{ℕ, ◌-◌, ◌≤◌}
use native.Mathlib.Decide.{ℕ_discrete}
use borrow.Table.Steps.{cases}
use lib.ListN.{length, replicate}
use Rattle.perm.specs.Permutation.{distance}
use Rattle.perm.specs.Array.{array_of, entries_changed}
use Rattle.perm.proofs.Distance.{distance_self, distance-append, length_array, changed-sym, changed-some}
use Rattle.gray.proofs.Entries.{at_most_three, ring_at_most_three}
use Rattle.cursor.specs.declared.Cursor.{Cursor}
use Rattle.cursor.specs.declared.Opening.{Opening}
use Rattle.cursor.specs.declared.Step.{Step}
use Rattle.cursor.specs.Machine.{Machine, InSection, Call, forward, back, jump, show, Steps, onward, backward, padded, observe, row_of, refusal_of, destination, moved, turn, bare, given, answered}
use Rattle.cursor.specs.Walk.{machine_of, sound, called, start_of, check_opening, zeros, opened}
use Rattle.cursor.proofs.Calls.{in_on, step_in}
use Rattle.cursor.proofs.Steps.{near_other, row_permutation, turn_holds, turn_near}
use Rattle.cursor.proofs.Sound.{sound_in, sound-shows}
use Rattle.cursor.proofs.Outcomes.{given-step, called-unsound, called-refused, called-moves}
use Rattle.cursor.proofs.Reported.{unless_both, silent}
use Rattle.cursor.proofs.Undone.{turn-moves, answer-step}

-- demand 3, the entries changed: at each forward or back that is not refused, those in which the arrays of the old row and of the new one differ
pub changed : (m : Machine) (call : Call) → Steps call → refusal_of m call ≡ 0
    → (answered m call).changed ≡ entries_changed m.n (row_of m) (row_of (turn m call))
changed m call kind e = rw (answer-step m call kind e, turn-moves m call e)

-- and that is at least one, since the rows are different
pub changed_at_least_one : (m : Machine) (call : Call) → InSection m → Steps call → refusal_of m call ≡ 0 → 1 ≤ (answered m call).changed
changed_at_least_one m call inside kind e =
    let there = moved m (destination m call) in
    let old = row_permutation m (in_on m inside) in
    let new = row_permutation there (in_on there (step_in m inside kind)) in
    rw (answer-step m call kind e) (changed-some old new (near_other old (turn_near m call inside kind e)))

-- and at most three, as in every list
pub changed_at_most_three : (m : Machine) (call : Call) → InSection m → Steps call → refusal_of m call ≡ 0 → (answered m call).changed ≤ 3
changed_at_most_three m call inside kind e =
    rw (answer-step m call kind e)
    (turn_holds {R = λ n s t. entries_changed n s t ≤ 3}
    (record { each = at_most_three; ring = ring_at_most_three; back = λ n s t p q h. rw (changed-sym q p) h })
    m call inside kind e)

-- zeros after either array count nothing
padded_apart : (s t : List ℕ) → length s ≡ length t → distance (padded s) (padded t) ≡ distance s t
padded_apart s t e = rw e (distance-append s t (replicate (20 - length t) 0) e)

-- so of two records that show a machine at two places the arrays differ in as many bytes as those of the rows there
shown_apart : (m : Machine) (place : ℕ) → InSection m → InSection (moved m place)
    → distance (observe m).array (observe (moved m place)).array ≡ entries_changed m.n (row_of m) (row_of (moved m place))
unfolding observe
shown_apart m place here there =
    let there' = moved m place in
    let old = length_array (row_permutation m (in_on m here)) in
    let new = length_array (row_permutation there' (in_on there' there)) in
    padded_apart (array_of m.n (row_of m)) (array_of m.n (row_of there')) (old ∙ sym new)

-- on every record: forward and back report in how many bytes the array that is handed back differs from the one that was handed in, and a refusal is 0 as it hands
-- back the record
pub changed_records : (w : Cursor) (call : Call) → Steps call → (called w call).answer.changed ≡ distance w.array (called w call).cursor.array
changed_records w call kind = cases (sound w) (λ e. passes e (ℕ_discrete (refusal_of (machine_of w) call) 0)) fails
  where
    fails : sound w ≡ false → (called w call).answer.changed ≡ distance w.array (called w call).cursor.array
    fails e = rw (called-unsound w call e) (sym (distance_self w.array))

    passes : sound w ≡ true → Dec (refusal_of (machine_of w) call ≡ 0) → (called w call).answer.changed ≡ distance w.array (called w call).cursor.array
    passes e (no d) = rw (called-refused w call _ e refl d) (sym (distance_self w.array))
    passes e (yes f) =
        let m = machine_of w in
        let to = (observe (moved m (destination m call))).array in
        let inside = sound_in w e in
        rw (called-moves w call e f, given-step m kind)
        (sym (ap (λ v. distance v.array to) (sound-shows w e) ∙ shown_apart m (destination m call) inside (step_in m inside kind)))

-- only forward and back report entries changed
given_changed : (m : Machine) (call : Call) → (Steps call → ⊥) → (given m call).changed ≡ 0
given_changed m forward d = absurd (d onward)
given_changed m back d = absurd (d backward)
given_changed m (jump r) d = refl
given_changed m show d = refl

-- so every other call on every record, and every refusal, reports none
pub none_changed : (w : Cursor) (call : Call) → (Steps call → ⊥) ⊎ ((called w call).answer.refusal ≡ 0 → ⊥) → (called w call).answer.changed ≡ 0
none_changed = silent (λ a. a.changed) Steps (λ r. refl) given_changed

-- nor does either open, refused or not
pub open_none_changed : (opening : Opening) → (opened opening).answer.changed ≡ 0
unfolding opened
open_none_changed opening =
    unless_both
    (λ (s : Step). s.answer.changed ≡ 0)
    (check_opening opening)
    (record { cursor = observe (start_of opening); answer = bare 0 })
    (record { cursor = zeros; answer = bare (check_opening opening) })
    refl
    refl
