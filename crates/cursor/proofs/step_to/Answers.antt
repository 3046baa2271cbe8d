-- `cursor::step_to` meets its contract: the first n bytes of the old and the new record are the machine's rows and their arrays. Assumes nothing.
use mathlib.Core.Path.{◌≡◌, sym, ap, ◌∙◌}
use Prim.Native.Nat.{◌≤◌}
use lib.ListN.{length, take}
use Rattle.std.specs.List.{zip, count_by}
use Rattle.cursor.proofs.Scans.{apart, differs_in_all}
use Rattle.perm.proofs.Distance.{length_array}
use Rattle.perm.specs.Array.{array_of, entries_changed}
use Rattle.cursor.specs.Machine.{row_of, moved}
use Rattle.cursor.specs.Walk.{machine_of}
use Rattle.cursor.proofs.Calls.{OnPlace, on_moved, on_passes}
use Rattle.cursor.proofs.Sound.{sound_on}
use Rattle.cursor.proofs.Reported.{sound-row, sound_array}
use Rattle.cursor.proofs.Steps.{row_permutation}
use Rattle.cursor.proofs.Padding.{length-shown, take-shown, length-shown_array, take-shown_array}
use Rattle.cursor.proofs.step_to.Goals.{After-cursor_at-cursor, After-differences-changed, Start}
use Rattle.cursor.proofs.step_to.Goals as goal

before_on : (c : Start) → OnPlace (machine_of c.args.w)
before_on c = sound_on c.args.w c.requires.0

after_on : (c : Start) → OnPlace (moved (machine_of c.args.w) c.args.place)
after_on c = on_moved (machine_of c.args.w) (before_on c) c.args.place c.requires.1

made_array : (c : After-cursor_at-cursor) → c.args.w.n ≤ length c.cursor_at-cursor.result.array
made_array c =
    let after = on_moved (machine_of c.args.w) (sound_on c.args.w c.requires.0) c.args.place c.requires.1 in
    rw c.cursor_at-cursor.ensures (length-shown_array (moved (machine_of c.args.w) c.args.place) after)

-- the record that was made holds at least n bytes of either
made_row : (c : After-cursor_at-cursor) → c.args.w.n ≤ length c.cursor_at-cursor.result.perm
made_row c =
    let after = on_moved (machine_of c.args.w) (sound_on c.args.w c.requires.0) c.args.place c.requires.1 in
    rw c.cursor_at-cursor.ensures (length-shown (moved (machine_of c.args.w) c.args.place) after)

-- the old row and the new one, as they are lent
old_row : (c : Start) → take c.args.w.n c.args.w.perm ≡ row_of (machine_of c.args.w)
old_row c = sound-row c.args.w c.requires.0

new_row : (c : After-cursor_at-cursor) → take c.args.w.n c.cursor_at-cursor.result.perm ≡ row_of (moved (machine_of c.args.w) c.args.place)
new_row c =
    let after = on_moved (machine_of c.args.w) (sound_on c.args.w c.requires.0) c.args.place c.requires.1 in
    ap (λ w. take c.args.w.n w.perm) c.cursor_at-cursor.ensures ∙ take-shown (moved (machine_of c.args.w) c.args.place) after

-- and their arrays
old_array : (c : Start) → take c.args.w.n c.args.w.array ≡ array_of c.args.w.n (row_of (machine_of c.args.w))
old_array c = sound_array c.args.w c.requires.0

new_array : (c : After-cursor_at-cursor) → take c.args.w.n c.cursor_at-cursor.result.array ≡ array_of c.args.w.n (row_of (moved (machine_of c.args.w) c.args.place))
new_array c =
    let after = on_moved (machine_of c.args.w) (sound_on c.args.w c.requires.0) c.args.place c.requires.1 in
    ap (λ w. take c.args.w.n w.array) c.cursor_at-cursor.ensures ∙ take-shown_array (moved (machine_of c.args.w) c.args.place) after

-- so what was counted is how many entries changed
counted : (c : After-differences-changed)
    → c.differences-changed.result
    ≡ entries_changed
    c.args.w.n
    (row_of (machine_of c.args.w))
    (row_of (moved (machine_of c.args.w) c.args.place))
counted c =
    let m = machine_of c.args.w in
    let on = sound_on c.args.w c.requires.0 in
    let there = moved m c.args.place in
    let after = on_moved m on c.args.place c.requires.1 in
    let old = sound_array c.args.w c.requires.0 in
    let new : take c.args.w.n c.cursor_at-cursor.result.array ≡ array_of c.args.w.n (row_of there) =
    ap (λ w. take c.args.w.n w.array) c.cursor_at-cursor.ensures ∙ take-shown_array there after in
    let as_long = length_array (row_permutation m on) ∙ sym (length_array (row_permutation there after)) in
    c.differences-changed.ensures ∙ (λ i. count_by apart (zip (old i) (new i))) ∙ differs_in_all _ _ as_long

pub cursor_at-cursor-requires : goal.cursor_at-cursor-requires
cursor_at-cursor-requires c = on_passes (moved (machine_of c.args.w) c.args.place) (after_on c)

pub step_between-answer-requires : goal.step_between-answer-requires
step_between-answer-requires c =
    let row = row_permutation (machine_of c.args.w) (before_on (goal.at.step_between-answer-requires c).Start) in
    rw (old_row (goal.at.step_between-answer-requires c).Start, new_row (goal.at.step_between-answer-requires c).After-cursor_at-cursor, row.size) (row, c.requires.2, counted (goal.at.step_between-answer-requires c).After-differences-changed)

pub returns : goal.returns
returns c =
    let row = row_permutation (machine_of c.args.w) (before_on (goal.at.returns c).Start) in
    let cursor = c.cursor_at-cursor.ensures in
    let steps = rw (old_row (goal.at.returns c).Start, new_row (goal.at.returns c).After-cursor_at-cursor, row.size) at c.step_between-answer.ensures in
    λ i. record { cursor = cursor i; answer = steps i }
