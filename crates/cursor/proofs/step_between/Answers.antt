-- `cursor::step_between` meets its contract: the rows are near, so each of the three searches finds a position of the step. Assumes nothing.
use mathlib.Core.Path.{◌≡◌, ◌∙◌}
use Prim.Native.Nat.{◌+◌, ◌-◌, ◌<◌}
use native.Mathlib.Omega.{arith}
use lib.ListN.{length}
use Rattle.std.specs.Prelude.{Some}
use Rattle.gray.specs.Listing.{Positions}
use Rattle.cursor.specs.Machine.{step_i, step_j, step_l}
use Rattle.cursor.proofs.Rotate.{near_length}
use Rattle.cursor.proofs.Scans.{near_found, same_index, first_at, second_found, third_found}
use Rattle.cursor.proofs.Steps.{near_step}
use Rattle.cursor.proofs.Zeros.{answer_zeros}
use Rattle.cursor.proofs.step_between.Goals.{Start, After-first_difference, After-unwrap-i, After-index_of, After-unwrap-j, After-index_of-2, After-unwrap-l}
use Rattle.cursor.proofs.step_between.Goals as goal

-- the three positions of the step
three : (c : Start) → Positions (length c.args.old.now) (step_i c.args.old.now c.args.new.now) (step_j c.args.old.now c.args.new.now) (step_l c.args.old.now c.args.new.now)
three c = (near_step c.requires.0 c.requires.1).three

-- the three indexes
at_i : (c : After-unwrap-i) → c.unwrap-i.result ≡ step_i c.args.old.now c.args.new.now - 1
at_i c = first_at (near_found c.requires.0 c.requires.1) c.first_difference.ensures c.unwrap-i.ensures

second : (c : After-index_of) → c.index_of.result ≡ Some (step_j c.args.old.now c.args.new.now - 1)
second c =
    let found = near_found c.requires.0 c.requires.1 in
    second_found found (first_at found c.first_difference.ensures c.unwrap-i.ensures) c.index_of.ensures

at_j : (c : After-unwrap-j) → c.unwrap-j.result ≡ step_j c.args.old.now c.args.new.now - 1
at_j c =
    let found = near_found c.requires.0 c.requires.1 in
    same_index c.unwrap-j.ensures (second_found found (first_at found c.first_difference.ensures c.unwrap-i.ensures) c.index_of.ensures)

third : (c : After-index_of-2) → c.index_of-2.result ≡ Some (step_l c.args.old.now c.args.new.now - 1)
third c =
    let found = near_found c.requires.0 c.requires.1 in
    let j = same_index c.unwrap-j.ensures (second_found found (first_at found c.first_difference.ensures c.unwrap-i.ensures) c.index_of.ensures) in
    third_found found j c.index_of-2.ensures

at_l : (c : After-unwrap-l) → c.unwrap-l.result ≡ step_l c.args.old.now c.args.new.now - 1
at_l c =
    let found = near_found c.requires.0 c.requires.1 in
    let j = same_index c.unwrap-j.ensures (second_found found (first_at found c.first_difference.ensures c.unwrap-i.ensures) c.index_of.ensures) in
    same_index c.unwrap-l.ensures (third_found found j c.index_of-2.ensures)

pub unwrap-i-requires : goal.unwrap-i-requires
unwrap-i-requires c = rw (c.first_difference.ensures ∙ (near_found c.requires.0 c.requires.1).first)

pub bounds-new-i : goal.bounds-new-i
bounds-new-i c = omega (arith, near_length c.requires.1, three (goal.at.bounds-new-i c).Start, at_i (goal.at.bounds-new-i c).After-unwrap-i)

pub unwrap-j-requires : goal.unwrap-j-requires
unwrap-j-requires c = rw (second (goal.at.unwrap-j-requires c).After-index_of)

pub bounds-new-j : goal.bounds-new-j
bounds-new-j c = omega (arith, near_length c.requires.1, three (goal.at.bounds-new-j c).Start, at_j (goal.at.bounds-new-j c).After-unwrap-j)

pub unwrap-l-requires : goal.unwrap-l-requires
unwrap-l-requires c = rw (third (goal.at.unwrap-l-requires c).After-index_of-2)

-- each of them is the index of a position
inside : (c : After-unwrap-l)
    → (c.unwrap-i.result < length c.args.old.now) × (c.unwrap-j.result < length c.args.old.now) × (c.unwrap-l.result < length c.args.old.now)
inside c =
    let positions = (near_step c.requires.0 c.requires.1).three in
    let found = near_found c.requires.0 c.requires.1 in
    let i = first_at found c.first_difference.ensures c.unwrap-i.ensures in
    let j = same_index c.unwrap-j.ensures (second_found found i c.index_of.ensures) in
    let l = same_index c.unwrap-l.ensures (third_found found j c.index_of-2.ensures) in
    (omega (arith, positions.i_in, i), omega (arith, positions.j_in, j), omega (arith, positions.l_in, l))

pub overflow_add-result : goal.overflow_add-result
overflow_add-result c = omega (arith, inside (goal.at.overflow_add-result c).After-unwrap-l)

pub overflow_add-result-2 : goal.overflow_add-result-2
overflow_add-result-2 c = omega (arith, inside (goal.at.overflow_add-result-2 c).After-unwrap-l)

pub overflow_add-result-3 : goal.overflow_add-result-3
overflow_add-result-3 c = omega (arith, inside (goal.at.overflow_add-result-3 c).After-unwrap-l)

pub returns : goal.returns
returns c =
    let s = c.args.old.now in
    let t = c.args.new.now in
    let positions = three (goal.at.returns c).Start in
    let i : c.unwrap-i.result + 1 ≡ step_i s t = omega (arith, positions, at_i (goal.at.returns c).After-unwrap-i) in
    let j : c.unwrap-j.result + 1 ≡ step_j s t = omega (arith, positions, at_j (goal.at.returns c).After-unwrap-j) in
    let l : c.unwrap-l.result + 1 ≡ step_l s t = omega (arith, positions, at_l (goal.at.returns c).After-unwrap-l) in
    let rest = answer_zeros c.default.result c.default.ensures in
    λ x. record (rest x) { i = i x; j = j x; l = l x; changed = c.requires.2 x }
