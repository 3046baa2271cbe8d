-- `moves::list` meets its contract: a refusal, or the moves, which fit the array that they are made in. Assumes nothing.
use mathlib.Core.Path.{◌≡◌, sym, ap, ◌∙◌}
use Prim.Native.Nat.{ℕ, ◌*◌, ◌≤◌}
use native.Mathlib.Omega.{arith}
use lib.ListN.{length, replicate}
use lib.Seq.{length-take-le}
use Rattle.perm.specs.Checks.{check_permutation}
use Rattle.perm.proofs.Pairs.{length_front}
use Rattle.perm.proofs.Refused.{permutation_passed}
use Rattle.moves.specs.Written.{moves_of}
use Rattle.moves.proofs.Results.{few_moves, copied, served}
use Rattle.moves.proofs.list.Goals.{After-write_moves-size, In_ok-check_permutation}
use Rattle.moves.proofs.list.Goals as goal

-- past the checks of the permutation
passed : (c : In_ok-check_permutation) → check_permutation c.args.s.now ≡ 0
passed c = sym c.in_ok-check_permutation.ensures

-- the moves fit the array
fits : (c : After-write_moves-size) → check_permutation c.args.s.now ≡ 0 → c.write_moves-size.result ≤ length c.write_moves-size.new.out
fits c passed =
    let s = c.args.s.now in
    let (few, p) = permutation_passed s passed in
    let (bytes, written) = c.write_moves-size.ensures in
    let room : 2 * length (moves_of s) ≤ length {A = ℕ} (replicate 60 0) = omega (arith, few_moves p few) in
    omega (arith, bytes, ap length written ∙ length_front (moves_of s) (replicate 60 0) room)

pub write_moves-size-requires : goal.write_moves-size-requires
write_moves-size-requires c =
    let s = c.args.s.now in
    let (few, p) = permutation_passed s (passed (goal.at.write_moves-size-requires c).In_ok-check_permutation) in
    (few, p, omega (arith, few_moves p few))

pub slice_bounds-bytes-end : goal.slice_bounds-bytes-end
slice_bounds-bytes-end c = fits (goal.at.slice_bounds-bytes-end c).After-write_moves-size (passed (goal.at.slice_bounds-bytes-end c).In_ok-check_permutation)

pub slice_bounds-copy_from_slice-end-3 : goal.slice_bounds-copy_from_slice-end-3
slice_bounds-copy_from_slice-end-3 c =
    let here = goal.at.slice_bounds-copy_from_slice-end-3 c in
    sym (length-take-le _ c.write_moves-size.new.out (fits here.After-write_moves-size (passed here.In_ok-check_permutation)))

pub copy_from_slice-requires : goal.copy_from_slice-requires
copy_from_slice-requires c =
    let here = goal.at.copy_from_slice-requires c in
    let made = length-take-le _ c.write_moves-size.new.out (fits here.After-write_moves-size (passed here.In_ok-check_permutation)) in
    length-take-le _ c.args.out.now (omega arith) ∙ sym made

pub returns-clause-answer : goal.returns-clause-answer
returns-clause-answer c =
    served c.args.s.now c.args.out.now (passed (goal.at.returns-clause-answer c).In_ok-check_permutation) c.write_moves-size.ensures.0 c.if-out-size.false

pub returns-clause-moves : goal.returns-clause-moves
returns-clause-moves c =
    let (bytes, written) = c.write_moves-size.ensures in
    rw c.copy_from_slice.ensures.after (copied (moves_of c.args.s.now) (replicate 60 0) c.args.out.now bytes written)
