-- What the call for the moves to a permutation answers and writes. Assumes nothing.
use mathlib.Core.Path.{◌≡◌, ◌∙◌}
use Prim.Native.Nat.{ℕ, ◌*◌, ◌/◌, ◌≤◌}
use native.Mathlib.Omega.{arith}
use mathlib.Core.List.{List, ◌++◌}
use lib.ListN.{length, take, drop}
use borrow.Author.Tests.{le-ltb}
use Rattle.stirling.proofs.Refusals.{then_passes, refuse_passes}
use Rattle.perm.specs.Permutation.{IsPermutation}
use Rattle.perm.specs.Checks.{check_permutation}
use Rattle.perm.specs.Pairs.{Pair, front}
use Rattle.perm.proofs.Pairs.{take-front}
use Rattle.moves.specs.Written.{moves_of}
use Rattle.moves.specs.Calls.{check_moves, list_of}
use Rattle.moves.proofs.Total.{total}
use Rattle.moves.proofs.Few.{few}

-- the moves to a permutation of 20 values or fewer are at most 30
pub few_moves : {s : List ℕ} → IsPermutation (length s) s → length s ≤ 20 → length (moves_of s) ≤ 30
few_moves {s} p h = omega (arith, total p, few p)

-- moves that were written to the front of one buffer, copied to the front of another
pub copied : (ms : List Pair) (lent before : List ℕ) {size : ℕ} {made : List ℕ} → size ≡ 2 * length ms → made ≡ front ms lent
    → take size made ++ drop size before ≡ front ms before
copied ms lent before e f = rw (e, f, take-front ms lent)

-- the moves are counted where the permutation passes, and they fit the buffer
pub served : (s before : List ℕ) → check_permutation s ≡ 0 → {size : ℕ} → size ≡ 2 * length (moves_of s) → size ≤ length before
    → record { refusal = 0; count = size / 2 } ≡ list_of s (length before)
served s before passed {size} bytes h =
    let none : check_moves s (length before) ≡ 0 = then_passes _ _ passed ∙ refuse_passes _ 5 (le-ltb _ _ (rw bytes at h)) in
    let half : size / 2 ≡ length (moves_of s) = omega arith in
    rw (none, half)
