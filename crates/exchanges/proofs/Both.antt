-- The checks on two permutations: what passes them. Assumes nothing.
use mathlib.Core.Path.{◌≡◌, ◌∙◌}
use Prim.Native.Nat.{ℕ, ◌*◌, ◌≤◌}
use mathlib.Core.List.{List}
use lib.Dec.{ltb}
use lib.ListN.{length}
use borrow.Author.Tests.{ltb-false}
use Rattle.stirling.specs.Refusal.{◌then◌}
use Rattle.stirling.specs.Count.{check_size}
use Rattle.stirling.proofs.Refusals.{then_passed, then_passes, refuse-passed}
use Rattle.perm.specs.Permutation.{IsPermutation}
use Rattle.perm.specs.Checks.{check_lent, check_values, check_twice}
use Rattle.perm.proofs.Refused as Refused
use Rattle.perm.proofs.Checked.{checked}
use Rattle.exchanges.specs.Between.{pairs_between, check_lengths, check_contents, check_room, check_between}

-- two permutations of one n
pub record Both (s t : List ℕ) : Type 0 where
  pub small : length s ≤ 20
  pub equal : length t ≡ length s
  pub from : IsPermutation (length s) s
  pub to : IsPermutation (length s) t

-- the lengths that pass
pub lengths_passed : (n m : ℕ) → check_lengths n m ≡ 0 → (n ≤ 20) × (m ≡ n)
lengths_passed n m e =
    let b = then_passed (check_size n then check_size m) (check_lent n m) e in
    let a = then_passed (check_size n) (check_size m) b.0 in
    Refused.lengths_passed n m (then_passes (check_size n) (check_lent n m) a.0 ∙ b.1)

-- the permutations that pass
pub both_passed : (s t : List ℕ) → check_lengths (length s) (length t) ≡ 0 → check_contents s t ≡ 0 → Both s t
both_passed s t e f =
    let d = then_passed (check_values s then check_values t then check_twice s) (check_twice t) f in
    let c = then_passed (check_values s then check_values t) (check_twice s) d.0 in
    let b = then_passed (check_values s) (check_values t) c.0 in
    let l = lengths_passed (length s) (length t) e in
    record { small = l.0; equal = l.1; from = checked s b.0 c.1; to = rw l.1 at (checked t b.1 d.1) }

-- what passes all the checks: two permutations of one n, and a buffer for their pairs
pub between_passed : (s t : List ℕ) (size : ℕ) → check_between s t size ≡ 0 → Both s t × (2 * length (pairs_between s t) ≤ size)
between_passed s t size e =
    let p = then_passed (check_lengths (length s) (length t) then check_contents s t) (check_room s t size) e in
    let q = then_passed (check_lengths (length s) (length t)) (check_contents s t) p.0 in
    let room = refuse-passed (ltb size (2 * length (pairs_between s t))) 4 p.1 in
    (both_passed s t q.0 q.1, ltb-false size (2 * length (pairs_between s t)) room)
