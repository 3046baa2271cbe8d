-- A chain of checks, check by check: which refusal it gives, and what is known where it gives none. Assumes nothing.
use Prim.Native.Nat.{ℕ, ◌≤◌}
use mathlib.Core.Path.{◌≡◌, sym, ◌∙◌}
use mathlib.Core.List.{List}
use borrow.Author.Tests.{eq-eqb, ne_eqb, eqb-true, not-false}
use lib.ListN.{length}
use Rattle.stirling.specs.Refusal.{◌then◌}
use Rattle.stirling.specs.Count.{check_size}
use Rattle.stirling.proofs.Refusals.{refuse-passed, then_passes, then_passed}
use Rattle.stirling.proofs.Counts.{size-passed}
use Rattle.perm.specs.Permutation.{IsPermutation}
use Rattle.perm.specs.Checks.{check_lent, check_values, check_twice, check_permutation}
use Rattle.perm.proofs.Checked.{checked}

-- a check that does not refuse leaves the answer to the next
pub next : (a b : ℕ) {r : ℕ} → a ≡ 0 → r ≡ b → r ≡ a then b
next a b z e = e ∙ sym (then_passes a b z)

-- or to the next two
pub next_two : (a b c : ℕ) {r : ℕ} → a ≡ 0 → r ≡ b then c → r ≡ a then b then c
next_two a b c z e = rw z e

-- check 5 refuses another length
pub lent_refuses : (n size : ℕ) → (size ≡ n → ⊥) → 5 ≡ check_lent n size
lent_refuses n size d = rw (ne_eqb size n d)

-- and no other
pub lent_passes : (n size : ℕ) → size ≡ n → 0 ≡ check_lent n size
lent_passes n size e = rw (eq-eqb size n e)

-- where checks 1 and 5 do not refuse, the lengths are as they should be
pub lengths_passed : (n size : ℕ) → check_size n then check_lent n size ≡ 0 → (n ≤ 20) × (size ≡ n)
lengths_passed n size e =
    let both = then_passed (check_size n) (check_lent n size) e in
    (size-passed n both.0, eqb-true size n (not-false _ (refuse-passed _ 4 both.1)))

-- where checks 6 and 7 do not refuse, the slice holds a permutation
pub contents_passed : (s : List ℕ) → check_values s then check_twice s ≡ 0 → IsPermutation (length s) s
contents_passed s e =
    let both = then_passed (check_values s) (check_twice s) e in
    checked s both.0 both.1

-- where checks 1, 6 and 7 pass there is a permutation of at most 20 values
pub permutation_passed : (s : List ℕ) → check_permutation s ≡ 0 → (length s ≤ 20) × IsPermutation (length s) s
permutation_passed s e =
    let (before, twice) = then_passed (check_size (length s) then check_values s) (check_twice s) e in
    let (size, values) = then_passed (check_size (length s)) (check_values s) before in
    (size-passed (length s) size, checked s values twice)
