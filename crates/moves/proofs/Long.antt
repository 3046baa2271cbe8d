-- Where a cycle of two or more begins, at its least position: what that says, and that the moves round it come next there and none elsewhere. Assumes nothing.
use mathlib.Core.Path.{◌≡◌, sym, ◌∙◌}
use mathlib.Core.Logic.{◌≢◌}
use mathlib.Core.Bool.{true, false, not, true≢false}
use Prim.Native.Nat.{ℕ, suc}
use native.Mathlib.Decide.{ℕ_discrete}
use mathlib.Core.List.{List, ◌++◌, append-nil}
use lib.Dec.{T, eqb}
use borrow.Author.Tests.{not-true, eqb-false, ne_eqb}
use Rattle.stirling.proofs.Refusals.{and-true}
use Rattle.perm.specs.Permutation.{at}
use Rattle.perm.specs.Cycle.{least}
use Rattle.perm.proofs.Cycles.{same_test}
use Rattle.moves.specs.Written.{around, begins, moves_to}

-- its least position has another value than its own
pub begins_least : (s : List ℕ) (a : ℕ) → begins s a ≡ true → T (least s a)
begins_least s a e = rw (and-true (least s a) (not (eqb (at s a) a)) e).0 tt

pub begins-away : (s : List ℕ) (a : ℕ) → begins s a ≡ true → at s a ≢ a
begins-away s a e = eqb-false (at s a) a (not-true (eqb (at s a) a) (and-true (least s a) (not (eqb (at s a) a)) e).1)

-- and such a position begins one
pub begins_holds : (s : List ℕ) (a : ℕ) → T (least s a) → at s a ≢ a → begins s a ≡ true
begins_holds s a l d = rw (same_test (least s a) true (λ _. tt) (λ _. l), ne_eqb (at s a) a d)

-- so where none begins, the least position of a cycle has its own value
pub begins-not : (s : List ℕ) (a : ℕ) → begins s a ≡ false → T (least s a) → at s a ≡ a
begins-not s a b l = by_value (ℕ_discrete (at s a) a)
  where
    by_value : Dec (at s a ≡ a) → at s a ≡ a
    by_value (yes e) = e
    by_value (no d) = absurd (true≢false (sym (begins_holds s a l d) ∙ b))

-- the moves with one position more
pub moves_begun : (s : List ℕ) (m : ℕ) → begins s (suc m) ≡ true → moves_to s (suc m) ≡ moves_to s m ++ around s (suc m)
unfolding moves_to
moves_begun s m b = rw b

pub moves_none : (s : List ℕ) (m : ℕ) → begins s (suc m) ≡ false → moves_to s (suc m) ≡ moves_to s m
unfolding moves_to
moves_none s m b = rw b (append-nil (moves_to s m))
