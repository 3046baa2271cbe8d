-- What check 15 tests of a position: two steps from it lead elsewhere, and so no one and no two steps close its cycle. Assumes nothing.
use mathlib.Core.Path.{◌≡◌, refl, sym, ap, ◌∙◌}
use Prim.Native.Nat.{ℕ, zero, suc, ◌+◌, ◌≤◌}
use native.Mathlib.Omega.{arith}
use mathlib.Core.Bool.{Bool, true, false, not, true≢false}
use mathlib.Core.Logic.{◌≢◌}
use mathlib.Core.List.{List}
use lib.Dec.{eqb, ltb}
use borrow.Author.Tests.{eqb-true, eq-eqb, not-false}
use Rattle.perm.specs.Lists.{one, tally, range}
use Rattle.perm.specs.Permutation.{at}
use Rattle.perm.specs.Cycle.{follow}
use Rattle.tree.specs.Involution.{longer}

-- of two tests, the second passing where the first does, some passes just if the second does
some_second : (a b : Bool) → (a ≡ true → b ≡ true) → ltb 0 (one a + (one b + 0)) ≡ b
some_second true b h = rw (h refl)
some_second false true h = refl
some_second false false h = refl

-- a cycle is longer than two just if two steps do not come back: where one step does, two do
pub longer_two : (s : List ℕ) (i : ℕ) → longer s i ≡ not (eqb (at s (at s i)) i)
unfolding tally range follow
longer_two s i = ap not (some_second (eqb (at s i) i) (eqb (at s (at s i)) i) (λ t. let e = eqb-true (at s i) i t in eq-eqb (at s (at s i)) i (ap (at s) e ∙ e)))

-- no one and no two steps close a cycle longer than two
open_at : (s : List ℕ) (i : ℕ) → longer s i ≡ true → at s (at s i) ≢ i
open_at s i e g = true≢false (sym e ∙ longer_two s i ∙ ap not (eq-eqb (at s (at s i)) i g))

pub longer_open : (s : List ℕ) (i : ℕ) → longer s i ≡ true → (t : ℕ) → 1 ≤ t → follow s t i ≡ i → 3 ≤ t
unfolding follow
longer_open s i e zero a f = absurd (omega arith)
longer_open s i e (suc zero) a f = absurd (open_at s i e (ap (at s) f ∙ f))
longer_open s i e (suc (suc zero)) a f = absurd (open_at s i e f)
longer_open s i e (suc (suc (suc t))) a f = omega arith

-- and two steps close any other
pub longer_closed : (s : List ℕ) (i : ℕ) → longer s i ≡ false → follow s 2 i ≡ i
unfolding follow
longer_closed s i e = eqb-true (at s (at s i)) i (not-false _ (sym (longer_two s i) ∙ e))
