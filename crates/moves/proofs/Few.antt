-- A permutation of n has at most n values away from their own position, and at most half as many cycles of two or more: twice the moves that it takes are at most 3·n.
-- From what a permutation's values and cycles are, and the laws of counting. Assumes nothing.
use mathlib.Core.Path.{◌≡◌, ap}
use Prim.Native.Nat.{ℕ, zero, suc, ◌+◌, ◌*◌, ◌≤◌}
use native.Mathlib.Omega.{arith}
use mathlib.Core.Bool.{Bool, true, false, not, ◌&&◌}
use mathlib.Core.List.{List}
use lib.Dec.{T, eqb}
use lib.ListN.{length}
use borrow.Author.Tests.{ne_eqb}
use Rattle.perm.specs.Lists.{one, tally, range, positions}
use Rattle.perm.specs.Permutation.{IsPermutation, at}
use Rattle.perm.specs.Cycle.{follow, least}
use Rattle.perm.proofs.Tally.{refuted, tally-sum, tally-positions, tally-not, length-range}
use Rattle.perm.proofs.Values.{in_range, injective, tally_at}
use Rattle.perm.proofs.Split.{Split, extended, inserted, split, tally-extend, tally-insert}
use Rattle.perm.proofs.Arrays.{empty}
use Rattle.perm.proofs.Cycles.{one_least}
use Rattle.moves.specs.Written.{begins, away, long_cycles}
use Rattle.perm.proofs.Counting.{tally-le}
use Rattle.moves.proofs.Long.{begins_least, begins-away}

-- a test counts alike on the values of a permutation and on the positions
values-split : {n : ℕ} {s : List ℕ} (p : ℕ → Bool) → ((γ : List ℕ) → IsPermutation n γ → tally p γ ≡ tally p (positions n)) → Split n s
    → tally p s ≡ tally p (positions (suc n))
values-split {n} p ih (extended γ g) = omega (arith, tally-extend p (suc n) γ, ih γ g, tally-positions p n)
values-split {n} p ih (inserted i γ h k g) = omega (arith, tally-insert γ i h k g.size p, tally-extend p (suc n) γ, ih γ g, tally-positions p n)

tally-values : {n : ℕ} {s : List ℕ} (p : ℕ → Bool) → IsPermutation n s → tally p s ≡ tally p (positions n)
unfolding range
tally-values {n = zero} {s} p g = ap (tally p) (empty s g.size)
tally-values {n = suc n} p g = values-split p (λ γ q. tally-values p q) (split g)

-- a test that passes does so with another test or with its negation
one_both : (a b : Bool) → one b ≡ one (a && b) + one (not a && b)
one_both true b = omega arith
one_both false b = omega arith

-- i has another value than its own, and is not the least position of its cycle
led : List ℕ → ℕ → Bool
led s i = not (least s i) && not (eqb (at s i) i)

module _ {n : ℕ} {s : List ℕ} (p : IsPermutation n s) where
  -- such is the position that the least of a cycle of two or more leads to
  begins-led : (a : ℕ) → 1 ≤ a → a ≤ n → begins s a ≡ true → led s (at s a) ≡ true
  unfolding led follow
  begins-led a h k b =
      let r = in_range p a h k in
      let other : T (least s (at s a)) → ⊥ = λ l. begins-away s a b (one_least p a 1 0 h k l (begins_least s a b)) in
      let goes : at s (at s a) ≡ at s a → ⊥ = λ e. begins-away s a b (injective p (at s a) a r.0 r.1 h k e) in
      rw (refuted (least s (at s a)) (λ e. other (rw e tt)), ne_eqb (at s (at s a)) (at s a) goes)

  -- at least two values of each such cycle are away
  long-away : 2 * long_cycles s ≤ away s
  unfolding long_cycles away led
  long-away =
      let z = p.size in
      let split-away = tally-sum (λ i. not (eqb (at s i) i)) (begins s) (led s) (positions n) (λ i. one_both (least s i) (not (eqb (at s i) i))) in
      let fewer = tally-le (begins s) (λ i. led s (at s i)) 1 n (λ a h k. begins-led a h (omega arith)) in
      rw z (omega (arith, split-away, fewer, tally_at (led s) s z, tally-values (led s) p))

  -- there are at most 3·n / 2 values away and such cycles together
  pub few : 2 * (away s + long_cycles s) ≤ 3 * n
  unfolding away
  few = omega (arith, p.size, long-away, tally-not (λ i. eqb (at s i) i) (positions (length s)), length-range 1 (length s))
