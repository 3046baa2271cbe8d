-- The checks of a permutation and a list of moves: which refusal they give, and what is known where they give none. Assumes nothing.
use mathlib.Core.Path.{◌≡◌, refl, sym, ap, ◌∙◌}
use native.Mathlib.Nat.{zero-add}
use borrow.Table.Steps.{cases}
use Rattle.std.specs.List.{list_all}
use Prim.Native.Nat.{ℕ, ◌+◌, ◌%◌, ◌≤◌, ◌<◌}
use native.Mathlib.Omega.{arith}
use mathlib.Core.Bool.{Bool, true, false, not}
use mathlib.Core.List.{List, [], ◌∷◌}
use lib.Dec.{eqb, leb, ltb}
use lib.ListN.{length, get_or}
use borrow.Author.Tests.{ne_eqb, ltb-false, lt-ltb, le-ltb, leb-true, leb-false}
use Rattle.stirling.specs.Refusal.{refuse, ◌then◌}
use Rattle.stirling.specs.Count.{check_size}
use Rattle.stirling.proofs.Refusals.{then_passed}
use Rattle.stirling.proofs.Counts.{size-passed}
use Rattle.perm.specs.Lists.{tally, some}
use Rattle.perm.specs.Checks.{check_values, check_twice, check_permutation}
use Rattle.perm.proofs.Tally.{none_passes}
use Rattle.perm.proofs.Checked.{unrefused, some_outside, some_twice}
use Rattle.moves.specs.Calls.{check_positions, check_list}

-- 6 for the list stands before 7, whether there is a 6 for the permutation or not
six_first : (a b : Bool) → 6 ≡ refuse a 6 then 6 then refuse b 7
six_first true b = refl
six_first false b = refl

-- and where there is none for the list, the permutation decides
none_between : (a : Bool) (last : ℕ) → refuse a 6 then last ≡ refuse a 6 then 0 then last
none_between true last = refl
none_between false last = refl

-- a position above n is there just if not all are at most n
some_above : (n : ℕ) (list : List ℕ) → some (ltb n) list ≡ not (list_all (λ p. leb p n) list)
unfolding tally
some_above n [] = refl
some_above n (x ∷ list) =
    cases
    (leb x n)
    (λ t. rw (t, le-ltb n x (leb-true x n t), zero-add) (some_above n list))
    (λ f. rw (f, lt-ltb n x (leb-false x n f)) (lt-ltb 0 (1 + tally (ltb n) list) (omega arith)))

module _ (s list : List ℕ) (size : check_size (length s) ≡ 0) (even : length list % 2 ≡ 0) {inside : Bool} (e : inside ≡ list_all (λ p. leb p (length s)) list) where
  not-odd : eqb (length list % 2) 1 ≡ false
  not-odd = ne_eqb (length list % 2) 1 (λ o. omega arith)

  above : some (ltb (length s)) list ≡ not inside
  above = some_above (length s) list ∙ ap not (sym e)

  -- a position above n is refused
  pub refused-positions : inside ≡ false → 6 ≡ check_list s list
  refused-positions f = rw (size, not-odd, above, f) (six_first (some_outside s) (some_twice s))

  -- and where there is none, the checks of the permutation decide
  pub permutation-decides : inside ≡ true → (r : ℕ) → r ≡ check_permutation s → r ≡ check_list s list
  permutation-decides t r p = p ∙ rw (size, not-odd, above, t) (none_between (some_outside s) (check_twice s))

-- where nothing is refused, n is at most 20 and each position of the list at most n
pub list_passed : (s list : List ℕ) → check_list s list ≡ 0 → (length s ≤ 20) × ((i : ℕ) → i < length list → get_or list i 0 ≤ length s)
list_passed s list e =
    let n = length s in
    let d = then_passed (check_size n then refuse (eqb (length list % 2) 1) 5 then check_values s then check_positions n list) (check_twice s) e in
    let c = then_passed (check_size n then refuse (eqb (length list % 2) 1) 5 then check_values s) (check_positions n list) d.0 in
    let b = then_passed (check_size n then refuse (eqb (length list % 2) 1) 5) (check_values s) c.0 in
    let a = then_passed (check_size n) (refuse (eqb (length list % 2) 1) 5) b.0 in
    (size-passed n a.0, λ i h. ltb-false n (get_or list i 0) (none_passes (ltb n) 0 list (unrefused (ltb n) list 5 c.1) i h))
