-- Laws of the counts c(n,k), from the recurrence; and of the checks 1, 2 and 3: what n, k and the place are where they pass, and where they refuse.
-- Assumes nothing.
use Prim.Native.Nat.{ℕ, zero, suc, ◌+◌, ◌*◌, ◌^◌, ◌≤◌, ◌<◌}
use native.Mathlib.Omega.{arith}
use native.Mathlib.Nat.{le_trans, lt_of_le_of_lt, lt_of_not-le, mul-le-mul, mul-le-mul_left, mul-zero, mul-pos}
use mathlib.Core.Path.{◌≡◌, ◌∙◌, refl, sym}
use mathlib.Core.Bool.{Bool, true, false, not, cond}
use mathlib.Core.List.{List}
use lib.Dec.{eqb, leb, ltb, lit<}
use borrow.Author.Tests.{eqb-true, leb-true, leb-false, ltb-true, ltb-false, eq-eqb, ne_eqb, le-leb, lt-leb, le-ltb, lt-ltb, not-false}
use Rattle.stirling.specs.Refusal.{refuse, ◌then◌, within}
use Rattle.stirling.specs.Count.{c, entry_of, IsTable, check_size, cycles_taken, check_cycles, check_place_in, check_place, lookup_of}
use Rattle.stirling.proofs.Refusals.{refuse-passed, then_passed, within_holds, within_fails}

-- c(n,k) = (n−1)×c(n−1,k) + c(n−1,k−1)
pub recurrence : (n k : ℕ) → c (suc n) (suc k) ≡ n * c n (suc k) + c n k
unfolding c
recurrence n k = refl

-- no permutation of n has more than n cycles
pub above : (n k : ℕ) → n < k → c n k ≡ 0
unfolding c
above zero zero h = absurd (omega arith)
above zero (suc k) h = refl
above (suc n) zero h = absurd (omega arith)
above (suc n) (suc k) h =
    let e : c n (suc k) ≡ 0 = above n (suc k) (omega arith) in
    let d : c n k ≡ 0 = above n k (omega arith) in
    rw (e, d) (omega (arith, mul-zero n))

-- a permutation of n ≥ 1 has at least one cycle
pub no_cycle : (n : ℕ) → 1 ≤ n → c n 0 ≡ 0
unfolding c
no_cycle zero h = absurd (omega arith)
no_cycle (suc n) h = refl

-- the one permutation of 0 has no cycle
nothing : c 0 0 ≡ 1
unfolding c
nothing = refl

-- for every k from 1 to n some permutation of n has k cycles
positive : (n k : ℕ) → 1 ≤ k → k ≤ n → 0 < c n k
positive n zero l h = absurd (omega arith)
positive zero (suc k) l h = absurd (omega arith)
positive (suc zero) (suc zero) l h = rw recurrence (omega (arith, nothing))
positive (suc zero) (suc (suc k)) l h = absurd (omega arith)
positive (suc (suc n)) (suc zero) l h =
    let p : 0 < suc n * c (suc n) 1 = mul-pos (omega arith) (positive (suc n) 1 l (omega arith)) in
    rw recurrence (omega arith)
positive (suc (suc n)) (suc (suc k)) l h =
    let p : 0 < c (suc n) (suc k) = positive (suc n) (suc k) (omega arith) (omega arith) in
    rw recurrence (omega arith)

-- one permutation of n has n cycles, or more
pub one_each : (n : ℕ) → 0 < c n n
one_each zero = omega (arith, nothing)
one_each (suc n) = positive (suc n) (suc n) (omega arith) (omega arith)

-- where there is a place, k is at most n, and 1 at least where n is
pub inside : (n k r : ℕ) → r < c n k → (1 ≤ n → 1 ≤ k) × (k ≤ n)
inside n zero r h = (λ l. absurd (omega (arith, no_cycle n l)), omega arith)
inside n (suc k) r h = (λ l. omega arith, lt_of_not-le (λ o. omega (arith, above n (suc k) (omega arith))))

-- how many permutations of n there are
unfoldable factorial : ℕ → ℕ
factorial zero = 1
factorial (suc n) = suc n * factorial n

-- the permutations of n with k cycles are among all permutations of n
among : (n k : ℕ) → c n k ≤ factorial n
unfolding c factorial
among zero zero = omega arith
among zero (suc k) = omega arith
among (suc n) zero = omega arith
among (suc n) (suc k) = omega (arith, mul-le-mul_left n (among n (suc k)), among n k)

factorial_grows : (n m : ℕ) → n ≤ m → factorial n ≤ factorial m
unfolding factorial
factorial_grows zero zero h = omega arith
factorial_grows zero (suc m) h = omega (arith, factorial_grows zero m (omega arith))
factorial_grows (suc n) zero h = absurd (omega arith)
factorial_grows (suc n) (suc m) h = mul-le-mul h (factorial_grows n m (omega arith))

-- every count with n up to 20 fits 64 bits
pub fits : (n k : ℕ) → n ≤ 20 → c n k < 2 ^ 64
unfolding factorial
fits n k h = lt_of_le_of_lt (le_trans (among n k) (factorial_grows n 20 h)) (lit< tt)

-- check 1 passes where n is at most 20
pub size_passes : (n : ℕ) → n ≤ 20 → check_size n ≡ 0
size_passes n h = rw (le-ltb 20 n h)

-- and only there
pub size-passed : (n : ℕ) → check_size n ≡ 0 → n ≤ 20
size-passed n e = ltb-false 20 n (refuse-passed (ltb 20 n) 0 e)

-- elsewhere it refuses
pub size_refuses : (n : ℕ) → 20 < n → check_size n ≡ 1
size_refuses n h = rw (lt-ltb 20 n h)

-- check 2 takes k = 0 with n = 0
pub taken_none : (n k : ℕ) → n ≡ 0 → k ≡ 0 → cycles_taken n k ≡ true
taken_none n k e z = rw (eq-eqb n 0 e, eq-eqb k 0 z)

-- and k from 1 to n
pub taken_some : (n k : ℕ) → 1 ≤ k → k ≤ n → cycles_taken n k ≡ true
taken_some n k l h = rw (ne_eqb n 0 (λ e. omega arith), within_holds 1 n k l h)

-- and no other
pub taken_fails : (n k : ℕ) → (n ≡ 0 → k ≡ 0 → ⊥) → (1 ≤ k → k ≤ n → ⊥) → cycles_taken n k ≡ false
taken_fails n k none out = by_size (eqb n 0) refl
  where
    by_size : (b : Bool) → eqb n 0 ≡ b → cond b (eqb k 0) (within 1 n k) ≡ false
    by_size true e = ne_eqb k 0 (none (eqb-true n 0 e))
    by_size false e = within_fails 1 n k out

-- so it takes exactly the numbers of cycles that permutations of n have
pub taken-counted : (n k : ℕ) → cycles_taken n k ≡ ltb 0 (c n k)
taken-counted zero zero = rw nothing
taken-counted zero (suc k) = rw (taken_fails 0 (suc k) (λ e z. omega arith) (λ l h. omega arith), above 0 (suc k) (omega arith))
taken-counted (suc n) zero = rw (taken_fails (suc n) 0 (λ e z. omega arith) (λ l h. omega arith), no_cycle (suc n) (omega arith))
taken-counted (suc n) (suc k) = by_most (leb (suc k) (suc n)) refl
  where
    by_most : (b : Bool) → leb (suc k) (suc n) ≡ b → cycles_taken (suc n) (suc k) ≡ ltb 0 (c (suc n) (suc k))
    by_most true e =
        let h = leb-true (suc k) (suc n) e in
        taken_some (suc n) (suc k) (omega arith) h ∙ sym (lt-ltb 0 (c (suc n) (suc k)) (positive (suc n) (suc k) (omega arith) h))
    by_most false e =
        let h = leb-false (suc k) (suc n) e in
        taken_fails (suc n) (suc k) (λ z. omega arith) (λ l u. omega arith) ∙ rw (above (suc n) (suc k) h)

-- checks 1 and 2 pass where n is at most 20 and S(n,k) has a place
pub cycles_passes : (n k r : ℕ) → n ≤ 20 → r < c n k → check_cycles n k ≡ 0
cycles_passes n k r h p = rw (size_passes n h, taken-counted n k, lt-ltb 0 (c n k) (omega arith))

-- and only there
pub cycles-passed : (n k : ℕ) → check_cycles n k ≡ 0 → (n ≤ 20) × (0 < c n k)
cycles-passed n k e =
    let both = then_passed (check_size n) (refuse (not (cycles_taken n k)) 2) e in
    let taken : cycles_taken n k ≡ true = not-false (cycles_taken n k) (refuse-passed (not (cycles_taken n k)) 1 both.1) in
    (size-passed n both.0, ltb-true 0 (c n k) (sym (taken-counted n k) ∙ taken))

-- checks 1, 2 and 3 pass where n is at most 20 and S(n,k) has that place
pub place_passes : (n k r : ℕ) → n ≤ 20 → r < c n k → check_place n k r ≡ 0
place_passes n k r h p = rw (cycles_passes n k r h p, lt-leb (c n k) r p)

-- and only there
pub place-passed : (n k r : ℕ) → check_place n k r ≡ 0 → (n ≤ 20) × (r < c n k)
place-passed n k r e =
    let both = then_passed (check_cycles n k) (refuse (leb (c n k) r) 3) e in
    ((cycles-passed n k both.0).0, leb-false (c n k) r (refuse-passed (leb (c n k) r) 2 both.1))

-- where checks 1 and 2 pass, check 3 refuses a place from c(n,k) on
pub place_refuses : (n k r : ℕ) → check_cycles n k ≡ 0 → c n k ≤ r → check_place n k r ≡ 3
place_refuses n k r e p = rw (e, le-leb (c n k) r p)

-- the table's entry is the count
pub looked_up : (n k : ℕ) → n ≤ 20 → lookup_of n k ≡ c n k
looked_up n k h = rw (le-leb n 20 h)

-- what a table of the counts has for n and k is what a lookup gives, and by it check 3 is that of document 01
module _ {counts : List ℕ} (w : IsTable counts) (n k : ℕ) where
  pub entry-looked-up : entry_of counts n k ≡ lookup_of n k
  entry-looked-up = by_size (leb n 20) refl
    where
      by_size : (b : Bool) → leb n 20 ≡ b → entry_of counts n k ≡ lookup_of n k
      by_size true e = w.holds n k (leb-true n 20 e) ∙ sym (looked_up n k (leb-true n 20 e))
      by_size false e = rw e

  pub place-by-table : (r : ℕ) → check_place_in counts n k r ≡ check_place n k r
  place-by-table r = by-cycles (check_cycles n k) refl
    where
      by-cycles : (a : ℕ) → check_cycles n k ≡ a → a then refuse (leb (entry_of counts n k) r) 3 ≡ a then refuse (leb (c n k) r) 3
      by-cycles zero e = rw (w.holds n k (cycles-passed n k e).0)
      by-cycles (suc a) e = refl
