-- Sums of counts, and what a test of two parts counts. Assumes nothing.
use mathlib.Core.Path.{◌≡◌, refl, sym, ap, ◌∙◌}
use Prim.Native.Nat.{ℕ, zero, suc, ◌+◌, ◌-◌, ◌*◌, ◌≤◌, ◌<◌}
use native.Mathlib.Nat.{suc-mul, zero-mul}
use native.Mathlib.Omega.{arith}
use mathlib.Core.Bool.{Bool, true, false, cond, ◌&&◌}
use mathlib.Core.List.{List, [], ◌∷◌}
use lib.Dec.{eqb}
use lib.ListN.{length, get_or, take}
use lib.Seq.{take-suc}
use Rattle.perm.specs.Lists.{one, tally}
use Rattle.perm.specs.Permutation.{at}
use Rattle.perm.proofs.Tally.{tally-append, tally-none}
use Rattle.gray.specs.Order.{Row}
use Rattle.gray.specs.Listing.{row_at}
use Rattle.gray.proofs.Sum.{sum}

-- a test that is a fixed answer and another test counts as the other, or nothing
pub tally-and : (b : Bool) (p : Row → Bool) (L : List Row) → tally (λ γ. b && p γ) L ≡ cond b (tally p L) 0
tally-and true p L = refl
tally-and false p L = tally-none (λ γ. false) [] L (λ i h. refl)

-- sums of parts that are sums
sum_add : (f g : ℕ → ℕ) (n : ℕ) → sum (λ i. f i + g i) n ≡ sum f n + sum g n
unfolding sum
sum_add f g zero = omega arith
sum_add f g (suc n) = omega (arith, sum_add f g n)

-- sums of equal parts
pub sum_cong : (f g : ℕ → ℕ) (n : ℕ) → ((i : ℕ) → 1 ≤ i → i ≤ n → f i ≡ g i) → sum f n ≡ sum g n
unfolding sum
sum_cong f g zero h = refl
sum_cong f g (suc n) h = omega (arith, sum_cong f g n (λ i l u. h i l (omega arith)), h (suc n) (omega arith) (omega arith))

sum_none : (n : ℕ) → sum (λ i. 0) n ≡ 0
unfolding sum
sum_none zero = refl
sum_none (suc n) = omega (arith, sum_none n)

-- where on each row one of the tests passes for each time that another test does, they count together what that one counts
pub sum-tally : (p : ℕ → Row → Bool) (q : Row → Bool) (n : ℕ) (L : List Row)
    → ((r : ℕ) → r < length L → sum (λ i. one (p i (row_at L r))) n ≡ one (q (row_at L r)))
    → sum (λ i. tally (p i) L) n ≡ tally q L
unfolding tally
sum-tally p q n [] h = sum_none n
sum-tally p q n (γ ∷ L) h =
    omega (arith, sum_add (λ i. one (p i γ)) (λ i. tally (p i) L) n, h 0 (omega arith), sum-tally p q n L (λ r l. h (suc r) (omega arith)))

-- a part for each of the first n entries that is 0
pub sum_zeros : (w : List ℕ) (a n : ℕ) → n ≤ length w → sum (λ i. cond (eqb 0 (at w i)) a 0) n ≡ tally (eqb 0) (take n w) * a
unfolding sum tally
sum_zeros w a zero h = sym (zero-mul a)
sum_zeros w a (suc n) h =
    let e : suc n - 1 ≡ n = omega arith in
    let split : tally (eqb 0) (take (suc n) w) ≡ tally (eqb 0) (take n w) + (one (eqb 0 (get_or w n 0)) + 0) =
    ap (tally (eqb 0)) (take-suc w n 0 (omega arith)) ∙ tally-append (eqb 0) (take n w) (get_or w n 0 ∷ []) in
    rw (split, e) (by_entry (eqb 0 (get_or w n 0)) (sum_zeros w a n (omega arith)))
  where
    by_entry : (b : Bool) → sum (λ i. cond (eqb 0 (at w i)) a 0) n ≡ tally (eqb 0) (take n w) * a
        → sum (λ i. cond (eqb 0 (at w i)) a 0) n + cond b a 0 ≡ (tally (eqb 0) (take n w) + (one b + 0)) * a
    by_entry true q = let t : ℕ = tally (eqb 0) (take n w) in let o : t + 1 ≡ suc t = omega arith in rw o (omega (arith, q, suc-mul t a))
    by_entry false q = let t : ℕ = tally (eqb 0) (take n w) in let o : t + 0 ≡ t = omega arith in rw o (omega (arith, q))
