-- The rule of a flat table of 21 × 21 counts: one test, which antt computes, that each entry follows from those of the row before by the recurrence; and the law
-- that a table that passes it holds the counts. Assumes nothing.
use Prim.Native.Nat.{ℕ, zero, suc, ◌+◌, ◌*◌, ◌≤◌, ◌<◌}
use native.Mathlib.Omega.{arith}
use mathlib.Core.Path.{◌≡◌, refl, sym, ◌∙◌}
use mathlib.Core.Bool.{Bool, true, false, ◌&&◌}
use mathlib.Core.List.{List}
use lib.Dec.{T, eqb, eqb→eq, leb}
use lib.ListN.{get_or}
use borrow.Author.Tests.{leb-true, leb-false, le-leb}
use Rattle.stirling.specs.Count.{c, entry_of, IsTable}
use Rattle.stirling.proofs.Counts.{above}

-- the entry for n and k up to 20
abbrev entry : List ℕ → ℕ → ℕ → ℕ
entry xs n k = get_or xs (n * 21 + k) 0

-- document 01's recurrence at n and k, between entries of the table
abbrev right : List ℕ → ℕ → ℕ → Bool
right xs zero zero = eqb (entry xs 0 0) 1
right xs zero (suc k) = eqb (entry xs 0 (suc k)) 0
right xs (suc n) zero = eqb (entry xs (suc n) 0) 0
right xs (suc n) (suc k) = eqb (entry xs (suc n) (suc k)) (n * entry xs n (suc k) + entry xs n k)

-- a test passes at each number below a bound
abbrev pub all : (ℕ → Bool) → ℕ → Bool
all f zero = true
all f (suc m) = f 0 && all (λ i. f (suc i)) m

-- the test of the whole table: every entry is right
abbrev pub every_right : List ℕ → Bool
every_right xs = all (λ n. all (right xs n) 21) 21

pub and_left : (a b : Bool) → T (a && b) → T a
and_left true b t = tt
and_left false b t = t

pub and_right : (a b : Bool) → T (a && b) → T b
and_right true b t = t
and_right false b t = absurd t

-- a test of all numbers below a bound, at one of them
pub all_at : (f : ℕ → Bool) (m : ℕ) → T (all f m) → (i : ℕ) → i < m → T (f i)
all_at f zero t i h = absurd (omega arith)
all_at f (suc m) t zero h = and_left (f 0) (all (λ i. f (suc i)) m) t
all_at f (suc m) t (suc i) h = all_at (λ i. f (suc i)) m (and_right (f 0) (all (λ i. f (suc i)) m) t) i (omega arith)

-- where the test passes, each entry is right
right_at : (xs : List ℕ) → T (every_right xs) → (n k : ℕ) → n ≤ 20 → k ≤ 20 → T (right xs n k)
right_at xs t n k hn hk = all_at (right xs n) 21 (all_at (λ n. all (right xs n) 21) 21 t n (omega arith)) k (omega arith)

-- at n and k up to 20 it is the count
counted : (xs : List ℕ) → T (every_right xs) → (n k : ℕ) → n ≤ 20 → k ≤ 20 → entry xs n k ≡ c n k
unfolding c
counted xs t zero zero hn hk = eqb→eq _ _ (right_at xs t 0 0 hn hk)
counted xs t zero (suc k) hn hk = eqb→eq _ _ (right_at xs t 0 (suc k) hn hk)
counted xs t (suc n) zero hn hk = eqb→eq _ _ (right_at xs t (suc n) 0 hn hk)
counted xs t (suc n) (suc k) hn hk =
    eqb→eq _ _ (right_at xs t (suc n) (suc k) hn hk) ∙ rw (counted xs t n (suc k) (omega arith) hk, counted xs t n k (omega arith) (omega arith))

-- and for a k above 20 there is none
entry_counted : (xs : List ℕ) → T (every_right xs) → (n k : ℕ) → n ≤ 20 → (b : Bool) → leb k 20 ≡ b → entry_of xs n k ≡ c n k
entry_counted xs t n k h true e = rw (le-leb n 20 h, e) (counted xs t n k h (leb-true k 20 e))
entry_counted xs t n k h false e = let above-20 = leb-false k 20 e in rw (le-leb n 20 h, e) (sym (above n k (omega arith)))

-- a table that passes the test holds the counts
pub is_table : (xs : List ℕ) → T (every_right xs) → IsTable xs
is_table xs t = record { holds = λ n k h. entry_counted xs t n k h (leb k 20) refl }
