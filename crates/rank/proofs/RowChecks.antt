-- What the checks 4 and 5 of the rows say of m, o and the buffer: where they pass, where they refuse, and what a refused call gives.
-- Assumes nothing.
use Prim.Native.Nat.{ℕ, ◌+◌, ◌-◌, ◌*◌, ◌≤◌, ◌<◌}
use native.Mathlib.Omega.{arith}
use native.Mathlib.Nat.{lt_of_not-le, mul-le-mul}
use mathlib.Core.Path.{◌≡◌, refl, sym}
use mathlib.Core.Bool.{Bool, true, false, not, ◌||◌, false≢true}
use mathlib.Core.List.{List}
use lib.Dec.{ltb}
use lib.ListN.{length}
use borrow.Author.Tests.{ltb-false, lt-ltb, le-ltb, not-false}
use Rattle.stirling.specs.Refusal.{refuse, within}
use Rattle.stirling.specs.Count.{c, check_place}
use Rattle.stirling.proofs.Refusals.{refuse-passed, then_passed, within_holds, within-true}
use Rattle.stirling.proofs.Counts.{place-passed}
use Rattle.rank.specs.Place.{check_row_count, check_rows, RowsWritten}

-- neither of two conditions applies
pub neither : (a b : Bool) → a || b ≡ false → (a ≡ false) × (b ≡ false)
neither true b e = absurd (false≢true (sym e))
neither false b e = (refl, e)

-- one of two conditions applies where the second does if the first does not
pub either : (a b : Bool) → (a ≡ false → b ≡ true) → a || b ≡ true
either true b h = refl
either false b h = h refl

-- where checks 1, 2 and 3 pass, check 4 passes an m that is 1 to 1,000 and no more than the rows from the place on
pub row-count_passes : (n k place m : ℕ) → check_place n k place ≡ 0 → 1 ≤ m → m ≤ 1000 → m ≤ c n k - place → check_row_count n k place m ≡ 0
row-count_passes n k place m e l h p = rw (e, within_holds 1 1000 m l h, le-ltb (c n k - place) m p)

-- and refuses every other
pub row-count_refuses : (n k place m : ℕ) → check_place n k place ≡ 0 → (1 ≤ m → m ≤ 1000 → m ≤ c n k - place → ⊥) → check_row_count n k place m ≡ 4
row-count_refuses n k place m e out = rw (e, either (not (within 1 1000 m)) (ltb (c n k - place) m) more)
  where
    more : not (within 1 1000 m) ≡ false → ltb (c n k - place) m ≡ true
    more w =
        let on = within-true 1 1000 m (not-false (within 1 1000 m) w) in
        lt-ltb (c n k - place) m (lt_of_not-le (out on.0 on.1))

-- checks 1, 2, 3 and 4 pass only where n is at most 20, m is 1 to 1,000, and S(n,k) has m rows from the place on
pub row-count_passed : (n k place m : ℕ) → check_row_count n k place m ≡ 0 → (n ≤ 20) × (1 ≤ m) × (m ≤ 1000) × (place + m ≤ c n k)
row-count_passed n k place m e =
    let both = then_passed (check_place n k place) (refuse (not (within 1 1000 m) || ltb (c n k - place) m) 4) e in
    let place-on = place-passed n k place both.0 in
    let tests = neither (not (within 1 1000 m)) (ltb (c n k - place) m) (refuse-passed (not (within 1 1000 m) || ltb (c n k - place) m) 3 both.1) in
    let m-on = within-true 1 1000 m (not-false (within 1 1000 m) tests.0) in
    let rows : m ≤ c n k - place = ltb-false (c n k - place) m tests.1 in
    (place-on.0, m-on.0, m-on.1, omega (arith, place-on.1))

-- where checks 1 to 4 pass, check 5 passes where o leaves room for m rows
pub rows_passes : (n k place m o size : ℕ) → check_row_count n k place m ≡ 0 → o + m * n ≤ size → check_rows n k place m o size ≡ 0
rows_passes n k place m o size e h =
    let start : o ≤ size = omega arith in
    let rest : m * n ≤ size - o = omega arith in
    rw (e, le-ltb size o start, le-ltb (size - o) (m * n) rest)

-- and refuses where it does not
pub rows_refuses : (n k place m o size : ℕ) → check_row_count n k place m ≡ 0 → size < o + m * n → check_rows n k place m o size ≡ 5
rows_refuses n k place m o size e h = rw (e, either (ltb size o) (ltb (size - o) (m * n)) short)
  where
    short : ltb size o ≡ false → ltb (size - o) (m * n) ≡ true
    short w =
        let start : o ≤ size = ltb-false size o w in
        let rest : size - o < m * n = omega arith in
        lt-ltb (size - o) (m * n) rest

-- checks 1 to 5 pass only where checks 1 to 4 do, and o leaves room for m rows
pub rows-passed : (n k place m o size : ℕ) → check_rows n k place m o size ≡ 0 → (check_row_count n k place m ≡ 0) × (o + m * n ≤ size)
rows-passed n k place m o size e =
    let both = then_passed (check_row_count n k place m) (refuse (ltb size o || ltb (size - o) (m * n)) 5) e in
    let tests = neither (ltb size o) (ltb (size - o) (m * n)) (refuse-passed (ltb size o || ltb (size - o) (m * n)) 4 both.1) in
    let start : o ≤ size = ltb-false size o tests.0 in
    let rest : m * n ≤ size - o = ltb-false (size - o) (m * n) tests.1 in
    (both.0, omega arith)

-- a refused call leaves the buffer as it was
pub rows_kept : (n k place m o r : ℕ) (buf : List ℕ) → r ≡ check_rows n k place m o (length buf) → (r ≡ 0 → ⊥) → RowsWritten n k place m o buf r buf
rows_kept n k place m o r buf e refused = record { refusal = e; written = λ z. absurd (refused z); kept = λ _. refl }

-- as many rows as check 4 lets through are at most 20,000 bytes
pub few_bytes : (m n : ℕ) → m ≤ 1000 → n ≤ 20 → m * n ≤ 20000
few_bytes m n h u = mul-le-mul h u
