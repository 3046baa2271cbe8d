-- From a place to a permutation and back, and rows into a buffer: document 01's "Other calls", for every input. These are definitions; nothing is assumed.
use Rattle.std.specs.Prelude.{◌≡◌, ℕ, ◌+◌, ◌-◌, ◌*◌, ◌<◌, not, ◌||◌, ltb, length, take, drop, Result, Ok, Err}
use mathlib.Core.List.{List, ◌++◌, flatten}
use Rattle.stirling.specs.Refusal.{refuse, ◌then◌, unless, within, number}
use Rattle.stirling.specs.declared.Refusal.{Refusal}
use Rattle.stirling.specs.Count.{c, check_place}
use Rattle.perm.specs.Permutation.{fixed}
use Rattle.perm.specs.Cycle.{cycles}
use Rattle.perm.specs.Checks.{check_lent, check_permutation}
use Rattle.gray.specs.Order.{S}
use Rattle.gray.specs.Listing.{row_at}
use Rattle.rank.specs.declared.Stand.{Stand}
use Rattle.rank.specs.declared.Standing.{Standing}

-- permutation at a place: checks 1, 2, 3, 5
abbrev pub check_unrank : ℕ → ℕ → ℕ → ℕ → ℕ
check_unrank n k place size = check_place n k place then check_lent n size

-- the row of S(n,k) at a place, into a slice that held `before` and then holds `after`, with the refusal r
pub record Unranked (n k place : ℕ) (before : List ℕ) (r : ℕ) (after : List ℕ) : Type 0 where
  pub refusal : r ≡ check_unrank n k place (length before)
  pub written : r ≡ 0 → after ≡ row_at (S n k) place
  pub kept : (r ≡ 0 → ⊥) → after ≡ before

-- s stands at a place of S(n,k), where k is its number of cycles
pub record StandsAt (s : List ℕ) (k place : ℕ) : Type 0 where
  pub count : k ≡ cycles s
  pub below : place < c (length s) k
  pub row : row_at (S (length s) k) place ≡ s

-- where a permutation stands as C has it: no refusal, and its cycles, its place and its fixed points; or the refusal's number, and zeros
abbrev pub answer_of : Result Stand Refusal → Standing
answer_of (Ok stand) = record { refusal = 0; k = stand.k; place = stand.place; fixed = stand.fixed }
answer_of (Err refusal) = record { refusal = number refusal; k = 0; place = 0; fixed = 0 }

-- place of a permutation: checks 1, 6, 7; k and the place, or zeros; and the number of fixed points of s, 0 on a refusal
pub record Ranked (s : List ℕ) (r : Standing) : Type 0 where
  pub refusal : r.refusal ≡ check_permutation s
  pub answer : r.refusal ≡ 0 → StandsAt s r.k r.place
  pub number : r.fixed ≡ unless r.refusal (fixed s) 0
  pub zeros : (r.refusal ≡ 0 → ⊥) → (r.k ≡ 0) × (r.place ≡ 0)

-- the rows asked for: checks 1, 2, 3; then 4: m not 1 to 1,000, or m > c(n,k) − r
abbrev pub check_row_count : ℕ → ℕ → ℕ → ℕ → ℕ
check_row_count n k place m = check_place n k place then refuse (not (within 1 1000 m) || ltb (c n k - place) m) 4

-- rows: checks 1, 2, 3, 4; then 5: o > length, or length − o < m×n
abbrev pub check_rows : ℕ → ℕ → ℕ → ℕ → ℕ → ℕ → ℕ
check_rows n k place m o size = check_row_count n k place m then refuse (ltb size o || ltb (size - o) (m * n)) 5

-- m rows of S(n,k) from a place on, one after another
abbrev pub rows_from : ℕ → ℕ → ℕ → ℕ → List ℕ
rows_from n k place m = flatten (take m (drop place (S n k)))

-- those rows from byte o on, in a buffer that held `before` and then holds `after`; the bytes before o and after o + m×n stay
pub record RowsWritten (n k place m o : ℕ) (before : List ℕ) (r : ℕ) (after : List ℕ) : Type 0 where
  pub refusal : r ≡ check_rows n k place m o (length before)
  pub written : r ≡ 0 → after ≡ take o before ++ rows_from n k place m ++ drop (o + m * n) before
  pub kept : (r ≡ 0 → ⊥) → after ≡ before
