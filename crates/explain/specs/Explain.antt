-- Document 02, b): the call that explains a permutation's place, for every input. These are definitions; nothing is assumed.
use Rattle.std.specs.Prelude.{◌≡◌, ℕ, ◌-◌, false, List, [], ◌++◌, ltb, length, drop, replicate, Result, Ok, Err, IfOk}
use Rattle.stirling.specs.Refusal.{refuse, ◌then◌, unless, number}
use Rattle.stirling.specs.declared.Refusal.{Refusal}
use Rattle.perm.specs.Cycle.{cycles}
use Rattle.perm.specs.Checks.{check_permutation}
use Rattle.rank.specs.Place.{StandsAt}
use Rattle.explain.specs.declared.Level.{Level}
use Rattle.explain.specs.declared.Explanation.{Explanation}
use Rattle.explain.specs.declared.Explained.{Explained}
use Rattle.explain.specs.Levels.{levels}

-- checks 1, 6, 7; then 12: fewer than n rows lent
abbrev pub check_explain : List ℕ → ℕ → ℕ
check_explain s lent = check_permutation s then refuse (ltb lent (length s)) 12

-- the rows of a permutation of n: from n and its number of cycles down, read forward at n
abbrev pub rows_of : List ℕ → List Level
rows_of s = levels (length s) (cycles s) false s

-- the answer to a permutation where some number of rows is lent: its number of cycles and its place, or a refusal with zeros
pub record Answers (s : List ℕ) (lent : ℕ) (r : Explanation) : Type 0 where
  pub refusal : r.refusal ≡ check_explain s lent
  pub standing : r.refusal ≡ 0 → StandsAt s r.k r.place
  pub zeros : (r.refusal ≡ 0 → ⊥) → (r.k ≡ 0) × (r.place ≡ 0)

-- a call's answer as C has it: no refusal, and the number of cycles and the place; or the refusal's number, and zeros
abbrev pub answer_of : Result Explained Refusal → Explanation
answer_of (Ok e) = record { refusal = 0; k = e.k; place = e.place }
answer_of (Err refusal) = record { refusal = number refusal; k = 0; place = 0 }

-- the rows that are written: those of the permutation, and none on a refusal
abbrev pub rows_written : List ℕ → ℕ → List Level
rows_written s lent = unless (check_explain s lent) (rows_of s) []

-- a row of zeros
abbrev pub blank : Level
blank = record { letter = 0; backward = false; block = 0; before = 0 }

-- the same by value: the rows to be written, in front of rows of zeros
pub record HasRows (s : List ℕ) (lent : ℕ) (e : Explained) : Type 0 where
  pub count : e.count ≡ length (rows_written s lent)
  pub rows : e.rows ≡ rows_written s lent ++ replicate (20 - e.count) blank

-- and the answer, with those rows where nothing is refused
pub record IsExplained (s : List ℕ) (lent : ℕ) (r : Result Explained Refusal) : Type 0 where
  pub answer : Answers s lent (answer_of r)
  pub rows : IfOk r (HasRows s lent)

-- the call, on lent rows that held `before` and then hold `after`, with the answer r: the rows beyond the n-th stay, and on a refusal all
pub record Explains (s : List ℕ) (before : List Level) (r : Explanation) (after : List Level) : Type 0 where
  pub answer : Answers s (length before) r
  pub written : r.refusal ≡ 0 → after ≡ rows_of s ++ drop (length s) before
  pub kept : (r.refusal ≡ 0 → ⊥) → after ≡ before
