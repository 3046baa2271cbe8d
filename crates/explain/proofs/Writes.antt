-- From what is explained by value to the lent rows: how many are written, that there is room for them, and what stands there after. Assumes nothing.
use mathlib.Core.Path.{◌≡◌, refl, sym, ap, ◌∙◌}
use Prim.Native.Nat.{ℕ, ◌≤◌, ◌-◌}
use native.Mathlib.Omega.{arith}
use mathlib.Core.Bool.{false}
use mathlib.Core.List.{List, [], ◌++◌}
use lib.Dec.{ltb}
use borrow.Author.Tests.{ltb-false}
use lib.ListN.{length, take, drop, replicate, length-append, length-replicate}
use lib.Seq.{take_at}
use Rattle.std.proofs.Common.{Ok, Err}
use Rattle.stirling.specs.Refusal.{refuse}
use Rattle.stirling.specs.declared.Refusal.{Refusal}
use Rattle.stirling.proofs.Refusals.{number_some, then_passed, refuse-passed, unless-passes}
use Rattle.perm.specs.Cycle.{cycles}
use Rattle.perm.specs.Checks.{check_permutation}
use Rattle.perm.proofs.Refused.{permutation_passed}
use Rattle.explain.specs.declared.Level.{Level}
use Rattle.explain.specs.declared.Explained.{Explained}
use Rattle.explain.specs.Explain.{check_explain, rows_of, answer_of, rows_written, blank, IsExplained, Explains}
use Rattle.explain.proofs.Levels.{length-levels}

-- not refused: n rows, of at most 20, and at least as many lent
module _ {s : List ℕ} {lent : ℕ} {e : Explained} (is : IsExplained s lent (Ok e)) where
  none : check_explain s lent ≡ 0
  none = sym is.answer.refusal

  all : rows_written s lent ≡ rows_of s
  all = unless-passes (check_explain s lent) (rows_of s) [] none

  number_of_rows : e.count ≡ length s
  number_of_rows = is.rows.count ∙ ap length all ∙ length-levels (length s) (cycles s) false s

  pub room : e.count ≤ lent
  room =
      let (_, enough) = then_passed (check_permutation s) (refuse (ltb lent (length s)) 12) none in
      omega (arith, number_of_rows, ltb-false lent (length s) (refuse-passed (ltb lent (length s)) 11 enough))

  pub most : e.count ≤ 20
  most =
      let (checks, _) = then_passed (check_permutation s) (refuse (ltb lent (length s)) 12) none in
      omega (arith, number_of_rows, (permutation_passed s checks).0)

  -- as many rows are made as the array holds
  pub twenty : length e.rows ≡ 20
  twenty =
      ap length is.rows.rows
      ∙ omega (arith, length-append (rows_written s lent) (replicate (20 - e.count) blank), length-replicate (20 - e.count) blank, is.rows.count, most)

-- the rows written over the first of those that were lent
pub writes : {s : List ℕ} {before : List Level} {e : Explained} → IsExplained s (length before) (Ok e)
    → Explains s before (answer_of (Ok e)) (take e.count e.rows ++ drop e.count before)
writes {s} {before} {e} is = record {
  answer = is.answer;
  written = λ z.
      let front = take_at (rows_written s (length before)) (replicate (20 - e.count) blank) e.count (sym is.rows.count) in
      rw (is.rows.rows, front, all is, number_of_rows is);
  kept = λ h. absurd (h refl);
}

-- on a refusal they stay
pub left_alone : {s : List ℕ} {before : List Level} {r : Refusal} → IsExplained s (length before) (Err r) → Explains s before (answer_of (Err r)) before
left_alone {s} {before} {r} is = record { answer = is.answer; written = λ z. absurd (number_some r z); kept = λ h. refl }
