-- What is explained by value: a refusal with nothing to write, or the rows of the permutation that was read, in front of rows of zeros. Assumes nothing.
use mathlib.Core.Path.{◌≡◌, refl, sym, ap, ◌∙◌}
use Prim.Native.Nat.{ℕ, ◌-◌, ◌≤◌, ◌<◌, ◌^◌}
use native.Mathlib.Nat.{lt_trans}
use native.Mathlib.Omega.{arith}
use mathlib.Core.Bool.{false}
use mathlib.Core.List.{List, [], ◌++◌}
use lib.ListN.{length, take, replicate}
use lib.Seq.{take_at}
use Rattle.std.proofs.Common.{Ok}
use borrow.Author.Tests.{le-ltb}
use Rattle.stirling.proofs.Refusals.{unless-passes}
use Rattle.stirling.proofs.Counts.{fits}
use Rattle.perm.specs.Permutation.{IsPermutation}
use Rattle.perm.specs.Cycle.{cycles}
use Rattle.rank.specs.declared.Step.{Step}
use Rattle.rank.specs.declared.Descent.{Descent}
use Rattle.rank.specs.Place.{StandsAt}
use Rattle.rank.specs.Descent.{steps, still, Descends}
use Rattle.perm.proofs.Refused.{permutation_passed}
use Rattle.explain.specs.declared.Level.{Level}
use Rattle.explain.specs.declared.Summed.{Summed}
use Rattle.explain.specs.Levels.{lettered, total}
use Rattle.explain.specs.Explain.{check_explain, rows_of, rows_written, blank, IsExplained}
use Rattle.explain.proofs.Levels.{length-steps, length-levels, placed}

-- a permutation stands where the last column of its rows adds up to
pub stands : (s : List ℕ) → IsPermutation (length s) s → StandsAt s (cycles s) (total (rows_of s))
stands s p =
    let at = placed (length s) (cycles s) false s (record { permutation = p; count = refl }) in
    record { count = refl; below = at.below; row = at.row }

-- the way down of a permutation
module _ {s : List ℕ} {d : Descent} (w : Descends s (Ok d)) where
  permutation : (length s ≤ 20) × IsPermutation (length s) s
  permutation = permutation_passed s (sym w.refusal)

  -- its first n steps are those of the permutation, one for each size, and so are their rows
  module _ (few : List Step) (first : few ≡ take (length s) d.steps) where
    are-steps : few ≡ steps (length s) (cycles s) false s
    are-steps =
        first
        ∙ ap (take (length s)) w.answer.path
        ∙ take_at (steps (length s) (cycles s) false s) (replicate (20 - length s) still) (length s) (length-steps (length s) (cycles s) false s)

    size : length few ≡ length s
    size = ap length are-steps ∙ length-steps (length s) (cycles s) false s

    same_rows : lettered (length few) few ≡ rows_of s
    same_rows = ap (λ (n : ℕ). lettered n few) size ∙ ap (lettered (length s)) are-steps

    -- at most 20, and what they add up to fits
    pub fit : (length few ≤ 20) × (total (lettered (length few) few) < 2 ^ 64)
    fit = (omega (arith, size, permutation.0), rw same_rows (lt_trans (stands s permutation.1).below (fits (length s) (cycles s) permutation.0)))

    pub is-explained : (lent : ℕ) → length s ≤ lent → (sum : Summed)
        → sum ≡ record {
          place = total (lettered (length few) few);
          rows = lettered (length few) few ++ replicate (20 - length few) blank;
        }
        → IsExplained s lent (Ok (record { k = d.k; place = sum.place; count = length s; rows = sum.rows }))
    is-explained lent enough sum f =
        let passed : check_explain s lent ≡ 0 = rw (← w.refusal, le-ltb lent (length s) enough) refl in
        let all : rows_written s lent ≡ rows_of s = unless-passes (check_explain s lent) (rows_of s) [] passed in
        let place_is : sum.place ≡ total (rows_of s) = ap (λ (x : Summed). x.place) f ∙ ap total same_rows in
        let rows_are : sum.rows ≡ rows_of s ++ replicate (20 - length s) blank =
        ap (λ (x : Summed). x.rows) f ∙ ap (λ (n : ℕ). lettered (length few) few ++ replicate (20 - n) blank) size
        ∙ ap (λ (rows : List Level). rows ++ replicate (20 - length s) blank) same_rows in
        record {
          answer = record {
            refusal = sym passed;
            standing = λ _. rw (w.answer.count, place_is) (stands s permutation.1);
            zeros = λ h. absurd (h refl);
          };
          rows = record { count = rw (all, length-levels (length s) (cycles s) false s); rows = rw all rows_are };
        }
