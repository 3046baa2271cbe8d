-- What document 02, b), asks of the rows, by the contract alone: of whatever the call answers and writes. Assumes nothing.
use mathlib.Core.Path.{◌≡◌, refl, sym, ap, ◌∙◌}
use Prim.Native.Nat.{ℕ}
use mathlib.Core.Bool.{false}
use mathlib.Core.List.{List}
use lib.Dec.{ltb}
use lib.ListN.{length, take, drop}
use lib.Seq.{take_at}
use Rattle.stirling.specs.Refusal.{refuse}
use Rattle.stirling.proofs.Refusals.{then_passed}
use Rattle.perm.specs.Permutation.{IsPermutation, fixed}
use Rattle.perm.specs.Cycle.{cycles}
use Rattle.perm.specs.Checks.{check_permutation}
use Rattle.gray.specs.Order.{Row}
use Rattle.rank.specs.declared.Standing.{Standing}
use Rattle.rank.specs.Place.{Ranked}
use Rattle.perm.proofs.Refused.{permutation_passed}
use Rattle.rank.proofs.RoundTrip.{one-standing}
use Rattle.explain.specs.declared.Level.{Level}
use Rattle.explain.specs.declared.Explanation.{Explanation}
use Rattle.explain.specs.Levels.{total}
use Rattle.explain.specs.Following.{Leads}
use Rattle.explain.specs.Explain.{rows_of, Explains}
use Rattle.explain.proofs.Levels.{length-levels}
use Rattle.explain.proofs.Following.{leads, leads_one}
use Rattle.explain.proofs.ByValue.{stands}

module _ {s : List ℕ} {before after : List Level} {r : Explanation} (w : Explains s before r after) (passed : r.refusal ≡ 0) where
  checks : check_permutation s ≡ 0
  checks = (then_passed (check_permutation s) (refuse (ltb (length before) (length s)) 12) (sym w.answer.refusal ∙ passed)).0

  permutation : IsPermutation (length s) s
  permutation = (permutation_passed s checks).1

  -- the first n of the lent rows are those of the permutation
  first_rows : take (length s) after ≡ rows_of s
  first_rows =
      ap (take (length s)) (w.written passed)
      ∙ take_at (rows_of s) (drop (length s) before) (length s) (length-levels (length s) (cycles s) false s)

  -- their last column adds up to the place
  pub adds-up : total (take (length s) after) ≡ r.place
  adds-up = ap total first_rows ∙ (one-standing (stands s permutation) (w.answer.standing passed)).1

  -- followed downward from n and k they lead to the permutation, and to no other
  pub lead : Leads (length s) r.k false (take (length s) after) s × ((t : Row) → Leads (length s) r.k false (take (length s) after) t → t ≡ s)
  lead =
      let here : Leads (length s) r.k false (take (length s) after) s =
      rw (first_rows, (w.answer.standing passed).count) (leads (length s) (cycles s) false s (record { permutation = permutation; count = refl })) in
      (here, λ t there. leads_one (length s) r.k false (take (length s) after) t s there here)

  -- and the call for the place alone gives the same k and place, with the fixed points of the permutation
  pub as-ranked : {q : Standing} → Ranked s q → q ≡ record { refusal = 0; k = r.k; place = r.place; fixed = fixed s }
  as-ranked {q} ranked =
      let none : q.refusal ≡ 0 = ranked.refusal ∙ checks in
      let same = one-standing (ranked.answer none) (w.answer.standing passed) in
      let same-fixed : q.fixed ≡ fixed s = rw none at ranked.number in
      λ i. record { refusal = none i; k = same.0 i; place = same.1 i; fixed = same-fixed i }
