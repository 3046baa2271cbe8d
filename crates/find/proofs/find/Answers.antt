-- `find::find` meets its contract: the checks of what is asked, the least place, and the row there. Assumes nothing.
use mathlib.Core.Path.{◌≡◌, refl, sym, ◌∙◌}
use Prim.Native.Nat.{ℕ}
use lib.ListN.{length}
use native.Mathlib.Omega.{arith}
use Rattle.std.specs.Option.{ok_or}
use Rattle.std.specs.Result.{IsOk}
use Rattle.std.proofs.Common.{Option, Some, None, Result, Ok, Err}
use Rattle.std.proofs.lemmas.Result.{err_from_is_err_and}
use Rattle.stirling.specs.Refusal.{refusal_in}
use Rattle.stirling.specs.declared.Refusal.{Refusal}
use Rattle.stirling.specs.declared.Refusal.TheVariants.{Unmet}
use Rattle.find.proofs.Answered.{asked, asked-passed, answers-unmet, answers-met, place_below, row_passes, row_written}
use Rattle.find.proofs.find.Goals as goal

-- no place is a refusal of the wishes
unmet : (o : Option ℕ) {e : Refusal} → Err e ≡ ok_or o Unmet → (o ≡ None) × (e ≡ Unmet)
unmet (Some x) q = absurd cc
unmet None q = (refl, cc)

-- what has no refusal's number has an answer
served : {A : Type 0} (r : Result A Refusal) → refusal_in r ≡ 0 → IsOk r
served (Ok answer) q = refl
served (Err refusal) q = grind arith

pub unwrap-requires : goal.unwrap-requires
unwrap-requires c =
    let a = c.args in
    let passed = asked a.n a.k a.place a.pattern.now (length a.out.now) c.table-counts.ensures c.in_ok-check_place_in.ensures c.in_ok-check_slices.ensures in
    let (small, _, _, lent) = asked-passed a.n a.k a.place a.pattern.now (length a.out.now) passed in
    served c.unrank.result (row_passes small (place_below a.n a.k a.place a.pattern.now (length a.out.now) passed (sym c.in_ok-found.ensures.ok_part ∙ c.least_place.ensures)) lent c.unrank.ensures)

pub least_place-requires : goal.least_place-requires
least_place-requires c =
    let a = c.args in
    let (small, below, size, _) = asked-passed a.n a.k a.place a.pattern.now (length a.out.now) (asked a.n a.k a.place a.pattern.now (length a.out.now) c.table-counts.ensures c.in_ok-check_place_in.ensures c.in_ok-check_slices.ensures) in
    record { table = c.table-counts.ensures; n_bound = (small, below, size) }

pub returns-in_err-found-clause-answer : goal.returns-in_err-found-clause-answer
returns-in_err-found-clause-answer c =
    let a = c.args in
    let (none, is) = unmet c.least_place.result c.in_err-found.ensures.value in
    let p = err_from_is_err_and c.from_residual-in_err-found.result c.from_residual-in_err-found.ensures.1 in
    rw (p.1, p.2, is)
    (answers-unmet a.n a.k a.place a.pattern.now (length a.out.now) (asked a.n a.k a.place a.pattern.now (length a.out.now) c.table-counts.ensures c.in_ok-check_place_in.ensures c.in_ok-check_slices.ensures) (sym none ∙ c.least_place.ensures))

pub returns-clause-answer : goal.returns-clause-answer
returns-clause-answer c =
    let a = c.args in
    answers-met a.n a.k a.place a.pattern.now (length a.out.now) (asked a.n a.k a.place a.pattern.now (length a.out.now) c.table-counts.ensures c.in_ok-check_place_in.ensures c.in_ok-check_slices.ensures) (sym c.in_ok-found.ensures.ok_part ∙ c.least_place.ensures)

pub returns-clause-row : goal.returns-clause-row
returns-clause-row c =
    let a = c.args in
    let passed = asked a.n a.k a.place a.pattern.now (length a.out.now) c.table-counts.ensures c.in_ok-check_place_in.ensures c.in_ok-check_slices.ensures in
    let (small, _, _, lent) = asked-passed a.n a.k a.place a.pattern.now (length a.out.now) passed in
    row_written small (place_below a.n a.k a.place a.pattern.now (length a.out.now) passed (sym c.in_ok-found.ensures.ok_part ∙ c.least_place.ensures)) lent c.unrank.ensures
