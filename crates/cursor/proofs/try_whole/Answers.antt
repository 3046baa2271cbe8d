-- `cursor::try_whole` meets its contract: where the checks 1 and 2 pass, it is the section of the whole list. Assumes nothing.
use mathlib.Core.Path.{◌≡◌, sym, ◌∙◌}
use native.Mathlib.Omega.{arith}
use Rattle.std.proofs.lemmas.Result.{err_from_is_err_and}
use Rattle.stirling.specs.Count.{c as count_of}
use Rattle.stirling.proofs.Counts.{cycles-passed, looked_up}
use Rattle.stirling.proofs.Refusals.{number_some}
use Rattle.cursor.specs.declared.Opening.TheVariants.{Whole}
use Rattle.cursor.proofs.Calls.{whole_checks, opened-whole, opened_refused}
use Rattle.cursor.proofs.try_whole.Goals.{After-lookup}
use Rattle.cursor.proofs.try_whole.Goals as goal

-- past the checks what is looked up is the count
counted : (c : After-lookup) → c.lookup.result ≡ count_of c.args.n c.args.k
counted c = c.lookup.ensures ∙ looked_up c.args.n c.args.k (cycles-passed c.args.n c.args.k (sym c.in_ok-check_cycles.ensures)).0

pub returns-in_err-check_cycles : goal.returns-in_err-check_cycles
returns-in_err-check_cycles c =
    let (e, is, same) = err_from_is_err_and c.from_residual.result c.from_residual.ensures.1 in
    let step = sym (opened_refused (Whole c.args.n c.args.k) _ c.in_err-check_cycles.ensures (number_some _)) in
    rw (is, same) (record { step = step; refusal = c.in_err-check_cycles.ensures })

pub overflow_sub-lookup : goal.overflow_sub-lookup
overflow_sub-lookup c = omega (arith, counted c, cycles-passed c.args.n c.args.k (sym c.in_ok-check_cycles.ensures))

pub returns : goal.returns
returns c =
    let count = counted (goal.at.returns c).After-lookup in
    record {
      step = c.try_section.ensures.step ∙ rw count (sym (opened-whole c.args.n c.args.k));
      refusal = c.try_section.ensures.refusal ∙ rw count (whole_checks c.args.n c.args.k);
    }
