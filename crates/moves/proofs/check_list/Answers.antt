-- `moves::check_list` meets its contract: past the checks 1 and 5, a position of the list, or the permutation. Assumes nothing.
use mathlib.Core.Path.{sym}
use Rattle.moves.proofs.Listed.{refused-positions, permutation-decides}
use Rattle.moves.proofs.check_list.Goals as goal

pub returns-then-not-all_inside : goal.returns-then-not-all_inside
returns-then-not-all_inside c =
    refused-positions c.args.s.now c.args.list.now (sym c.in_ok-check_size.ensures) c.if-list-ne0.false c.all_inside.ensures c.if-not-all_inside.true

pub returns : goal.returns
returns c =
    permutation-decides c.args.s.now c.args.list.now (sym c.in_ok-check_size.ensures) c.if-list-ne0.false c.all_inside.ensures c.if-not-all_inside.false _ c.check_permutation.ensures
