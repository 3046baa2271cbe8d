-- `sheet::read_line` meets its contract: each number that is found or missing is a step of `asked_line`, by the laws of a line.
-- Assumes nothing.
use mathlib.Core.Path.{sym}
use lib.ListN.{length}
use borrow.Author.Tests.{eqb-true}
use Rattle.sheet.proofs.AskedLine.{four}
use Rattle.sheet.proofs.read_line.Goals as goal

pub returns : goal.returns
returns c =
    four _ _ c.in_ok-n.ensures c.in_ok-k.ensures c.in_ok-place.ensures c.in_ok-m.ensures
    (eqb-true (length c.in_ok-m.rest.now) 0 (sym c.if-not-is_empty.ensures))
