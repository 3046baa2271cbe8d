-- `sheet::rewrite` meets its contract: what is written is what the text is rewritten to, and there is room for it. Assumes nothing.
use mathlib.Core.Path.{refl, ap}
use Prim.Native.Nat.{◌≤◌}
use lib.ListN.{length}
use Rattle.std.proofs.Common.{rules}
use Rattle.sheet.specs.Rewriting.{rewritten_to, rewritten}
use Rattle.sheet.specs.Written.{REWRITTEN_CAPACITY}
use Rattle.sheet.proofs.Capacity.{sheet_fits, rewritten_fits}
use Rattle.sheet.proofs.Outcome.{room, answered}
use Rattle.sheet.proofs.rewrite.Goals as goal

pub rewriting-requires : goal.rewriting-requires
rewriting-requires c =
    let asks = rewritten_to c.read_text.result in
    let fits : length asks ≤ REWRITTEN_CAPACITY = rw c.read_text.ensures (sheet_fits _ c.args.text.now) in
    room asks c.args.out.now fits refl refl refl c.if-out-lt-REWRITTEN_CAPACITY.false

pub returns : goal.returns
returns c =
    let t = c.args.text.now in
    answered (rewritten t) c.args.out.now (rewritten_fits t) refl refl (ap rewritten_to c.read_text.ensures) c.if-out-lt-REWRITTEN_CAPACITY.false c.rewriting.ensures
    (search rules)
