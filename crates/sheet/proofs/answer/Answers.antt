-- `sheet::answer` meets its contract: what is written is the answer to the text, and there is room for it. Assumes nothing.
use mathlib.Core.Path.{refl}
use Rattle.std.proofs.Common.{rules}
use Rattle.sheet.specs.Sheet.{answer}
use Rattle.sheet.proofs.Capacity.{answer_fits}
use Rattle.sheet.proofs.Outcome.{room, answered}
use Rattle.sheet.proofs.answer.Goals as goal

pub answer-requires-clause-room : goal.answer-requires-clause-room
answer-requires-clause-room c =
    let t = c.args.text.now in
    room (answer t) c.args.out.now (answer_fits t) refl refl c.served.ensures.answered c.if-out-lt-CAPACITY.false

pub returns : goal.returns
returns c =
    let t = c.args.text.now in
    answered (answer t) c.args.out.now (answer_fits t) refl refl c.served.ensures.answered c.if-out-lt-CAPACITY.false c.answer.ensures (search rules)
