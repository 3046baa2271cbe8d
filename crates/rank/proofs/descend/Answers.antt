-- `rank::descend` meets its contract: a refusal is that of the array's making, and otherwise the array is gone down. Assumes nothing.
use mathlib.Core.Path.{◌∙◌}
use Rattle.rank.proofs.Stands.{entries-array, entries-rankable}
use Rattle.rank.proofs.descend.Goals as goal

pub descend_from-path-requires : goal.descend_from-path-requires
descend_from-path-requires c =
    record { rankable = entries-rankable c.in_ok-entries.ensures }

pub returns : goal.returns
returns c =
    let read = c.in_ok-entries.ensures in
    let array = entries-array read in
    record {
      refusal = read.refusal;
      answer = record { count = read.answer.count; path = c.descend_from-path.ensures.steps ∙ rw (array.array.size, array.equal, read.answer.count) };
    }
