-- `rank::rank` meets its contract: a refusal is that of the array's making, and otherwise the array's place is found. Assumes nothing.
use mathlib.Core.Path.{refl}
use Rattle.rank.proofs.Stands.{entries-rankable, stands}
use Rattle.rank.proofs.rank.Goals as goal

pub place_of-place-requires : goal.place_of-place-requires
place_of-place-requires c = entries-rankable c.in_ok-entries.ensures

pub returns : goal.returns
returns c =
    let read = c.in_ok-entries.ensures in
    record {
      refusal = read.refusal;
      answer = λ _. stands read c.place_of-place.ensures;
      number = read.answer.number;
      zeros = λ h. absurd (h refl);
    }
