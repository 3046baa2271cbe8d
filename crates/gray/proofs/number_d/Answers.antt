-- `gray::number_d` meets its contract: only I(2,L reversed) stands out of its order. Assumes nothing.
use native.Mathlib.Omega.{arith}
use Rattle.gray.proofs.Numbered.{d_first, d-more, d_last}
use Rattle.gray.proofs.number_d.Goals as goal

pub returns-in-1 : goal.returns-in-1
returns-in-1 c = d_first c.args.n c.args.i _ (omega arith) (omega arith) (omega arith)

pub returns-in-2 : goal.returns-in-2
returns-in-2 c = d_last c.args.n c.args.i _ (omega arith) (omega arith) (omega arith)

pub returns-in_default : goal.returns-in_default
returns-in_default c = d-more c.args.n c.args.i _ (omega arith) (omega arith) (omega arith) (omega arith)
