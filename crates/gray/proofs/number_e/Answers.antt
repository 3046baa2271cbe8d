-- `gray::number_e` meets its contract: the runs of (e) fall on either side of E. Assumes nothing.
use native.Mathlib.Omega.{arith}
use Rattle.gray.proofs.Numbered.{e-first, e-upper, e-extension, e-lower}
use Rattle.gray.proofs.number_e.Goals as goal

pub returns-then-i-eq1 : goal.returns-then-i-eq1
returns-then-i-eq1 c = e-first c.args.n c.args.k c.args.i _ (omega arith) (omega arith) (omega arith)

pub returns-then-i-n : goal.returns-then-i-n
returns-then-i-n c = e-extension c.args.n c.args.k c.args.i _ (omega arith) (omega arith) (omega arith)

pub returns-then-i-k : goal.returns-then-i-k
returns-then-i-k c = e-upper c.args.n c.args.k c.args.i _ (omega arith) (omega arith) (omega arith) (omega arith)

pub returns : goal.returns
returns c = e-lower c.args.n c.args.k c.args.i _ (omega arith) (omega arith) (omega arith) (omega arith)
