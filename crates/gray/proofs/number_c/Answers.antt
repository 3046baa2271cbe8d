-- `gray::number_c` meets its contract: the position tells the block, before the run, in it, or past it. Assumes nothing.
use native.Mathlib.Omega.{arith}
use Rattle.gray.proofs.Numbered.{c-first, c-second, c_run, c-third, c-extension}
use Rattle.gray.proofs.number_c.Goals as goal

pub returns-then-i-eq1 : goal.returns-then-i-eq1
returns-then-i-eq1 c = c-first c.args.n c.args.i _ (omega arith) (omega arith) (omega arith)

pub returns-then-i-n : goal.returns-then-i-n
returns-then-i-n c = c-extension c.args.n c.args.i _ (omega arith) (omega arith) (omega arith)

pub returns-then-i-n-2 : goal.returns-then-i-n-2
returns-then-i-n-2 c = c-second c.args.n c.args.i _ (omega arith) (omega arith) (omega arith) (omega arith)

pub returns-then-i-n-3 : goal.returns-then-i-n-3
returns-then-i-n-3 c = c-third c.args.n c.args.i _ (omega arith) (omega arith) (omega arith) (omega arith)

pub returns : goal.returns
returns c = c_run c.args.n c.args.i _ (omega arith) (omega arith) (omega arith) (omega arith)
