-- `gray::number_a` meets its contract: (a) is short for n up to 4, and has one run from 5 on. Assumes nothing.
use native.Mathlib.Omega.{arith}
use Rattle.gray.proofs.Numbered.{short_a, a_first, a-run, a-last, a-none}
use Rattle.gray.proofs.number_a.Goals as goal

pub returns-then-n-lt5 : goal.returns-then-n-lt5
returns-then-n-lt5 c = short_a c.args.n c.args.i _ (omega arith) c.requires (omega arith)

pub returns-then-i-eq1 : goal.returns-then-i-eq1
returns-then-i-eq1 c = a_first c.args.n c.args.i _ (omega arith) (omega arith) (omega arith)

pub returns-then-i-lt4 : goal.returns-then-i-lt4
returns-then-i-lt4 c = a-last c.args.n c.args.i _ (omega arith) (omega arith) (omega arith) (omega arith)

pub returns-then-i-n : goal.returns-then-i-n
returns-then-i-n c = a-none c.args.n c.args.i _ (omega arith) (omega arith) (omega arith)

pub returns : goal.returns
returns c = a-run c.args.n c.args.i _ (omega arith) (omega arith) (omega arith) (omega arith)
