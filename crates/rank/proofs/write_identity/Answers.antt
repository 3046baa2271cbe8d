use mathlib.Core.Path.{refl}
use native.Mathlib.Omega.{arith}
use borrow.Author.Rules.{rules}
use Rattle.rank.proofs.Identity.{none_written, next-value}
use Rattle.rank.proofs.write_identity.Goals as goal

pub loop-i-init : goal.loop-i-init
loop-i-init c = (refl, none_written _)

pub loop-i-preserved : goal.loop-i-preserved
loop-i-preserved c =
    let l = c.loop-i in
    (search rules, next-value l.i c.args.out.now l.out (omega arith) l.invariant.1)
