use native.Mathlib.Omega.{arith}
use native.Mathlib.Nat.{zero-add}
use native.Mathlib.Numerals.{add-one}
use mathlib.Core.Path.{refl}
use lib.Seq.{take-suc-set}
use Rattle.perm.specs.Lists.{range}
use Rattle.perm.proofs.Tally.{range_snoc}
use Rattle.moves.proofs.go_home.Goals as goal

pub loop-i-init : goal.loop-i-init
unfolding range
loop-i-init c = refl

pub loop-i-preserved : goal.loop-i-preserved
loop-i-preserved c =
    let i = c.loop-i.i in
    let one_more = take-suc-set c.loop-i.state i i (omega arith) in
    rw (add-one, one_more, c.loop-i.invariant, range_snoc 0 i, zero-add)
