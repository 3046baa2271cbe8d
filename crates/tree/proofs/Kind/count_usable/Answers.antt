use Prim.Native.Nat.{◌+◌}
use mathlib.Core.Path.{◌≡◌}
use mathlib.Core.Bool.{true, false}
use Rattle.perm.proofs.Counted.{counted_none, counted_hit, counted_miss}
use Rattle.tree.specs.Kind.{rule_of}
use Rattle.tree.proofs.Kind.count_usable.Goals.{then-is_usable, else-is_usable}
use Rattle.tree.proofs.Kind.count_usable.Goals as goal

pub loop-l-init : goal.loop-l-init
loop-l-init c = counted_none _

pub loop-l-preserved : goal.loop-l-preserved
loop-l-preserved c = elim c.if-is_usable.branch [
  | then-is_usable w ↦
      let test : rule_of c.args.self c.args.s.now (c.loop-l.l + 1) ≡ true = rw (← c.is_usable.ensures) w.if-is_usable.true in
      rw w.count-is (counted_hit test c.loop-l.invariant)
  | else-is_usable w ↦
      let test : rule_of c.args.self c.args.s.now (c.loop-l.l + 1) ≡ false = rw (← c.is_usable.ensures) w.if-is_usable.false in
      rw w.count-is (counted_miss test c.loop-l.invariant)
]
