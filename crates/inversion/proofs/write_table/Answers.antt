use native.Mathlib.Omega.{arith}
use mathlib.Core.Path.{◌≡◌, ◌∙◌}
use Prim.Native.Nat.{◌+◌}
use Rattle.inversion.specs.Table.{higher}
use Rattle.inversion.proofs.Steps.{written_step, counted-higher}
use Rattle.inversion.proofs.write_table.Goals.{After-count_higher}
use Rattle.inversion.proofs.write_table.Goals as goal

-- the number of earlier elements that are higher
counted : (c : After-count_higher) → c.count_higher.result ≡ higher c.args.q.now (c.loop-i.i + 1)
counted c =
    c.count_higher.ensures ∙ counted-higher c.args.q.now c.loop-i.i (omega arith)

pub loop-i-preserved : goal.loop-i-preserved
loop-i-preserved c =
    written_step c.loop-i.i c.count_higher.result (omega arith) (counted (goal.at.loop-i-preserved c).After-count_higher) c.loop-i.invariant
