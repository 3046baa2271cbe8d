use mathlib.Core.Path.{◌≡◌}
use lib.ListN.{length}
use Rattle.rank.specs.Spacing.{put_apart}
use Rattle.rank.proofs.put_apart.Given as goal

abbrev pub invariant-loop-row : goal.invariant-loop-row
invariant-loop-row l = (length l.out ≡ length l.initial.out) × (l.out ≡ put_apart l.n l.i l.apart l.row l.initial.out)
