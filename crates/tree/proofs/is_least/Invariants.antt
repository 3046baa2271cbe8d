-- `tree::is_least` meets its contract. The loop's invariant: t steps lead to the position, and all that the test of `least` counts is counted from step t + 1 on. Assumes nothing.
use Prim.Native.Nat.{ℕ}
use mathlib.Core.Path.{◌≡◌}
use mathlib.Core.Bool.{Bool}
use mathlib.Core.List.{List}
use lib.Dec.{ltb}
use lib.ListN.{length, drop}
use Rattle.perm.specs.Lists.{tally, positions}
use Rattle.perm.specs.Cycle.{follow}
use Rattle.tree.proofs.is_least.Given as goal

-- the test of a step: it leads below i
abbrev pub below : List ℕ → ℕ → ℕ → Bool
below s i t = ltb (follow s t i) i

abbrev pub invariant-loop-step : goal.invariant-loop-step
invariant-loop-step l = (l.position ≡ follow l.s l._step l.i) × (tally (below l.s l.i) (positions (length l.s)) ≡ tally (below l.s l.i) (drop l._step (positions (length l.s))))
