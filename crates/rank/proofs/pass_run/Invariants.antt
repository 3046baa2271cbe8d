-- `rank::pass_run` meets its contract. The loop's invariant: so many blocks are passed, each by one addition of their size. Assumes nothing.
use mathlib.Core.Path.{◌≡◌}
use Prim.Native.Nat.{◌+◌, ◌-◌, ◌*◌}
use Rattle.rank.proofs.pass_run.Given as goal

abbrev pub invariant-loop : goal.invariant-loop
invariant-loop l =
    (l.at.number ≡ l.counter) × (l.at.start ≡ l.initial.at.start + (l.counter - l.initial.at.number) * l.size)
    × (l.at.additions ≡ l.initial.at.additions + (l.counter - l.initial.at.number))
