-- `rank::descend_from` meets its contract. The loop's invariant: the sizes from n down are gone through, so many of them, and their steps are done; what is left to
-- read are the first entries. Assumes nothing.
use mathlib.Core.Path.{◌≡◌}
use mathlib.Core.Bool.{false}
use Prim.Native.Nat.{◌-◌, ◌≤◌}
use lib.ListN.{length, take}
use Rattle.rank.proofs.Descending.{Along, Down}
use Rattle.rank.proofs.descend_from.Given as goal

abbrev pub invariant-loop-done : goal.invariant-loop-done
invariant-loop-done l =
    let done = l.done-iterator.count in
    let m = length l.a - done in
    (done ≤ length l.a)
    × (l.done-iterator.iter.iter.rest.now ≡ take m l.a)
    × Along l.a l.k false l.additions l.cycles l.backward m
    × Down l.a l.k l.steps l.cycles l.backward m
