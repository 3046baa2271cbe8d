-- `moves::check` meets its contract: a refusal, or what is judged of the list. Assumes nothing.
use mathlib.Core.Path.{sym}
use native.Mathlib.Omega.{arith}
use Prim.Native.Nat.{◌+◌}
use lib.ListN.{length, replicate}
use lib.Seq.{length-take-le}
use Rattle.moves.proofs.Listed.{list_passed}
use Rattle.moves.proofs.check.Goals as goal

pub is_valid-requires : goal.is_valid-requires
is_valid-requires c =
    let a = c.args in
    let k = list_passed a.s.now a.list.now (sym c.in_ok-check_list.ensures) in
    (k.0, length-take-le (length a.s.now + 1) (replicate 21 0) (omega (arith, k.0)), k.1)
