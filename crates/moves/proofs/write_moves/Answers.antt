-- `moves::write_moves` meets its contract: from the identity, cycle by cycle. Assumes nothing.
use mathlib.Core.Path.{◌∙◌}
use native.Mathlib.Omega.{arith}
use Prim.Native.Nat.{◌+◌}
use lib.ListN.{length, replicate}
use lib.Seq.{length-take-le}
use Rattle.moves.proofs.Judged.{home-range}
use Rattle.moves.proofs.write_moves.Goals as goal

-- the positions 0 to n hold the identity
pub go_round_all-requires : goal.go_round_all-requires
go_round_all-requires c =
    let (few, p, room) = c.requires in
    let n = length c.args.s.now in
    (few, p, c.go_home.ensures ∙ home-range n _ (length-take-le (n + 1) (replicate 21 0) (omega arith)), room)
