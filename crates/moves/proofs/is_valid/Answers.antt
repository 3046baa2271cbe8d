-- `moves::is_valid` meets its contract: from the identity the moves are made, and then it is seen what stands where. Assumes nothing.
use mathlib.Core.Path.{◌≡◌, sym, ◌∙◌}
use lib.ListN.{length}
use Rattle.perm.specs.Pairs.{pairs_in}
use Rattle.moves.specs.State.{home}
use Rattle.moves.proofs.Judged.{home-range, stopped, carried-out}
use Rattle.moves.proofs.is_valid.Goals.{After-make_moves}
use Rattle.moves.proofs.is_valid.Goals as goal

-- they began from the identity
begun : (c : After-make_moves) → c.go_home.new.state ≡ home (length c.args.s.now)
begun c = c.go_home.ensures ∙ home-range (length c.args.s.now) (length c.args.state.now) c.requires.1

pub returns-then-not-make_moves : goal.returns-then-not-make_moves
returns-then-not-make_moves c =
    let a = c.args in
    stopped a.s.now (pairs_in a.list.now) (begun (goal.at.returns-then-not-make_moves c).After-make_moves) (sym c.if-not-make_moves.true ∙ c.make_moves.ensures.0)

pub returns : goal.returns
returns c =
    let a = c.args in
    let made = c.if-not-make_moves.false in
    let end = c.make_moves.ensures.1 made in
    carried-out a.s.now (pairs_in a.list.now) (begun (goal.at.returns c).After-make_moves) (sym made ∙ c.make_moves.ensures.0) end _ c.stands.ensures
