-- `tree::Table::place_of` meets its contract: the permutation's array is made, and the search along it, which begins with the identity, ends with its place. Assumes nothing.
use mathlib.Core.Path.{refl}
use Prim.Native.Nat.{ℕ}
use mathlib.Core.List.{List, ◌++◌}
use lib.ListN.{length, take, drop, replicate}
use Rattle.perm.specs.Array.{IsArrayOf}
use Rattle.tree.proofs.Descent.{same-branch}
use Rattle.tree.proofs.Checked.{twenty, array_served, array_made, search-begins, search-ends}
use Rattle.tree.proofs.Table.place_of.Goals.{After-to_array}
use Rattle.tree.proofs.Table.place_of.Goals as goal

-- what the local array holds before its front is lent
abbrev blank : List ℕ
blank = replicate 20 0

pub unwrap-requires : goal.unwrap-requires
unwrap-requires c = array_served c.args.s.now blank refl c.requires.0 c.requires.1.permutation c.to_array.ensures c.to_array.result refl

made : (c : After-to_array) → let s = c.args.s.now in IsArrayOf s (take (length s) (c.to_array.new.out ++ drop (length s) blank))
made c = array_made c.args.s.now blank refl c.requires.0 c.requires.1.permutation c.to_array.ensures

pub rank_from-requires : goal.rank_from-requires
rank_from-requires c =
    rw (c.whole.ensures.remaining, c.whole.ensures.usable)
    (search-begins _ c.args.s.now _ c.requires.0 c.requires.1 (made (goal.at.rank_from-requires c).After-to_array))

pub returns : goal.returns
returns c =
    let s = c.args.s.now in
    let (inside, row) = same-branch c.args.self.now.kind (take (length s) twenty) _ c.whole.ensures.remaining c.whole.ensures.usable c.rank_from.ensures in
    search-ends _ s _ c.requires.0 c.requires.1 (made (goal.at.returns c).After-to_array) c.rank_from.result inside row
