-- `tree::Table::write_row` meets its contract: it begins with the identity, and the rows from there on are the list. Assumes nothing.
use mathlib.Core.Path.{◌≡◌, refl, subst}
use Prim.Native.Nat.{ℕ, ◌-◌}
use mathlib.Core.List.{List}
use lib.ListN.{length}
use Rattle.perm.specs.Lists.{positions}
use Rattle.tree.specs.Kind.{rule_of}
use Rattle.tree.specs.Listing.{row_at}
use Rattle.tree.specs.Search.{rows}
use Rattle.tree.proofs.Checked.{identity_served, identity_written, identity-stands, identity-rows}
use Rattle.tree.proofs.Table.write_row.Goals.{After-from_array}
use Rattle.tree.proofs.Table.write_row.Goals as goal

-- the identity is written
written : (c : After-from_array) → c.from_array.new.out ≡ positions (length c.args.out.now)
written c = identity_written (length c.args.out.now) c.requires.0 refl c.from_array.ensures

pub unwrap-requires : goal.unwrap-requires
unwrap-requires c = identity_served (length c.args.out.now) c.from_array.result c.requires.0 refl c.from_array.ensures

pub unrank_from-requires : goal.unrank_from-requires
unrank_from-requires c = rw (c.whole.ensures.remaining, c.whole.ensures.usable) (identity-stands c.args.self.now.kind _ c.requires.0 (written (goal.at.unrank_from-requires c).After-from_array), c.requires.1)

pub returns : goal.returns
returns c =
    let kind = c.args.self.now.kind in
    let s = c.from_array.new.out in
    let row = subst (λ (m : ℕ). c.unrank_from.new.s ≡ row_at (rows (rule_of kind) (length s - m) m s) c.args.place) c.whole.ensures.remaining c.unrank_from.ensures in
    subst (λ (l : List (List ℕ)). c.unrank_from.new.s ≡ row_at l c.args.place) (identity-rows kind _ (written (goal.at.returns c).After-from_array)) row
