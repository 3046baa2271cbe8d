-- `osierdrum::osierdrum_explain` meets its contract: the rows that `explain` made are copied over the first of those that were lent, and on a refusal these stay.
-- Assumes nothing.
use mathlib.Core.Path.{◌≡◌}
use native.Mathlib.Omega.{arith}
use lib.ListN.{length}
use Prim.Native.Nat.{◌-◌}
use Rattle.std.proofs.Common.{Ok}
use Rattle.explain.specs.Explain.{IsExplained}
use Rattle.explain.proofs.Writes.{room, writes, left_alone}
use Rattle.osierdrum.proofs.osierdrum_explain.Goals.{in-Ok, in_default, In-Ok}
use Rattle.osierdrum.proofs.osierdrum_explain.Goals as goal

told : (c : In-Ok) → IsExplained c.args.s.now (length c.args.rows.now) (Ok c.in-Ok.explained)
told c = rw c.in-Ok.is at c.explain-explained.ensures

pub slice_bounds-copy_from_slice-end : goal.slice_bounds-copy_from_slice-end
slice_bounds-copy_from_slice-end c = room (told (goal.at.slice_bounds-copy_from_slice-end c).In-Ok)

pub returns : goal.returns
returns c =
    elim c.match-explained.branch [
      | in-Ok w ↦
          let is = rw w.in-Ok.is at c.explain-explained.ensures in
          -- as many rows are copied as were made: none is left out
          let all : length w.copy_from_slice.new.self ≡ w.in-Ok.explained.count = omega arith in
          let from : w.in-Ok.explained.count - 0 ≡ length w.copy_from_slice.new.self = omega arith in
          rw (c.into.ensures, w.in-Ok.is, w.rows-is, w.copy_from_slice.ensures.after, from, all) (writes is)
      | in_default w ↦
          let is = rw w.in_default.is at c.explain-explained.ensures in
          rw (c.into.ensures, w.in_default.is, w.rows-is) (left_alone is)
    ]
