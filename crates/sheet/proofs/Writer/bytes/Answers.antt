-- `sheet::Writer::bytes` meets its contract: a copy into a part is a run of stores. Assumes nothing.
use Prim.Native.Nat.{◌+◌, ◌-◌}
use native.Mathlib.Omega.{arith}
use mathlib.Core.Path.{◌≡◌, refl}
use lib.ListN.{length}
use Rattle.sheet.proofs.Writing.{stored, copied}
use Rattle.sheet.proofs.Writer.bytes.Goals as goal

pub returns : goal.returns
returns c =
    let w = c.args.self.now in
    let bytes = c.args.bytes.now in
    let count : w.at + length bytes - w.at ≡ length bytes = omega arith in
    stored bytes refl refl (rw (c.copy_from_slice.ensures.after, count) (copied w.out.now w.at bytes c.requires.fits))
