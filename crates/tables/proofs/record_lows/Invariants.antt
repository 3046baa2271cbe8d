-- `tables::record_lows` meets its contract. The loop's invariant is `Lowest`: the lowest element passed; and `CountedTo`: so many of them are record lows. Assumes nothing.
use Rattle.inversion.specs.Table.{record_low}
use Rattle.perm.proofs.Counted.{CountedTo}
use Rattle.tables.proofs.Lows.{Lowest}
use Rattle.tables.proofs.record_lows.Given as goal

abbrev pub invariant-loop-byte : goal.invariant-loop-byte
invariant-loop-byte l = Lowest l.q l.low l.byte-index × CountedTo (record_low l.q) l.byte-index l.count
