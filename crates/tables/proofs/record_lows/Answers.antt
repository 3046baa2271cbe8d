use Rattle.std.proofs.Common.{◌≡◌, ◌+◌, ◌≤◌, ◌<◌, get_or, arith}
use Rattle.perm.proofs.Counted.{counted_none, counted_hit, counted_miss}
use Rattle.tables.proofs.Lows.{lowest_none, lowest-lower, lowest-same, low-hit, low-miss, lows_all}
use Rattle.tables.proofs.record_lows.Goals as goal
use Rattle.tables.proofs.record_lows.Goals.{then-element-low, else-element-low}

pub loop-byte-init : goal.loop-byte-init
loop-byte-init c = (lowest_none _, counted_none _)

pub loop-byte-preserved : goal.loop-byte-preserved
loop-byte-preserved c =
    let q = c.args.q.now in
    let i = c.loop-byte.byte-index in
    let byte : get_or q i 0 < 256 = omega (arith, c.type_inv.q i) in
    let is : c.from-element.result ≡ get_or q i 0 = c.from-element.ensures in
    elim c.if-element-low.branch [
      | then-element-low w ↦
          let lower : get_or q i 0 < c.loop-byte.low = omega (arith, is, w.if-element-low.true) in
          rw (w.count-is, w.low-is, is) (lowest-lower i c.loop-byte.invariant.0 lower, counted_hit (low-hit i c.loop-byte.invariant.0 lower) c.loop-byte.invariant.1)
      | else-element-low w ↦
          let same : c.loop-byte.low ≤ get_or q i 0 = omega (arith, is, w.if-element-low.false) in
          rw (w.count-is, w.low-is) (lowest-same i c.loop-byte.invariant.0 same, counted_miss (low-miss i c.loop-byte.invariant.0 byte same) c.loop-byte.invariant.1)
    ]

pub returns : goal.returns
returns c = lows_all _ (omega arith) c.loop-byte.invariant.1
