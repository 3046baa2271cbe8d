use Prim.Native.Nat.{ℕ, ◌+◌, ◌/◌, ◌%◌, ◌^◌, ◌≤◌, ◌<◌}
use native.Mathlib.Omega.{arith}
use mathlib.Core.Path.{◌≡◌, sym}
use mathlib.Core.List.{[], ◌∷◌, ◌++◌}
use Rattle.sheet.specs.Text.{decimal}
use Rattle.sheet.specs.Written.{Room, Wrote}
use Rattle.sheet.specs.declared.Writer.{Writer}
use Rattle.sheet.proofs.Decimal.{decimal-small, decimal_large}
use Rattle.sheet.proofs.Writing.{both, room_first, room_second}
use Rattle.sheet.proofs.Writer.+number.Goals as goal

-- one digit
room_small : {w : Writer} (x digit : ℕ) → x < 10 → digit ≡ 48 + x → Room w (decimal x) → Room w (digit ∷ [])
room_small x digit h e room = rw (e, sym (decimal-small x h)) room

wrote_small : {v w : Writer} (x digit : ℕ) → x < 10 → digit ≡ 48 + x → Wrote v (digit ∷ []) w → Wrote v (decimal x) w
wrote_small x digit h e p = rw (decimal-small x h, sym e) p

-- the last of several digits
room_large : {w : Writer} (x : ℕ) → 10 ≤ x → x < 2 ^ 64 → Room w (decimal x) → Room w (decimal (x / 10) ++ ((48 + x % 10) ∷ []))
room_large x h l room = rw (decimal_large x h l) at room

wrote_large : {u v w : Writer} (x digit : ℕ) → 10 ≤ x → x < 2 ^ 64 → digit ≡ 48 + x % 10
    → Wrote u (decimal (x / 10)) v → Wrote v (digit ∷ []) w → Wrote u (decimal x) w
wrote_large x digit h l e p q = rw (decimal_large x h l, sym e) (both (decimal (x / 10)) (digit ∷ []) p q)

pub byte-requires : goal.byte-requires
byte-requires t c =
    room_small c.args.x _ c.if-x-lt10.true c.digit.ensures c.requires

pub returns-then-x-lt10 : goal.returns-then-x-lt10
returns-then-x-lt10 t c = wrote_small _ _ c.if-x-lt10.true c.digit.ensures c.byte.ensures

pub number-requires : goal.number-requires
number-requires t c =
    let x = c.args.x in (
      omega arith,
      room_first (decimal (x / 10)) ((48 + x % 10) ∷ []) (room_large x (omega arith) c.ranges.x.fits c.requires),
    )

pub byte-requires-2 : goal.byte-requires-2
byte-requires-2 t c =
    let x = c.args.x in
    let room = room_large x (omega arith) c.ranges.x.fits c.requires in
    rw c.digit-2.ensures (room_second (decimal (x / 10)) ((48 + x % 10) ∷ []) room c.number.ensures)

pub returns : goal.returns
returns t c = wrote_large _ _ (omega arith) c.ranges.x.fits c.digit-2.ensures c.number.ensures c.byte-2.ensures
