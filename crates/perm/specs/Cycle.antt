-- Cycles, by following a permutation: document 01's *loop*. These are definitions; nothing is assumed.
use Rattle.std.specs.Prelude.{ℕ, zero, suc, Bool, not, List, ltb, length}
use Rattle.perm.specs.Lists.{tally, some, positions}
use Rattle.perm.specs.Permutation.{at}

-- the position reached from i after t steps, each from a position to the value that stands there
unfoldable pub follow : List ℕ → ℕ → ℕ → ℕ
follow s zero i = i
follow s (suc t) i = at s (follow s t i)

-- no position met while following from i for as many steps as s is long is below i: i is the least position of its cycle
unfoldable pub least : List ℕ → ℕ → Bool
least s i = not (some (λ t. ltb (follow s t i) i) (positions (length s)))

-- document 01's k, the number of loops: each cycle is counted at its least position
unfoldable pub cycles : List ℕ → ℕ
cycles s = tally (least s) (positions (length s))
