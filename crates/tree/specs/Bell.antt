-- Cycles that fall: document 02, k). These are definitions; nothing is assumed.
use Rattle.std.specs.Prelude.{◌≡◌, ℕ, suc, ◌≤◌, ◌<◌, Bool, not, ◌&&◌, List, ltb}
use Rattle.perm.specs.Permutation.{at}
use Rattle.perm.specs.Cycle.{follow, least}

-- document 02's "loop that does not fall", at position i: i is not the least of its cycle, and its value is not smaller
abbrev pub rises : List ℕ → ℕ → Bool
rises s i = not (least s i) && not (ltb (at s i) i)

-- no number of the cycle of i is above i
abbrev pub IsHighest : List ℕ → ℕ → Type 0
IsHighest s i = (t : ℕ) → follow s t i ≤ i

-- document 02's "loop that falls from its highest number to its lowest", followed from i: for m steps each number is below the one before, and the next step leads back to i.
-- The laws `falls-followed` and `followed-falls` (proofs/Followed.antt): no position of a permutation rises just if each cycle falls so from its highest number
pub record FallsFrom (s : List ℕ) (i : ℕ) : Type 0 where
  pub m : ℕ
  pub falls : (t : ℕ) → t < m → follow s (suc t) i < follow s t i
  pub closes : follow s (suc m) i ≡ i
