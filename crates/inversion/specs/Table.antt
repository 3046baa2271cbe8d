-- Document 02, f): an array read as the inversion table of a sequence, and the record lows of a sequence. A departure sequence of n is a permutation of n, the values 1 to
-- n each once (`IsPermutation`). These are definitions; nothing is assumed.
use Rattle.std.specs.Prelude.{◌≡◌, ℕ, ◌+◌, ◌-◌, ◌≤◌, Bool, not, List, ltb, length}
use Rattle.perm.specs.Lists.{tally, some, positions}
use Rattle.perm.specs.Permutation.{at, IsPermutation}

-- document 02's "earlier departures with a higher tram number": how many of the elements before the i-th are higher than it
unfoldable pub higher : List ℕ → ℕ → ℕ
higher q i = tally (λ j. ltb (at q i) (at q j)) (positions (i - 1))

-- p is the inversion table of q: entry i is one more than the number of earlier elements that are higher than the i-th
pub record IsTable (q p : List ℕ) : Type 0 where
  pub size : length p ≡ length q
  pub entry : (i : ℕ) → 1 ≤ i → i ≤ length q → at p i ≡ 1 + higher q i

-- q is a sequence of the inversion table p: it has the values 1 to n, each once, and the table p
pub record IsSequence (p q : List ℕ) : Type 0 where
  pub permutation : IsPermutation (length p) q
  pub table : IsTable q p

-- document 02's *record low*: the i-th element is below all before it: among those there is none that it is not below
unfoldable pub record_low : List ℕ → ℕ → Bool
record_low q i = not (some (λ j. not (ltb (at q i) (at q j))) (positions (i - 1)))

-- how many elements are record lows
unfoldable pub record_lows : List ℕ → ℕ
record_lows q = tally (record_low q) (positions (length q))
