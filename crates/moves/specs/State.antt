-- Document 02, l): what stands at the positions 0 to n, and moves from one of them to another. Position 0 is the document's spare road. These are definitions; nothing
-- is assumed.
use Rattle.std.specs.Prelude.{◌≡◌, ℕ, ◌≤◌, ◌<◌, Bool, true, ◌&&◌, List, [], ◌∷◌, ◌++◌, eqb, ltb, length, get_or, set}
use Rattle.perm.specs.Lists.{positions, same}
use Rattle.perm.specs.Pairs.{Pair}

-- what stands at each of the positions 0 to n: a value, or 0 for none
abbrev pub State : Type 0
State = List ℕ

-- what stands at position p
abbrev pub standing : State → ℕ → ℕ
standing t p = get_or t p 0

-- a permutation on the positions 1 to n, and position 0 empty
abbrev pub placed : List ℕ → State
placed s = 0 ∷ s

-- document 02's home order: each value at its own position
abbrev pub home : ℕ → State
home n = placed (positions n)

-- the move, from its first position to its second, finds the first occupied and the second empty. (A position above n is refused before a list is judged.)
abbrev pub possible : State → Pair → Bool
possible t m = ltb 0 (standing t m.0) && eqb (standing t m.1) 0

-- what then stands where: at the second position what stood at the first, and at the first nothing
abbrev pub moved : State → Pair → State
moved t m = set (set t m.1 (standing t m.0)) m.0 0

-- each move of a list is possible after those before it
unfoldable pub all_possible : State → List Pair → Bool
all_possible t [] = true
all_possible t (m ∷ ms) = possible t m && all_possible (moved t m) ms

-- what stands where after the moves of a list
unfoldable pub after : State → List Pair → State
after t [] = t
after t (m ∷ ms) = after (moved t m) ms

-- begun from the identity, each move is possible, and the end is s with position 0 empty
abbrev pub leads : List ℕ → List Pair → Bool
leads s ms = all_possible (home (length s)) ms && same (after (home (length s)) ms) (placed s)

-- the same as a fact, of any two numbers: the first names a position that is occupied, and the second one, of 0 to n, that is empty
pub record IsPossible (t : State) (m : Pair) : Type 0 where
  pub inside : m.1 < length t
  pub occupied : 1 ≤ standing t m.0
  pub empty : standing t m.1 ≡ 0

-- a valid list of moves from the identity to s, whoever drew it up: each move is possible after those before it, and the end is s with position 0 empty. The law
-- `leads_to` (proofs/Leads.antt): `leads` says this
pub record LeadsTo (s : List ℕ) (ms : List Pair) : Type 0 where
  pub valid : (before rest : List Pair) (m : Pair) → ms ≡ before ++ (m ∷ rest) → IsPossible (after (home (length s)) before) m
  pub end : after (home (length s)) ms ≡ placed s
