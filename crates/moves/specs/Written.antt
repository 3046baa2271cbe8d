-- Document 02, l): the moves from the identity to a permutation, cycle by cycle, as they are written. These are definitions; nothing is assumed.
use Rattle.std.specs.Prelude.{◌≡◌, ℕ, zero, suc, ◌≤◌, ◌<◌, Bool, true, not, cond, ◌&&◌, List, [], ◌∷◌, ◌++◌, eqb, length}
use Rattle.perm.specs.Lists.{tally, positions}
use Rattle.perm.specs.Permutation.{at}
use Rattle.perm.specs.Cycle.{follow, least}
use Rattle.perm.specs.Pairs.{Pair}
use Rattle.moves.specs.State.{State, standing}

-- x is empty, and the value a stands at position 0: x takes the value that s wants there. That is a, from position 0, which is the last move; or it comes from its own
-- position, which is then empty, and so on, for no more moves than `most`
unfoldable pub filling : List ℕ → ℕ → ℕ → ℕ → List Pair
filling s a zero x = []
filling s a (suc most) x = cond (eqb (at s x) a) ((0, x) ∷ []) ((at s x, x) ∷ filling s a most (at s x))

-- the moves round the cycle of a: first the value at a goes to position 0
abbrev pub around : List ℕ → ℕ → List Pair
around s a = (a, 0) ∷ filling s a (length s) a

-- a is the least position of a cycle of two or more
abbrev pub begins : List ℕ → ℕ → Bool
begins s a = least s a && not (eqb (at s a) a)

-- the moves round each cycle of two or more whose least position is at most m, rising by that position
unfoldable pub moves_to : List ℕ → ℕ → List Pair
moves_to s zero = []
moves_to s (suc m) = moves_to s m ++ cond (begins s (suc m)) (around s (suc m)) []

-- and round all of them
abbrev pub moves_of : List ℕ → List Pair
moves_of s = moves_to s (length s)

-- how many values are away from their own position
unfoldable pub away : List ℕ → ℕ
away s = tally (λ i. not (eqb (at s i) i)) (positions (length s))

-- how many cycles have two values or more, each counted at its least position
unfoldable pub long_cycles : List ℕ → ℕ
long_cycles s = tally (begins s) (positions (length s))

-- the cycle of a has c values: c steps lead back to a, and no fewer do
pub record HasValues (s : List ℕ) (a c : ℕ) : Type 0 where
  pub some_steps : 1 ≤ c
  pub back : follow s c a ≡ a
  pub first : (u : ℕ) → 1 ≤ u → u < c → follow s u a ≡ a → ⊥

-- how a written move comes about, in the document's words, where t is what stands where before it: the value at the least position of a cycle of two or more goes to
-- position 0; or another position takes the value that s wants there, from wherever it stands
pub data IsDrawn (s : List ℕ) (t : State) (m : Pair) : Type 0 where
  begun : begins s m.0 ≡ true → m.1 ≡ 0 → IsDrawn s t m
  wanted : 1 ≤ m.1 → standing t m.0 ≡ at s m.1 → IsDrawn s t m
