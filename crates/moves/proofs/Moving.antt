-- One move, and lists of moves: what then stands where, and that each move of a list is possible after those before it. Assumes nothing.
use mathlib.Core.Path.{◌≡◌, refl, sym, ap, ◌∙◌}
use Prim.Native.Nat.{ℕ, zero, suc, ◌≤◌}
use native.Mathlib.Omega.{arith}
use mathlib.Core.List.{List, [], ◌∷◌, ◌++◌}
use lib.ListN.{length, set, length-set}
use lib.Seq.{get_or-set_same, get_or-set_other}
use Rattle.perm.specs.Lists.{positions}
use Rattle.perm.specs.Permutation.{at}
use Rattle.perm.specs.Pairs.{Pair}
use Rattle.perm.proofs.Values.{at_suc, at-positions}
use Rattle.moves.specs.State.{State, standing, placed, home, moved, after, IsPossible}

-- what stands at a position other than 0 of a permutation
pub standing-placed : (s : List ℕ) (i : ℕ) → 1 ≤ i → standing (placed s) i ≡ at s i
standing-placed s zero h = absurd (omega arith)
standing-placed s (suc i) h = sym (at_suc s i)

-- and of the identity
pub standing-home : (n i : ℕ) → 1 ≤ i → i ≤ n → standing (home n) i ≡ i
standing-home n i h k = standing-placed (positions n) i h ∙ at-positions n i h k

-- ---- one move

-- it keeps the positions
pub length_moved : (t : State) (m : Pair) → length (moved t m) ≡ length t
length_moved t m = simp length-set

-- its first is empty after it
cleared : (t : State) (i : ℕ) → standing (set t i 0) i ≡ 0
cleared [] i = refl
cleared (x ∷ t) zero = refl
cleared (x ∷ t) (suc i) = cleared t i

pub moved-from : (t : State) (m : Pair) → standing (moved t m) m.0 ≡ 0
moved-from t m = cleared (set t m.1 (standing t m.0)) m.0

-- its second has what stood at the first
pub moved_to : {t : State} {m : Pair} → IsPossible t m → standing (moved t m) m.1 ≡ standing t m.0
moved_to {t} {m} h =
    let apart : m.1 ≡ m.0 → ⊥ = λ e. omega (arith, h.occupied, h.empty, ap (standing t) e) in
    get_or-set_other (set t m.1 (standing t m.0)) m.0 m.1 0 0 apart ∙ get_or-set_same t m.1 (standing t m.0) 0 h.inside

-- and elsewhere stands what stood there
pub moved_other : (t : State) (m : Pair) (i : ℕ) → (i ≡ m.0 → ⊥) → (i ≡ m.1 → ⊥) → standing (moved t m) i ≡ standing t i
moved_other t m i d e = get_or-set_other (set t m.1 (standing t m.0)) m.0 i 0 0 d ∙ get_or-set_other t m.1 i (standing t m.0) 0 e

-- ---- lists of moves

-- what is said of a move and of what stands where before it, said of each move of a list
unfoldable pub Each : (State → Pair → Type 0) → State → List Pair → Type 0
Each P t [] = Unit
Each P t (m ∷ ms) = P t m × Each P (moved t m) ms

-- each is possible
abbrev pub Valid : State → List Pair → Type 0
Valid = Each IsPossible

module _ (P : State → Pair → Type 0) where
  -- which is the same, said of a move in the list and those before it
  pub each_at : (t : State) (before rest : List Pair) (m : Pair) → Each P t (before ++ (m ∷ rest)) → P (after t before) m
  unfolding Each after
  each_at t [] rest m (h, v) = h
  each_at t (x ∷ before) rest m (h, v) = each_at (moved t x) before rest m v

  pub each_of : (t : State) (ms : List Pair) → ((before rest : List Pair) (m : Pair) → ms ≡ before ++ (m ∷ rest) → P (after t before) m) → Each P t ms
  unfolding Each after
  each_of t [] all = tt
  each_of t (m ∷ ms) all = (all [] ms m refl, each_of (moved t m) ms (λ before rest x e. all (m ∷ before) rest x (ap (λ (l : List Pair). m ∷ l) e)))

  -- two lists, one after the other
  pub each_append : (t : State) (xs ys : List Pair) → Each P t xs → Each P (after t xs) ys → Each P t (xs ++ ys)
  unfolding Each after
  each_append t [] ys v w = w
  each_append t (m ∷ xs) ys (h, v) w = (h, each_append (moved t m) xs ys v w)

pub after-append : (t : State) (xs ys : List Pair) → after t (xs ++ ys) ≡ after (after t xs) ys
unfolding after
after-append t [] ys = refl
after-append t (m ∷ xs) ys = after-append (moved t m) xs ys
