-- Transposition arrays: document 01's *array*. These are definitions; nothing is assumed.
use Rattle.std.specs.Prelude.{◌≡◌, ℕ, zero, suc, ◌≤◌, cond, List, [], ◌∷◌, ◌++◌, eqb, length, take}
use Rattle.perm.specs.Lists.{positions}
use Rattle.perm.specs.Permutation.{at, exchange, distance}

-- n entries with 1 ≤ pi ≤ i
pub record IsArray (n : ℕ) (p : List ℕ) : Type 0 where
  pub size : length p ≡ n
  pub bound : (i : ℕ) → 1 ≤ i → i ≤ n → (1 ≤ at p i) × (at p i ≤ i)

-- ⟨p1,1⟩·⟨p2,2⟩·…·⟨pm,m⟩ as a permutation of n
unfoldable pub partial : ℕ → List ℕ → ℕ → List ℕ
partial n p zero = positions n
partial n p (suc m) = exchange (at p (suc m)) (suc m) (partial n p m)

-- ⟨p1,1⟩·⟨p2,2⟩·…·⟨pn,n⟩
unfoldable pub product : List ℕ → List ℕ
product p = partial (length p) p (length p)

-- p is the array of s
pub record IsArrayOf (s p : List ℕ) : Type 0 where
  pub array : IsArray (length s) p
  pub equal : product p ≡ s

-- the first position at which s has the value v
unfoldable pub position : ℕ → List ℕ → ℕ
position v [] = 0
position v (x ∷ xs) = cond (eqb v x) 1 (suc (position v xs))

-- the array of a permutation of n: pn is the position of value n, and the other entries are the array of the first n−1 values once that value is
-- exchanged to position n. The law `array_of` (proofs/ArrayOf.antt): it is the one array of s
unfoldable pub array_of : ℕ → List ℕ → List ℕ
array_of zero s = []
array_of (suc m) s = array_of m (take m (exchange (position (suc m) s) (suc m) s)) ++ (position (suc m) s ∷ [])

-- document 02, n)'s entries changed: on how many entries the arrays of two permutations of n differ
abbrev pub entries_changed : ℕ → List ℕ → List ℕ → ℕ
entries_changed n s t = distance (array_of n s) (array_of n t)
