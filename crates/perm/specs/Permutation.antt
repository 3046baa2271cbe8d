-- Permutations as lists of values: document 01's "Words" and the two ways to make a longer one. These are definitions; nothing is assumed.
use Rattle.std.specs.Prelude.{◌≡◌, ℕ, ◌-◌, ◌≤◌, not, List, [], ◌∷◌, ◌++◌, eqb, length, get_or, set}
use Rattle.perm.specs.Lists.{tally, positions}

-- document 01's s(i), the tram on road i: the value at position i, counted from 1
abbrev pub at : List ℕ → ℕ → ℕ
at s i = get_or s (i - 1) 0

-- document 01's *stabling* of n trams: n values, and each value 1 to n occurs once
pub record IsPermutation (n : ℕ) (s : List ℕ) : Type 0 where
  pub size : length s ≡ n
  pub once : (v : ℕ) → 1 ≤ v → v ≤ n → tally (eqb v) s ≡ 1

-- a partial permutation of n: each of n positions has a value 1 to n, or 0 for none, and no value stands at two positions
pub record IsPartial (n : ℕ) (s : List ℕ) : Type 0 where
  pub size : length s ≡ n
  pub bound : (i : ℕ) → 1 ≤ i → i ≤ n → at s i ≤ n
  pub apart : (i j : ℕ) → 1 ≤ i → i ≤ n → 1 ≤ j → j ≤ n → at s i ≡ at s j → (at s i ≡ 0 → ⊥) → i ≡ j

-- document 02, e)'s trams on their own road: how many values stand at their own position, the number of i with s(i) = i
unfoldable pub fixed : List ℕ → ℕ
fixed s = tally (λ i. eqb (at s i) i) (positions (length s))

-- s with value v at position i
abbrev pub put : List ℕ → ℕ → ℕ → List ℕ
put s i v = set s (i - 1) v

-- document 01's product s·⟨a,b⟩: the values at positions a and b exchanged
unfoldable pub exchange : ℕ → ℕ → List ℕ → List ℕ
exchange a b s = put (put s a (at s b)) b (at s a)

-- document 01's product s·⟨i,j,l⟩: s(j) at position i, s(l) at position j, s(i) at position l, the other positions as in s
unfoldable pub rotate : List ℕ → ℕ → ℕ → ℕ → List ℕ
rotate s i j l = put (put (put s i (at s j)) j (at s l)) l (at s i)

-- on how many positions two permutations differ; two arrays likewise, on how many entries
unfoldable pub distance : List ℕ → List ℕ → ℕ
distance s t = tally (λ i. not (eqb (at s i) (at t i))) (positions (length s))

-- document 01's E(γ): value n added at position n
unfoldable pub extend : ℕ → List ℕ → List ℕ
extend n γ = γ ++ (n ∷ [])

-- document 01's I(i,γ): position i gets value n, position n gets γ(i)
unfoldable pub insert : ℕ → ℕ → List ℕ → List ℕ
insert n i γ = put γ i n ++ (at γ i ∷ [])
