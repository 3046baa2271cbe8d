-- Counting in lists, and the list of positions. These are definitions; nothing is assumed.
use Rattle.std.specs.Prelude.{ℕ, zero, suc, ◌+◌, Bool, true, false, ◌&&◌, List, [], ◌∷◌, eqb, ltb}

-- 1 for a test that passes, 0 for one that fails
abbrev pub one : Bool → ℕ
one true = 1
one false = 0

-- how many elements of a list pass a test
unfoldable pub tally {ℓ} : {A : Type ℓ} → (A → Bool) → List A → ℕ
tally p [] = 0
tally p (x ∷ xs) = one (p x) + tally p xs

-- some element passes the test
abbrev pub some {ℓ} : {A : Type ℓ} → (A → Bool) → List A → Bool
some p xs = ltb 0 (tally p xs)

-- a, a + 1, a + 2, …: n numbers
unfoldable pub range : ℕ → ℕ → List ℕ
range a zero = []
range a (suc n) = a ∷ range (suc a) n

-- the positions 1 to n; as a permutation, the identity
abbrev pub positions : ℕ → List ℕ
positions n = range 1 n

-- two lists of numbers are equal
unfoldable pub same : List ℕ → List ℕ → Bool
same [] [] = true
same [] (y ∷ ys) = false
same (x ∷ xs) [] = false
same (x ∷ xs) (y ∷ ys) = eqb x y && same xs ys
