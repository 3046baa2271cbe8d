-- Document 02, c): the permutation that, as a product on the right, carries one permutation to another. These are definitions; nothing is assumed.
use Rattle.std.specs.Prelude.{◌≡◌, ℕ, List, map}
use Rattle.perm.specs.Permutation.{at, IsPermutation}
use Rattle.perm.specs.Array.{position}

-- the product s·u, where u acts on the right: (s·u)(i) = s(u(i))
unfoldable pub multiply : List ℕ → List ℕ → List ℕ
multiply s u = map (at s) u

-- document 02's carrying stabling: a permutation u of n with s·u = t
pub record Carries (n : ℕ) (s t u : List ℕ) : Type 0 where
  pub permutation : IsPermutation n u
  pub product : multiply s u ≡ t

-- at each position i the position at which s has the value t(i). The laws `carries` and `one-carries` (proofs/Carrying.antt): it is the one permutation that
-- carries s to t
unfoldable pub carrying : List ℕ → List ℕ → List ℕ
carrying s t = map (λ v. position v s) t
