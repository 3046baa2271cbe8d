-- Source document 000's tree of permutations, as document 02, j) and k), list it, over the rule that says which positions may be used. These are definitions; nothing is assumed.
use Rattle.std.specs.Prelude.{◌≡◌, ℕ, zero, suc, ◌-◌, ◌≤◌, ◌<◌, Bool, true, cond, List, [], ◌∷◌, ◌++◌, eqb, ltb, length}
use Rattle.perm.specs.Lists.{positions}
use Rattle.perm.specs.Permutation.{at, exchange}
use Rattle.perm.specs.Cycle.{least}
use Rattle.perm.specs.Array.{position}

-- a rule: which positions l of s may be exchanged with a higher one
abbrev pub Rule : Type 0
Rule = List ℕ → ℕ → Bool

-- document 02's "roads with a home tram": position l has its own value
abbrev pub home : Rule
home s l = eqb (at s l) l

-- document 02's "roads that are least in their loop": source document 000's tails
abbrev pub tail : Rule
tail s l = least s l

-- document 02's "every l < j"
abbrev pub every : Rule
every s l = true

-- the highest of the positions 1 to m whose value is away, 1 if none
unfoldable pub highest_to : List ℕ → ℕ → ℕ
highest_to s zero = 1
highest_to s (suc m) = cond (home s (suc m)) (highest_to s m) (suc m)

-- document 02's "highest road whose tram is away (1 if none)"
abbrev pub highest : List ℕ → ℕ
highest s = highest_to s (length s)

-- what f gives for each of the numbers 1 to n that passes a test, the numbers rising, one after another
unfoldable pub each : (ℕ → Bool) → (ℕ → List (List ℕ)) → ℕ → List (List ℕ)
each p f zero = []
each p f (suc n) = each p f n ++ cond (p (suc n)) (f (suc n)) []

-- a permutation, then its children, each with all its own children before the next; d generations of them. A child exchanges positions l < j: j rises over the positions
-- above the highest whose value is away, and for each j, l rises over those that the rule allows
unfoldable pub subtree : Rule → ℕ → List ℕ → List (List ℕ)
subtree rule zero s = s ∷ []
subtree rule (suc d) s = s ∷ each (ltb (highest s)) (λ j. each (rule s) (λ l. subtree rule d (exchange l j s)) (j - 1)) (length s)

-- the whole tree, the identity first. n generations are enough, since a child's highest position away lies above its parent's
abbrev pub tree : Rule → ℕ → List (List ℕ)
tree rule n = subtree rule n (positions n)

-- document 02's child: x is s with positions l < j exchanged, where j lies above the highest position whose value is away, and the rule allows l
pub record IsChild (rule : Rule) (s x : List ℕ) : Type 0 where
  pub l : ℕ
  pub j : ℕ
  pub positive : 1 ≤ l
  pub below : l < j
  pub above : highest s < j
  pub inside : j ≤ length s
  pub allowed : rule s l ≡ true
  pub exchanged : x ≡ exchange l j s

-- document 02's "exchanging the highest road whose tram is away with the road where that tram stands"
abbrev pub parent : List ℕ → List ℕ
parent x = exchange (position (highest x) x) (highest x) x

-- the list with every l < j
abbrev pub permutations : ℕ → List (List ℕ)
permutations n = tree every n
