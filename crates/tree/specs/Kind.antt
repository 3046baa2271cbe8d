-- The kinds of permutation that are listed, each with its rule and its refusal: document 02, j) and k). These are definitions; nothing is assumed.
use Rattle.std.specs.Prelude.{◌≡◌, ℕ, ◌≤◌, Bool, false, List}
use Rattle.perm.specs.Permutation.{IsPermutation}
use Rattle.tree.specs.Tree.{Rule, home, tail, tree}
use Rattle.tree.specs.Involution.{longer}
use Rattle.tree.specs.Bell.{rises}
use Rattle.tree.specs.declared.Kind.{Kind}
use Rattle.tree.specs.declared.Kind.TheVariants.{Involution, Bell}

-- the rule that says which l may be used: the positions that have their own value, or those that are least in their cycle
abbrev pub rule_of : Kind → Rule
rule_of Involution = home
rule_of Bell = tail

-- the list of a kind
abbrev pub listed : Kind → ℕ → List (List ℕ)
listed kind n = tree (rule_of kind) n

-- the list of document 02, j): l rises over the positions that have their own value
abbrev pub involutions : ℕ → List (List ℕ)
involutions = listed Involution

-- the list of document 02, k): l rises over the positions that are least in their cycle
abbrev pub bells : ℕ → List (List ℕ)
bells = listed Bell

-- what no position of a permutation of the kind does: its cycle is longer than two, or it rises there
abbrev pub breaks : Kind → List ℕ → ℕ → Bool
breaks Involution = longer
breaks Bell = rises

-- and what a permutation is refused that has such a position
abbrev pub refusal_of : Kind → ℕ
refusal_of Involution = 15
refusal_of Bell = 16

-- a permutation of n of the kind
pub record IsOf (kind : Kind) (n : ℕ) (s : List ℕ) : Type 0 where
  pub permutation : IsPermutation n s
  pub fits : (i : ℕ) → 1 ≤ i → i ≤ n → breaks kind s i ≡ false

-- document 02, j): no cycle is longer than two
abbrev pub IsInvolution : ℕ → List ℕ → Type 0
IsInvolution = IsOf Involution

-- document 02, k): each cycle falls from its highest number to its lowest
abbrev pub IsBell : ℕ → List ℕ → Type 0
IsBell = IsOf Bell
