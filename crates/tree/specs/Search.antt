-- The list position by position, which is how the searches go through it. Only private contracts cite these. They are definitions; nothing is assumed.
use Rattle.std.specs.Prelude.{◌≡◌, ℕ, zero, suc, ◌+◌, ◌-◌, ◌*◌, ◌≤◌, ◌<◌, true, List, [], ◌∷◌, ◌++◌, length}
use Rattle.perm.specs.Lists.{tally, positions}
use Rattle.perm.specs.Permutation.{at, exchange}
use Rattle.perm.specs.Array.{IsArray, partial}
use Rattle.tree.specs.Tree.{Rule, each}
use Rattle.tree.specs.Kind.{rule_of, IsOf}
use Rattle.tree.specs.declared.Kind.{Kind}
use Rattle.tree.specs.declared.Step.{Step}
use Rattle.tree.specs.declared.Step.TheVariants.{Child, Behind}

-- what hangs below s from position h + 1 on, m positions remaining: the children that exchange an allowed position of 1 to h with h + 1, each with what hangs below it, and
-- then what hangs below s from h + 2 on
unfoldable pub hanging : Rule → ℕ → ℕ → List ℕ → List (List ℕ)
hanging rule h zero s = []
hanging rule h (suc m) s =
    each (rule s) (λ l. exchange l (suc h) s ∷ hanging rule (suc h) m (exchange l (suc h) s)) h ++ hanging rule (suc h) m s

-- s and what hangs below it
abbrev pub rows : Rule → ℕ → ℕ → List ℕ → List (List ℕ)
rows rule h m s = s ∷ hanging rule h m s

-- how many of the positions 1 to h may be used
abbrev pub count_usable : Kind → List ℕ → ℕ → ℕ
count_usable kind s h = tally (rule_of kind s) (positions h)

-- s has n values, and every position above h has its own
pub record Settled (n h : ℕ) (s : List ℕ) : Type 0 where
  pub count : length s ≡ n
  pub own : (i : ℕ) → h < i → i ≤ n → at s i ≡ i

-- s is of the kind, with its own value at each of the m positions that remain, and f of those before them may be used
pub record Stands (kind : Kind) (m f : ℕ) (s : List ℕ) : Type 0 where
  pub small : length s ≤ 20
  pub room : m ≤ length s
  pub settled : Settled (length s) (length s - m) s
  pub of_kind : IsOf kind (length s) s
  pub usable : f ≡ count_usable kind s (length s - m)

-- the child that a place falls to, where each child that exchanges one of the positions 1 to h with h + 1 has `size` rows: its position l, and what is left of the place without
-- the rows before it
pub record FallsTo (kind : Kind) (s : List ℕ) (h size place l left : ℕ) : Type 0 where
  pub least : 1 ≤ l
  pub most : l ≤ h
  pub allowed : rule_of kind s l ≡ true
  pub inside : left < size
  pub sum : place ≡ count_usable kind s (l - 1) * size + left

-- that child, or what is left behind them all
abbrev pub Falls : Kind → List ℕ → ℕ → ℕ → ℕ → Step → Type 0
Falls kind s h size place (Child l left) = FallsTo kind s h size place l left
Falls kind s h size place (Behind left) = place ≡ count_usable kind s h * size + left

-- a is a transposition array whose first h exchanges lead to s, and whose others are allowed
pub record Leads (kind : Kind) (a : List ℕ) (h : ℕ) (s : List ℕ) : Type 0 where
  pub array : IsArray (length a) a
  pub here : partial (length a) a h ≡ s
  pub allowed : (i : ℕ) → h ≤ i → i < length a → at a (suc i) ≤ i → rule_of kind (partial (length a) a i) (at a (suc i)) ≡ true
