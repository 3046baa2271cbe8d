-- What the search for a child keeps: the rows of the children passed so far. Assumes nothing.
use mathlib.Core.Path.{◌≡◌}
use Prim.Native.Nat.{ℕ, suc, ◌+◌, ◌-◌, ◌*◌, ◌≤◌}
use native.Mathlib.Omega.{arith}
use native.Mathlib.Nat.{add-mul}
use mathlib.Core.Bool.{true, false}
use mathlib.Core.List.{List}
use Rattle.perm.specs.Lists.{one, tally, range}
use Rattle.perm.proofs.Tally.{tally-positions}
use Rattle.tree.specs.Kind.{rule_of}
use Rattle.tree.specs.Search.{count_usable}
use Rattle.tree.specs.declared.Kind.{Kind}

-- one position more is counted: l itself
count_next : (kind : Kind) (s : List ℕ) (l : ℕ) → 1 ≤ l → count_usable kind s l ≡ count_usable kind s (l - 1) + one (rule_of kind s l)
count_next kind s l h = let e : suc (l - 1) ≡ l = omega arith in rw e at (tally-positions (rule_of kind s) (l - 1))

-- the positions before l are passed: the place is the rows of the children there, and the rest
pub record Passed (kind : Kind) (s : List ℕ) (size place l rest : ℕ) : Type 0 where
  pub least : 1 ≤ l
  pub sum : place ≡ count_usable kind s (l - 1) * size + rest

-- at first none
pub passed_none : (kind : Kind) (s : List ℕ) (size place : ℕ) → Passed kind s size place 1 place
unfolding tally range
passed_none kind s size place = record { least = omega arith; sum = omega arith }

-- one position more, and what is left without its rows
passed-next : {kind : Kind} {s : List ℕ} {size place l rest : ℕ} (left : ℕ) → one (rule_of kind s l) * size + left ≡ rest → Passed kind s size place l rest → Passed kind s size place (l + 1) left
passed-next {kind} {s} {size} {l = l} left e w =
    let y : l + 1 - 1 ≡ l = omega arith in
    record { least = omega arith; sum = rw (y, count_next kind s l w.least, add-mul) (omega (arith, w.sum)) }

-- one that may be used: a child's rows
pub passed_child : {kind : Kind} {s : List ℕ} {size place l rest : ℕ} → rule_of kind s l ≡ true → size ≤ rest → Passed kind s size place l rest → Passed kind s size place (l + 1) (rest - size)
passed_child e h = passed-next _ (rw e (omega arith))

-- and one that may not: none
pub passed_other : {kind : Kind} {s : List ℕ} {size place l rest : ℕ} → rule_of kind s l ≡ false → Passed kind s size place l rest → Passed kind s size place (l + 1) rest
passed_other e = passed-next _ (rw e (omega arith))
