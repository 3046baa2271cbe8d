-- `find::Pattern::can_enter` meets its contract: the wish at the block's position, and then the wishes that are left. Assumes nothing.
use Prim.Native.Nat.{ℕ, ◌-◌, ◌≤◌}
use native.Mathlib.Omega.{arith}
use mathlib.Core.Path.{◌≡◌, ap, ◌∙◌}
use mathlib.Core.Bool.{Bool, true}
use mathlib.Core.List.{List}
use lib.Dec.{eqb}
use lib.ListN.{get_or, set}
use borrow.Author.Tests.{eqb-true, eqb-false}
use borrow.Table.Steps.{cases}
use Rattle.perm.specs.Lists.{some}
use Rattle.gray.specs.Order.{S}
use Rattle.rank.specs.declared.Below.{Below}
use Rattle.find.specs.Meeting.{granted, meets}
use Rattle.find.specs.Search.{pattern_of, enters}
use Rattle.find.proofs.Meeting.{granted-free, granted_same}
use Rattle.find.proofs.Patterns.{pattern_below}
use Rattle.find.proofs.Pattern.can_enter.Goals as goal

-- a wish for no other value is granted
grants : (entry value : ℕ) → ((entry ≡ 0 → ⊥) → entry ≡ value) → granted entry value ≡ true
grants entry value h =
    cases (eqb entry 0) (λ e. granted-free entry value (eqb-true entry 0 e)) (λ e. granted_same entry value (h (eqb-false entry 0 e)))

-- where it is granted, the rows below decide
by_rows : {n m : ℕ} (below : Below) (w : List ℕ) {rest : List ℕ} {r : Bool} → 1 ≤ below.position → below.position ≤ n
    → m ≡ n - 1
    → rest ≡ set w below.position (get_or w n 0)
    → r ≡ some (meets (pattern_of m rest)) (S m below.cycles)
    → ((get_or w below.position 0 ≡ 0 → ⊥) → get_or w below.position 0 ≡ n)
    → r ≡ enters n below w
by_rows {n} {m} below w {rest} {r} l u s e q h =
    let left = ap (pattern_of (n - 1)) e ∙ pattern_below n w below.position l u in
    let rows : r ≡ some (meets (pattern_of (n - 1) rest)) (S (n - 1) below.cycles) = q ∙ ap (λ (j : ℕ). some (meets (pattern_of j rest)) (S j below.cycles)) s in
    rw (grants (get_or w below.position 0) n h) (rows ∙ ap (λ (v : List ℕ). some (meets v) (S (n - 1) below.cycles)) left)

pub returns : goal.returns
returns c =
    by_rows c.args.below c.args.self.values c.requires.0 c.requires.1 c.smaller.ensures.size c.smaller.ensures.values c.can_meet.ensures (λ d. grind arith)
