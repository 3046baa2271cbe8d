-- The rows of a permutation, followed downward, lead to it, and no rows lead to two. Assumes nothing.
use mathlib.Core.Path.{◌≡◌, refl, sym, ap, subst, ◌∙◌}
use Prim.Native.Nat.{ℕ, zero, suc, ◌-◌, ◌≤◌}
use native.Mathlib.Omega.{arith}
use mathlib.Core.Bool.{Bool, cond}
use mathlib.Core.List.{List, [], ◌∷◌}
use lib.Dec.{eqb}
use lib.ListN.{length, get_or}
use Rattle.perm.specs.Cycle.{cycles}
use Rattle.perm.specs.Lists.{tally, range}
use Rattle.perm.specs.Array.{position}
use Rattle.gray.specs.declared.Block.{Block}
use Rattle.gray.specs.declared.Block.TheVariants.{Insert as I, Extend as E}
use Rattle.gray.specs.declared.Letter.{Letter}
use Rattle.gray.specs.declared.Letter.TheVariants.{Nothing as none, A as by_a, B as by_b, C as by_c, D as by_d, E as by_e}
use Rattle.gray.specs.Order.{Row, letter}
use Rattle.gray.specs.Blocks.{blocks_of, blocks, position_of, number_of}
use Rattle.gray.specs.Listing.{HasCycles}
use Rattle.gray.proofs.InPlace.{InPlace, in_place}
use Rattle.rank.specs.Search.{grown, cycles_of, backward_of, turned}
use Rattle.rank.specs.Descent.{block_with, shorter, steps}
use Rattle.rank.proofs.Grown.{grown-insert, grown-extend}
use Rattle.rank.proofs.Without as Without
use Rattle.rank.proofs.Found.{found, left}
use Rattle.explain.specs.declared.Level.{Level}
use Rattle.explain.specs.Levels.{letter_byte, lettered, levels}
use Rattle.explain.specs.Following.{Names, made, Leads}

-- what a block makes of γ has n at the block's position
made-grown : (n : ℕ) (b : Block) (γ : Row) → length γ ≡ n - 1 → 1 ≤ n → InPlace n b → made n b γ ≡ grown n (position_of n b) γ
made-grown n (I i e) γ z h p = grown-insert n γ z h i p.0 p.1
made-grown n (E e) γ z h p = grown-extend n γ z h

-- a permutation is what its block makes of the shorter one
is_made : {m k : ℕ} {s : Row} → HasCycles (suc m) k s → s ≡ made (suc m) (block_with (suc m) k (position (suc m) s)) (shorter m s)
is_made {m} {k} {s} w =
    let n = suc m in
    let i = position n s in
    let shape = Without.made w.permutation in
    shape.grows
    ∙ ap (λ (j : ℕ). grown n j (shorter m s)) (sym (found w).1)
    ∙ sym (made-grown n (block_with n k i) (shorter m s) (omega (arith, shape.permutation.size)) (omega arith) (in_place n k (number_of n k i)))

-- its rows lead to it
pub leads : (n k : ℕ) (backward : Bool) (s : Row) → HasCycles n k s → Leads n k backward (levels n k backward s) s
unfolding steps lettered Leads blocks cycles tally range
leads zero k backward [] w = (sym w.count, refl)
leads zero k backward (x ∷ s) w = absurd (omega (arith, w.permutation.size))
leads (suc m) k backward s w = (
  block_with (suc m) k (position (suc m) s),
  shorter m s,
  record { relation = letter (suc m) k; letter = refl; inside = (found w).0; block = refl; reading = refl },
  leads m _ _ (shorter m s) (left w),
  is_made w,
)

-- the relation that a byte names
named : ℕ → Letter
named x =
    cond (eqb x 97) by_a (cond (eqb x 98) by_b (cond (eqb x 99) by_c (cond (eqb x 100) by_d (cond (eqb x 101) by_e none))))

named-letter : (l : Letter) → named (letter_byte l) ≡ l
unfolding named
named-letter none = refl
named-letter by_a = refl
named-letter by_b = refl
named-letter by_c = refl
named-letter by_d = refl
named-letter by_e = refl

-- so a row names one block
one_block : {n k : ℕ} {backward : Bool} {row : Level} {b d : Block} → Names n k backward row b → Names n k backward row d → b ≡ d
one_block {n} {k} {row = row} v w =
    let same : v.relation ≡ w.relation = sym (named-letter v.relation) ∙ ap named (sym v.letter ∙ w.letter) ∙ named-letter w.relation in
    sym v.block ∙ ap (λ (l : Letter). get_or (blocks_of l n k) row.block (E 0)) same ∙ w.block

-- and rows lead to one permutation
pub leads_one : (n k : ℕ) (backward : Bool) (rows : List Level) (t u : Row) → Leads n k backward rows t → Leads n k backward rows u → t ≡ u
unfolding Leads
leads_one zero k backward [] t u v w = v.1 ∙ sym w.1
leads_one zero k backward (row ∷ rows) t u v w = absurd v
leads_one (suc m) k backward [] t u v w = absurd v
leads_one (suc m) k backward (row ∷ rows) t u (b, γ, names-b, to-γ, is-t) (d, δ, names-d, to-δ, is-u) =
    let same : d ≡ b = one_block names-d names-b in
    let to-δ' = subst (λ (x : Block). Leads m (cycles_of k x) (turned backward (backward_of x)) rows δ) same to-δ in
    is-t
    ∙ ap (made (suc m) b) (leads_one m (cycles_of k b) (turned backward (backward_of b)) rows γ δ to-γ to-δ')
    ∙ ap (λ (x : Block). made (suc m) x δ) (sym same)
    ∙ sym is-u
