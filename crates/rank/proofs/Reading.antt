-- A permutation stands at one place of a reading and in one block; and the row at a place of a reading, from the part that holds the place, with the blocks passed on the
-- way. Assumes nothing.
use mathlib.Core.Path.{◌≡◌, refl, sym, ap, subst, ◌∙◌}
use Prim.Native.Nat.{ℕ, zero, suc, ◌+◌, ◌-◌, ◌≤◌, ◌<◌}
use native.Mathlib.Omega.{arith}
use mathlib.Core.Bool.{Bool, true, false, cond}
use mathlib.Core.List.{[], ◌∷◌, reverse}
use lib.ListN.{length}
use Rattle.stirling.specs.Count.{c}
use Rattle.stirling.proofs.Counts.{inside}
use Rattle.perm.specs.Lists.{positions}
use Rattle.perm.specs.Permutation.{IsPermutation}
use Rattle.perm.specs.Array.{position}
use Rattle.gray.specs.declared.Block.{Block}
use Rattle.gray.specs.declared.Block.TheVariants.{Insert as I, Extend as E}
use Rattle.gray.specs.Order.{Row}
use Rattle.gray.specs.Blocks.{blocks, position_of, number_of}
use Rattle.gray.specs.Listing.{row_at, HasCycles}
use Rattle.gray.proofs.Indexed.{block}
use Rattle.gray.proofs.InPlace.{in_place}
use Rattle.gray.proofs.Joined.{S_identity}
use Rattle.gray.proofs.Numbered.{counted}
use Rattle.gray.proofs.Once.{length-S, complete}
use Rattle.rank.specs.declared.Part.{Part}
use Rattle.rank.specs.Search.{reading_of, grown, cycles_of, backward_of, turned, size_of, before, number_read, part_of, HoldsPlace}
use Rattle.rank.specs.Ranking.{PlaceIn}
use Rattle.rank.specs.Descent.{block_with, shorter, passed}
use Rattle.rank.proofs.Reversed.{row_at-reverse, row-cycles}
use Rattle.rank.proofs.Starts.{in_range, before-mono, number_inside, number_back}
use Rattle.rank.proofs.Without.{without_grown}
use Rattle.rank.proofs.Around.{start-next, placed_in}
use Rattle.rank.proofs.Found.{found, left, more_placed}

-- a permutation of n with k cycles stands at a place of S(n,k), in either reading
pub placed : (backward : Bool) {n k : ℕ} {s : Row} → HasCycles n k s → (r : ℕ) × PlaceIn backward n k s r
placed false {n} {k} {s} w =
    let (r, h, e) = (complete n k).place s w in
    (r, record { below = rw (← length-S n k) h; row = e })
placed true {n} {k} {s} w =
    let (r, h, e) = (complete n k).place s w in
    let l : r < c n k = rw (← length-S n k) h in
    (c n k - 1 - r, record { below = omega arith; row = row_at-reverse n k (c n k - 1 - r) r (omega arith) ∙ e })

-- so k is from 1 to n, but for the permutation of nothing
pub in_list : {n k : ℕ} {s : Row} → HasCycles n k s → (1 ≤ n → 1 ≤ k) × (k ≤ n)
in_list {n} {k} w = let (r, p) = placed false w in inside n k r p.below

-- and at one place only
one_place : (backward : Bool) (n k : ℕ) {s : Row} {r q : ℕ} → PlaceIn backward n k s r → PlaceIn backward n k s q → r ≡ q
one_place false n k {r = r} {q} u v =
    (complete n k).only r q (rw (length-S n k) u.below) (rw (length-S n k) v.below) (u.row ∙ sym v.row)
one_place true n k {r = r} {q} u v =
    let x = c n k - 1 - r in
    let y = c n k - 1 - q in
    let e : x ≡ y =
    (complete n k).only x y (rw (length-S n k) (omega (arith, u.below))) (rw (length-S n k) (omega (arith, v.below)))
    (sym (row_at-reverse n k r x (omega (arith, u.below))) ∙ u.row ∙ sym v.row ∙ row_at-reverse n k q y (omega (arith, v.below))) in
    omega (arith, u.below, v.below)

-- a place is held by one block only
one_block : (n k : ℕ) (backward : Bool) (x y place : ℕ)
    → before n k backward x ≤ place
    → place < before n k backward (suc x)
    → before n k backward y ≤ place
    → place < before n k backward (suc y)
    → x ≡ y
one_block n k backward x y place lx ux ly uy =
    let not-below : ¬ (x < y) = λ l. omega (arith, before-mono n k backward (suc x) y l) in
    let not-above : ¬ (y < x) = λ l. omega (arith, before-mono n k backward (suc y) x l) in
    omega arith

-- so the block that holds a permutation's place is the one that puts n where the permutation has it
module _ {m k : ℕ} {s : Row} (w : HasCycles (suc m) k s) (backward : Bool) where
  its-block : (j r : ℕ) → j < length (blocks (suc m) k) → r < size_of (suc m) k (block (blocks (suc m) k) j)
      → PlaceIn backward (suc m) k s (before (suc m) k backward (number_read (suc m) k backward j) + r)
      → j ≡ number_of (suc m) k (position (suc m) s)
  its-block j r l u here =
      let n = suc m in
      let y : n - 1 ≡ m = omega arith in
      let i = number_of n k (position n s) in
      let b = block (blocks n k) i in
      let inside-i = (found w).0 in
      let (q, inner) = placed (turned backward (backward_of b)) (left w) in
      let there = more_placed backward w q inner in
      let size : q < size_of n k b = rw y inner.below in
      let same = one_place backward n k here there in
      sym (number_back n k backward j l)
      ∙ ap (number_read n k backward)
      (one_block n k backward (number_read n k backward j) (number_read n k backward i) (before n k backward (number_read n k backward j) + r)
      (omega arith)
      (omega (arith, start-next n k j (omega arith) l backward))
      (omega (arith, same))
      (omega (arith, same, start-next n k i (omega arith) inside-i backward)))
      ∙ number_back n k backward i inside-i

-- where k = n the identity is the only row, in either reading
one-row : (n k place : ℕ) → n ≡ k → place < c n k → place ≡ 0
one-row n k place e l = omega (arith, ap length (S_identity n), length-S n n, ap (c n) e)

pub identity_read : (backward : Bool) (n k place : ℕ) → n ≡ k → place < c n k → positions n ≡ row_at (reading_of backward n k) place
identity_read backward n k place e l = rw (← e, S_identity n, one-row n k place e l) (by-reading backward)
  where
    by-reading : (b : Bool) → positions n ≡ row_at (cond b (reverse (positions n ∷ [])) (positions n ∷ [])) 0
    by-reading true = refl
    by-reading false = refl

pub only-placed : (backward : Bool) {n k : ℕ} {s : Row} → n ≡ k → HasCycles n k s → PlaceIn backward n k s 0
only-placed backward {n} {k} {s} e w =
    let (r, p) = placed backward w in
    subst (PlaceIn backward n k s) (one-row n k r e p.below) p

-- and each list on the way down has one block
few_cycles : (k : ℕ) (b : Block) → k ≤ cycles_of k b + 1
few_cycles k (I i e) = omega arith
few_cycles k (E e) = omega arith

pub one-size_passed : (n k : ℕ) (backward : Bool) (s : Row) → n ≤ k → HasCycles n k s → passed n k backward s ≡ 0
unfolding passed
one-size_passed zero k backward s h w = refl
one-size_passed (suc m) k backward s h w =
    let n = suc m in
    let j = number_of n k (position n s) in
    let b = block_with n k (position n s) in
    let all : k ≡ n = omega (arith, (in_list w).1) in
    let one : 1 ≡ length (blocks n k) =
    counted n k 1 (record { by_zero = λ z. absurd (omega arith); by_beyond = λ l. absurd (omega arith); by_one = λ _ _. refl; by_a = λ o l. absurd (omega arith); by_more = λ l u. absurd (omega arith) }) in
    let below = one-size_passed m (cycles_of k b) (turned backward (backward_of b)) (shorter m s) (omega (arith, few_cycles k b)) (left w) in
    omega (arith, number_inside n k backward j (found w).0)

-- the row at a place, from the part that holds the place: the row below, with n put in
abbrev pub row_below : ℕ → ℕ → Part → Row
row_below n place p = row_at (reading_of p.below.backward (n - 1) p.below.cycles) (place - p.start)

row_of : (n k : ℕ) (backward : Bool) (j place : ℕ) → 1 ≤ n → j < length (blocks n k)
    → before n k backward (number_read n k backward j) ≤ place
    → place < before n k backward (number_read n k backward j) + size_of n k (block (blocks n k) j)
    → PlaceIn backward n k (grown n (position_of n (block (blocks n k) j)) (row_below n place (part_of n k backward j))) place
row_of n k backward j place h l from below =
    let start = before n k backward (number_read n k backward j) in
    let e : start + (place - start) ≡ place = omega arith in
    subst (PlaceIn backward n k _) e (placed_in backward n k j (place - start) h l refl (record { below = omega arith; row = refl }))

-- the additions that find it are those that find the row below, and one for each block passed
added_of : (m k : ℕ) (backward : Bool) (j place : ℕ) → j < length (blocks (suc m) k)
    → before (suc m) k backward (number_read (suc m) k backward j) ≤ place
    → place < before (suc m) k backward (number_read (suc m) k backward j) + size_of (suc m) k (block (blocks (suc m) k) j)
    → {a : ℕ}
    → a ≡ passed m (part_of (suc m) k backward j).below.cycles (part_of (suc m) k backward j).below.backward (row_below (suc m) place (part_of (suc m) k backward j))
    → number_read (suc m) k backward j + a ≡ passed (suc m) k backward (row_at (reading_of backward (suc m) k) place)
unfolding passed
added_of m k backward j place l from below e =
    let n = suc m in
    let y : n - 1 ≡ m = omega arith in
    let start = before n k backward (number_read n k backward j) in
    let b = block (blocks n k) j in
    let γ = row_below n place (part_of n k backward j) in
    let here = row_of n k backward j place (omega arith) l from below in
    let back : start + (place - start) ≡ place = omega arith in
    let low : place - start < size_of n k b = omega arith in
    let w = row-cycles n k place backward here.below in
    let shorter-one = row-cycles (n - 1) (cycles_of k b) (place - start) (turned backward (backward_of b)) low in
    let without = without_grown (position_of n b) (in_range n b (omega arith) (in_place n k j)) (subst (λ (x : ℕ). IsPermutation x γ) y shorter-one.permutation) in
    let number : j ≡ number_of n k (position n (row_at (reading_of backward n k) place)) =
    its-block w backward j (place - start) l low (record { below = rw back here.below; row = ap (row_at (reading_of backward n k)) back }) in
    let rest : shorter m (row_at (reading_of backward n k) place) ≡ γ = ap (shorter m) here.row ∙ without.left in
    let along : ℕ → Row → ℕ =
    λ i s. number_read n k backward i + passed m (cycles_of k (block (blocks n k) i)) (turned backward (backward_of (block (blocks n k) i))) s in
    ap (λ (x : ℕ). number_read n k backward j + x) e
    ∙ ap (λ (i : ℕ). along i γ) number
    ∙ ap (along (number_of n k (position n (row_at (reading_of backward n k) place)))) (sym rest)

-- so for any part that holds the place
module _ {n k place : ℕ} {backward : Bool} {p : Part} (h : 1 ≤ n) (w : HoldsPlace n k backward place p) where
  abbrev its-part : (P : Part → Type 0) → P (part_of n k backward w.number) → P p
  its-part P = subst P (sym w.part)

  abbrev of_part : (P : Part → Type 0) → P p → P (part_of n k backward w.number)
  of_part P = subst P w.part

  from : before n k backward (number_read n k backward w.number) ≤ place
  from = of_part (λ (q : Part). q.start ≤ place) w.from

  below : place < before n k backward (number_read n k backward w.number) + size_of n k (block (blocks n k) w.number)
  below = of_part (λ (q : Part). place < q.start + c (n - 1) q.below.cycles) w.below

  pub below-part : place - p.start < c (n - 1) p.below.cycles
  below-part = omega (arith, w.from, w.below)

  pub position_in : (1 ≤ p.below.position) × (p.below.position ≤ n)
  position_in = its-part (λ (q : Part). (1 ≤ q.below.position) × (q.below.position ≤ n)) (in_range n (block (blocks n k) w.number) h (in_place n k w.number))

  pub row_read : row_at (reading_of backward n k) place ≡ grown n p.below.position (row_below n place p)
  row_read =
      its-part (λ (q : Part). row_at (reading_of backward n k) place ≡ grown n q.below.position (row_below n place q))
      (row_of n k backward w.number place h w.inside from below).row

pub passed_read : (n : ℕ) {k place : ℕ} {backward : Bool} {p : Part} → 1 ≤ n → HoldsPlace n k backward place p
    → p.additions + passed (n - 1) p.below.cycles p.below.backward (row_below n place p) ≡ passed n k backward (row_at (reading_of backward n k) place)
passed_read zero h w = absurd (omega arith)
passed_read (suc m) {k} {place} {backward} {p} h w =
    let y : suc m - 1 ≡ m = omega arith in
    its-part h w (λ (q : Part). q.additions + passed (suc m - 1) q.below.cycles q.below.backward (row_below (suc m) place q)
    ≡ passed (suc m) k backward (row_at (reading_of backward (suc m) k) place))
    (added_of m k backward w.number place w.inside (from h w) (below h w)
    (ap (λ (x : ℕ). passed x (part_of (suc m) k backward w.number).below.cycles (part_of (suc m) k backward w.number).below.backward (row_below (suc m) place (part_of (suc m) k backward w.number))) y))
