-- S(n,k) is its blocks, joined; after this law nothing unfolds S but at n = 0. Read backward it is the same blocks in reverse order, each turned. Assumes nothing.
use mathlib.Core.Path.{◌≡◌, refl, ap, ◌∙◌}
use mathlib.Core.Logic.{inl, inr}
use Prim.Native.Nat.{ℕ, zero, suc, ◌+◌, ◌-◌, ◌≤◌, ◌<◌}
use native.Mathlib.Omega.{arith}
use mathlib.Core.Bool.{Bool, true, false, not, cond}
use mathlib.Core.List.{List, [], ◌∷◌, map, reverse, ◌++◌, append-nil, append_assoc, reverse-cons, reverse-append, reverse-reverse}
use mathlib.Mathlib.Data.List.Basic.{map-reverse_aux}
use Rattle.perm.specs.Lists.{range, positions}
use Rattle.perm.specs.Permutation.{extend, insert}
use Rattle.gray.specs.declared.Block.{Block}
use Rattle.gray.specs.declared.Block.TheVariants.{Insert as I, Extend as E}
use Rattle.gray.specs.declared.Letter.{Letter}
use Rattle.gray.specs.declared.Letter.TheVariants.{Nothing as none, B as by_b}
use Rattle.gray.specs.Order.{Row, S, joined, rows, reading, odd, falling, blocks_a, letter, relation, relation_a, relation_b, relation_c, relation_d, relation_e}
use Rattle.gray.specs.Blocks.{blocks, blocks_of, blocks_of_a}
use Rattle.perm.proofs.Tally.{range_snoc}
use Rattle.gray.proofs.Which.{Which, is_none, is-a, is_b, is_c, is-d, is-e, which}

-- blocks after blocks
pub joined-append : (n : ℕ) (L M : List Row) (bs ds : List Block) → joined n L M (bs ++ ds) ≡ joined n L M bs ++ joined n L M ds
unfolding joined
joined-append n L M [] ds = refl
joined-append n L M (b ∷ bs) ds = rw (joined-append n L M bs ds, append_assoc)

-- which relation gives S(n+1,k)
S-letter : (n k : ℕ) {l : Letter} → letter (suc n) k ≡ l → S (suc n) k ≡ relation l (suc n) k (S n k) (S n (k - 1))
unfolding S
S-letter n k e = rw e

-- no permutation of n ≥ 1 has no cycle
pub S-zero : (n : ℕ) → 1 ≤ n → S n 0 ≡ []
unfolding S letter relation
S-zero zero h = absurd (omega arith)
S-zero (suc n) h = refl

-- of the cases of `which`, only the first has k > n
beyond : (n k : ℕ) → n < k → Which n k → letter n k ≡ none
beyond n k h (is_none e _) = e
beyond n k h (is-a _ p q) = absurd (omega arith)
beyond n k h (is_b _ p q) = absurd (omega arith)
beyond n k h (is_c _ p q) = absurd (omega arith)
beyond n k h (is-d _ p q) = absurd (omega arith)
beyond n k h (is-e _ p q) = absurd (omega arith)

-- and none of n has more than n
pub S_beyond : (n k : ℕ) → n < k → S n k ≡ []
unfolding S relation
S_beyond zero zero h = absurd (omega arith)
S_beyond zero (suc k) h = refl
S_beyond (suc n) k h = S-letter n k (beyond (suc n) k h (which (suc n) k))

-- of the cases of `which`, only (b) has k = n ≥ 2
diagonal : (n : ℕ) → 2 ≤ n → Which n n → letter n n ≡ by_b
diagonal n h (is_none _ (inl p)) = absurd (omega arith)
diagonal n h (is_none _ (inr p)) = absurd (omega arith)
diagonal n h (is-a _ p q) = absurd (omega arith)
diagonal n h (is_b e _ _) = e
diagonal n h (is_c _ p q) = absurd (omega arith)
diagonal n h (is-d _ p q) = absurd (omega arith)
diagonal n h (is-e _ p q) = absurd (omega arith)

-- S(n,n) is the identity alone
pub S_identity : (n : ℕ) → S n n ≡ positions n ∷ []
unfolding S letter relation relation_a relation_b range
S_identity zero = refl
S_identity (suc zero) = refl
S_identity (suc (suc n)) = S-letter (suc n) (suc (suc n)) (diagonal (suc (suc n)) (omega arith) (which (suc (suc n)) (suc (suc n))))

-- blocks of insertions do not read the second list
inserts_only : (n : ℕ) (L M N : List Row) (f : ℕ → ℕ) (a c : ℕ) (bs : List Block)
    → joined n L M bs ≡ joined n L N bs
    → joined n L M (falling (λ i. I i (f i)) a c ++ bs) ≡ joined n L N (falling (λ i. I i (f i)) a c ++ bs)
unfolding joined rows falling
inserts_only n L M N f a zero bs e = e
inserts_only n L M N f a (suc c) bs e = rw (inserts_only n L M N f (a - 1) c bs e)

-- so (a) for n ≥ 5, which has none but these, may be given any
longer-a : (n : ℕ) (L M : List Row) → joined n L [] (blocks_a n) ≡ joined n L M (blocks_a n)
unfolding joined rows
longer-a n L M = ap (λ (r : List Row). rows n L M (I 1 0) ++ r) (inserts_only n L [] M _ (n - 1) _ (I 2 _ ∷ I 3 _ ∷ []) refl)

-- the rows that (a) writes out are blocks
written_a : (n : ℕ) → relation_a (suc n) (S n 1) ≡ joined (suc n) (S n 1) (S n 0) (blocks_of_a (suc n))
unfolding S letter relation relation_a blocks_of_a joined rows reading odd insert extend
written_a zero = refl
written_a (suc zero) = refl
written_a (suc (suc zero)) = refl
written_a (suc (suc (suc zero))) = refl
written_a (suc (suc (suc (suc n)))) =
    let five : 5 + n ≡ suc (suc (suc (suc (suc n)))) = omega arith in
    longer-a (5 + n) (S (suc (suc (suc (suc n)))) 1) (S (suc (suc (suc (suc n)))) 0)
    ∙ ap (λ m. joined m (S (suc (suc (suc (suc n)))) 1) (S (suc (suc (suc (suc n)))) 0) (blocks_a (5 + n))) five

-- and so is the row that (b) writes out
written_b : (n : ℕ) → relation_b (suc n) ≡ joined (suc n) (S n (suc n)) (S n n) (E 0 ∷ [])
unfolding relation_b joined rows reading odd extend
written_b n =
    let one : 1 + n ≡ suc n = omega arith in
    rw (S_identity n, range_snoc, one)

-- each relation is given by its blocks
by-letter : (n k : ℕ) → Which (suc n) k → S (suc n) k ≡ joined (suc n) (S n k) (S n (k - 1)) (blocks (suc n) k)
unfolding relation relation_c relation_d relation_e joined blocks blocks_of
by-letter n k (is_none e _) = rw (S-letter n k e, e)
by-letter n k (is-a e p _) = rw (S-letter n k e, e, p, written_a n)
by-letter n k (is_b e p _) = let q : suc n - 1 ≡ n = omega arith in rw (S-letter n k e, e, p, q, written_b n)
by-letter n k (is_c e _ _) = rw (S-letter n k e, e)
by-letter n k (is-d e _ _) = rw (S-letter n k e, e)
by-letter n k (is-e e _ _) = rw (S-letter n k e, e)

-- S(n+1,k) is its blocks, joined
pub S-blocks : (n k : ℕ) → S (suc n) k ≡ joined (suc n) (S n k) (S n (k - 1)) (blocks (suc n) k)
S-blocks n k = by-letter n k (which (suc n) k)

-- a block read the other way
unfoldable pub turn : Block → Block
turn (I i e) = I i (suc e)
turn (E e) = E (suc e)

map-reverse : (f : Row → Row) (L : List Row) → map f (reverse L) ≡ reverse (map f L)
map-reverse f L = map-reverse_aux f L []

reverse-reading : (e : ℕ) (L : List Row) → reverse (reading e L) ≡ reading (suc e) L
unfolding reading odd
reverse-reading e L = by-parity (odd e)
  where
    by-parity : (b : Bool) → reverse (cond b (reverse L) L) ≡ cond (not b) (reverse L) L
    by-parity true = reverse-reverse L
    by-parity false = refl

-- a block's rows read backward are those of the block turned
pub reverse-rows : (n : ℕ) (L M : List Row) (b : Block) → reverse (rows n L M b) ≡ rows n L M (turn b)
unfolding rows turn
reverse-rows n L M (I i e) = rw (← map-reverse, reverse-reading)
reverse-rows n L M (E e) = rw (← map-reverse, reverse-reading)

-- joined blocks read backward are the blocks in reverse order, each turned
pub reverse-joined : (n : ℕ) (L M : List Row) (bs : List Block) → reverse (joined n L M bs) ≡ joined n L M (reverse (map turn bs))
unfolding joined
reverse-joined n L M [] = refl
reverse-joined n L M (b ∷ bs) =
    rw
    (reverse-append, reverse-joined n L M bs, reverse-rows n L M b, reverse-cons (turn b) (map turn bs), joined-append, append-nil)
