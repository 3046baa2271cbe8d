-- The list S(n,k): document 01's "The order, S(n,k)", relation by relation. These are definitions; nothing is assumed.
use Rattle.std.specs.Prelude.{ℕ, zero, suc, ◌+◌, ◌-◌, Bool, false, not, cond, ◌||◌, List, [], ◌∷◌, ◌++◌, map, reverse, eqb, ltb}
use Rattle.perm.specs.Lists.{positions}
use Rattle.perm.specs.Permutation.{extend, insert}
use Rattle.gray.specs.declared.Block.{Block}
use Rattle.gray.specs.declared.Block.TheVariants.{Insert as I, Extend as E}
use Rattle.gray.specs.declared.Letter.{Letter}
use Rattle.gray.specs.declared.Letter.TheVariants.{Nothing as none, A as by_a, B as by_b, C as by_c, D as by_d, E as by_e}

-- a permutation as a list of its values; a list of them is a list of rows
abbrev pub Row : Type 0
Row = List ℕ

unfoldable pub odd : ℕ → Bool
odd zero = false
odd (suc e) = not (odd e)

-- document 01's [L]e: L for even e, and L reversed for odd e
unfoldable pub reading : ℕ → List Row → List Row
reading e L = cond (odd e) (reverse L) L

-- a block's rows, where L = S(n−1,k) and M = S(n−1,k−1): I i e stands for I(i,[L]e), and E e for E([M]e)
unfoldable pub rows : ℕ → List Row → List Row → Block → List Row
rows n L M (I i e) = map (insert n i) (reading e L)
rows n L M (E e) = map (extend n) (reading e M)

-- document 01's "then": the blocks' rows, one block after the other
unfoldable pub joined : ℕ → List Row → List Row → List Block → List Row
joined n L M [] = []
joined n L M (b ∷ bs) = rows n L M b ++ joined n L M bs

-- f(a), f(a+1), …: n blocks
unfoldable pub rising : (ℕ → Block) → ℕ → ℕ → List Block
rising f a zero = []
rising f a (suc n) = f a ∷ rising f (suc a) n

-- f(a), f(a−1), …: n blocks
unfoldable pub falling : (ℕ → Block) → ℕ → ℕ → List Block
falling f a zero = []
falling f a (suc n) = f a ∷ falling f (a - 1) n

-- f(i) for i = a up to b
abbrev pub up : (ℕ → Block) → ℕ → ℕ → List Block
up f a b = rising f a (suc b - a)

-- f(i) for i = a down to b
abbrev pub down : (ℕ → Block) → ℕ → ℕ → List Block
down f a b = falling f a (suc a - b)

-- (a), n = 4: I(1,L), then I(2,L reversed), then I(3,L reversed)
abbrev pub blocks_a4 : List Block
blocks_a4 = I 1 0 ∷ I 2 1 ∷ I 3 1 ∷ []

-- (a), n ≥ 5: I(1,L); then for i = n−1 down to 4, I(i,[L](i+1)); then I(2,L); then I(3,L reversed)
abbrev pub blocks_a : ℕ → List Block
blocks_a n = I 1 0 ∷ (down (λ i. I i (i + 1)) (n - 1) 4 ++ (I 2 0 ∷ I 3 1 ∷ []))

-- (c), n = 3: I(1,L), I(2,L), E(S(2,1))
abbrev pub blocks_c3 : List Block
blocks_c3 = I 1 0 ∷ I 2 0 ∷ E 0 ∷ []

-- (c), n ≥ 4: I(1,L); I(i,L) for i = n−1 down to 2 without n−2; I(n−2,L); E(S(n−1,n−2) reversed)
abbrev pub blocks_c : ℕ → List Block
blocks_c n = I 1 0 ∷ I (n - 1) 0 ∷ (down (λ i. I i 0) (n - 3) 2 ++ (I (n - 2) 0 ∷ E 1 ∷ []))

-- (d): I(1,L); I(i,[L]i) for i = 3 up to n−1; E(S(n−1,n−3)); I(2,L reversed)
abbrev pub blocks_d : ℕ → List Block
blocks_d n = I 1 0 ∷ (up (λ i. I i i) 3 (n - 1) ++ (E 0 ∷ I 2 1 ∷ []))

-- (e): I(1,L); I(i,[L]i) for i = n−1 down to k+1; E([S(n−1,k−1)]k); I(i,[L](i−1)) for i = k down to 2
abbrev pub blocks_e : ℕ → ℕ → List Block
blocks_e n k = I 1 0 ∷ (down (λ i. I i i) (n - 1) (k + 1) ++ (E k ∷ down (λ i. I i (i - 1)) k 2))

-- (a) k = 1. n = 1: (1). n = 2: (2,1). n = 3: (3,1,2), (2,3,1). n = 4 and n ≥ 5: the blocks above
unfoldable pub relation_a : ℕ → List Row → List Row
relation_a zero L = []
relation_a (suc zero) L = (1 ∷ []) ∷ []
relation_a (suc (suc zero)) L = (2 ∷ 1 ∷ []) ∷ []
relation_a (suc (suc (suc zero))) L = (3 ∷ 1 ∷ 2 ∷ []) ∷ (2 ∷ 3 ∷ 1 ∷ []) ∷ []
relation_a (suc (suc (suc (suc zero)))) L = joined 4 L [] blocks_a4
relation_a (suc (suc (suc (suc (suc n))))) L = joined (5 + n) L [] (blocks_a (5 + n))

-- (b) k = n ≥ 2: only (1,2,…,n)
unfoldable pub relation_b : ℕ → List Row
relation_b n = positions n ∷ []

-- (c) k = n−1, n ≥ 3
unfoldable pub relation_c : ℕ → List Row → List Row → List Row
relation_c n L M = joined n L M (cond (eqb n 3) blocks_c3 (blocks_c n))

-- (d) k = n−2, n ≥ 4
unfoldable pub relation_d : ℕ → List Row → List Row → List Row
relation_d n L M = joined n L M (blocks_d n)

-- (e) 2 ≤ k ≤ n−3
unfoldable pub relation_e : ℕ → ℕ → List Row → List Row → List Row
relation_e n k L M = joined n L M (blocks_e n k)

-- which relation gives S(n,k), for n ≥ 1: none where no permutation of n has k cycles; (a) k = 1; (b) k = n; (c) k = n−1; (d) k = n−2; otherwise (e)
unfoldable pub letter : ℕ → ℕ → Letter
letter n k =
    cond (eqb k 0 || ltb n k) none
    (cond (eqb k 1) by_a (cond (eqb k n) by_b (cond (eqb (k + 1) n) by_c (cond (eqb (k + 2) n) by_d by_e))))

unfoldable pub relation : Letter → ℕ → ℕ → List Row → List Row → List Row
relation none n k L M = []
relation by_a n k L M = relation_a n L
relation by_b n k L M = relation_b n
relation by_c n k L M = relation_c n L M
relation by_d n k L M = relation_d n L M
relation by_e n k L M = relation_e n k L M

-- document 01's S(n,k). S(0,0) holds the one permutation of nothing, as c(0,0) = 1
unfoldable pub S : ℕ → ℕ → List Row
S zero zero = [] ∷ []
S zero (suc k) = []
S (suc n) k = relation (letter (suc n) k) (suc n) k (S n k) (S n (k - 1))
