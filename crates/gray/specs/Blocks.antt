-- S(n,k) as a list of blocks, for every n ≥ 1 and every k: the rows that (a) and (b) write out are blocks too. These are definitions; nothing is assumed.
use Rattle.std.specs.Prelude.{ℕ, zero, suc, ◌+◌, cond, List, [], ◌∷◌, eqb, get_or}
use Rattle.gray.specs.declared.Block.{Block}
use Rattle.gray.specs.declared.Block.TheVariants.{Insert as I, Extend as E}
use Rattle.gray.specs.declared.NumberedBlock.{NumberedBlock}
use Rattle.gray.specs.declared.Letter.{Letter}
use Rattle.gray.specs.declared.Letter.TheVariants.{Nothing as none, A as by_a, B as by_b, C as by_c, D as by_d, E as by_e}
use Rattle.gray.specs.Order.{blocks_a4, blocks_a, blocks_c3, blocks_c, blocks_d, blocks_e, letter}

-- (a): (1) is E of the permutation of nothing, (2,1) is I(1,(1)), and (3,1,2), (2,3,1) are I(1,(2,1)), I(2,(2,1))
unfoldable pub blocks_of_a : ℕ → List Block
blocks_of_a zero = []
blocks_of_a (suc zero) = E 0 ∷ []
blocks_of_a (suc (suc zero)) = I 1 0 ∷ []
blocks_of_a (suc (suc (suc zero))) = I 1 0 ∷ I 2 0 ∷ []
blocks_of_a (suc (suc (suc (suc zero)))) = blocks_a4
blocks_of_a (suc (suc (suc (suc (suc n))))) = blocks_a (5 + n)

-- (b): (1,2,…,n) is E of (1,2,…,n−1)
unfoldable pub blocks_of : Letter → ℕ → ℕ → List Block
blocks_of none n k = []
blocks_of by_a n k = blocks_of_a n
blocks_of by_b n k = E 0 ∷ []
blocks_of by_c n k = cond (eqb n 3) blocks_c3 (blocks_c n)
blocks_of by_d n k = blocks_d n
blocks_of by_e n k = blocks_e n k

unfoldable pub blocks : ℕ → ℕ → List Block
blocks n k = blocks_of (letter n k) n k

-- the position at which the rows of a block of S(n,k) have value n: i for I(i,[L]e), and n for E([M]e)
abbrev pub position_of : ℕ → Block → ℕ
position_of n (I i e) = i
position_of n (E e) = n

-- of some blocks, the number of the first that puts value n at position i, counted from 0; where none does, how many they are
unfoldable pub number_in : ℕ → ℕ → List Block → ℕ
number_in n i [] = 0
number_in n i (b ∷ bs) = cond (eqb (position_of n b) i) 0 (suc (number_in n i bs))

-- document 02's number of a block, "from 0 in written order": of the block of S(n,k) that puts value n at position i
abbrev pub number_of : ℕ → ℕ → ℕ → ℕ
number_of n k i = number_in n i (blocks n k)

-- that block with its number; where no block puts n there, E 0, which is no block of S(n,k), with the number of its blocks
abbrev pub numbered : ℕ → ℕ → ℕ → NumberedBlock
numbered n k i = record { number = number_of n k i; block = get_or (blocks n k) (number_of n k i) (E 0) }
