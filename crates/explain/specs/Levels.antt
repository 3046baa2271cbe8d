-- Document 02, b): the rows that explain a permutation's place, one for each size from n down to 1. These are definitions; nothing is assumed.
use Rattle.std.specs.Prelude.{ℕ, zero, suc, ◌+◌, Bool, List, [], ◌∷◌}
use Rattle.gray.specs.declared.Letter.{Letter}
use Rattle.gray.specs.declared.Letter.TheVariants.{Nothing as none, A as by_a, B as by_b, C as by_c, D as by_d, E as by_e}
use Rattle.gray.specs.Order.{Row, letter}
use Rattle.rank.specs.declared.Step.{Step}
use Rattle.rank.specs.Descent.{steps}
use Rattle.explain.specs.declared.Level.{Level}

-- document 01's letter of a relation, (a) to (e), as its own byte; 0 where no relation gives the list
abbrev pub letter_byte : Letter → ℕ
letter_byte none = 0
letter_byte by_a = 97
letter_byte by_b = 98
letter_byte by_c = 99
letter_byte by_d = 100
letter_byte by_e = 101

-- the row of size n: the letter of the relation that gives the list, how the list is read, the block's number, and how many rows stand before the block
abbrev pub level : ℕ → Step → Level
level n step = record {
  letter = letter_byte (letter n step.cycles);
  backward = step.backward;
  block = step.block;
  before = step.before;
}

-- the rows of the steps for sizes n, n−1, …
unfoldable pub lettered : ℕ → List Step → List Level
lettered zero path = []
lettered (suc n) [] = []
lettered (suc n) (step ∷ path) = level (suc n) step ∷ lettered n path

-- the rows for sizes n down to 1, along a permutation s of n with k cycles (`steps`, crate `rank`, specs/Descent.antt, says what going down along s is)
abbrev pub levels : ℕ → ℕ → Bool → Row → List Level
levels n k backward s = lettered n (steps n k backward s)

-- the sum of the last column
unfoldable pub total : List Level → ℕ
total [] = 0
total (row ∷ rows) = row.before + total rows
