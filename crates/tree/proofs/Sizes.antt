-- The rule of a flat table of 231 sizes of a kind: one test, which antt computes, that the table is so long and that each entry follows from two others by the recurrence and fits 64
-- bits; and the law that a table that passes it holds the sizes. Assumes nothing.
use Prim.Native.Nat.{ℕ, zero, suc, ◌+◌, ◌-◌, ◌*◌, ◌^◌, ◌≤◌, ◌<◌}
use native.Mathlib.Omega.{arith}
use native.Mathlib.Nat.{mul-le-mul}
use mathlib.Core.Path.{◌≡◌, ◌∙◌}
use mathlib.Core.Bool.{Bool, ◌&&◌}
use mathlib.Core.List.{List}
use lib.Dec.{T, eqb, eqb→eq, ltb, ltb→lt}
use lib.ListN.{length, get_or}
use Rattle.stirling.proofs.Rule.{all, and_left, and_right, all_at}
use Rattle.tree.specs.Sizes.{usable_below, size, index, IsTable}
use Rattle.tree.specs.declared.Kind.{Kind}
use Rattle.tree.proofs.PerKind.{below_most}

-- the entry for f and m
abbrev entry : List ℕ → ℕ → ℕ → ℕ
entry xs f m = get_or xs (index f m) 0

-- the recurrence at f and m, between entries of the table
abbrev right : Kind → List ℕ → ℕ → ℕ → Bool
right kind xs f zero = eqb (entry xs f 0) 1
right kind xs f (suc m) = eqb (entry xs f (suc m)) (entry xs (suc f) m + f * entry xs (usable_below kind f) m)

-- it holds there, and the entry fits 64 bits
abbrev passes : Kind → List ℕ → ℕ → ℕ → Bool
passes kind xs f m = right kind xs f m && ltb (entry xs f m) (2 ^ 64)

-- the test of every entry for f + m up to 20
abbrev every_passes : Kind → List ℕ → Bool
every_passes kind xs = all (λ f. all (passes kind xs f) (21 - f)) 21

-- the test of the whole table
abbrev pub test : Kind → List ℕ → Bool
test kind xs = eqb (length xs) 231 && every_passes kind xs

-- a table whose entries pass
module _ (kind : Kind) (xs : List ℕ) (t : T (every_passes kind xs)) where
  -- the entry for f and m passes
  passes_at : (f m : ℕ) → f + m ≤ 20 → T (passes kind xs f m)
  passes_at f m h = all_at (passes kind xs f) (21 - f) (all_at (λ f. all (passes kind xs f) (21 - f)) 21 t f (omega arith)) m (omega arith)

  -- so the recurrence holds there
  right_at : (f m : ℕ) → f + m ≤ 20 → T (right kind xs f m)
  right_at f m h = and_left (right kind xs f m) (ltb (entry xs f m) (2 ^ 64)) (passes_at f m h)

  -- and it is the size
  sized : (f m : ℕ) → f + m ≤ 20 → entry xs f m ≡ size kind f m
  unfolding size
  sized f zero h = eqb→eq _ _ (right_at f 0 h)
  sized f (suc m) h = eqb→eq _ _ (right_at f (suc m) h) ∙ rw (sized (suc f) m (omega arith), sized (usable_below kind f) m (omega (arith, below_most kind f)))

  -- which fits
  fitting : (f m : ℕ) → f + m ≤ 20 → size kind f m < 2 ^ 64
  fitting f m h = rw sized at (ltb→lt (entry xs f m) (2 ^ 64) (and_right (right kind xs f m) (ltb (entry xs f m) (2 ^ 64)) (passes_at f m h)))

-- a table that passes the test holds the sizes
pub is_table : (kind : Kind) (xs : List ℕ) → T (test kind xs) → IsTable kind xs
is_table kind xs t =
    let every = and_right (eqb (length xs) 231) (every_passes kind xs) t in
    record { long = eqb→eq (length xs) 231 (and_left (eqb (length xs) 231) (every_passes kind xs) t); holds = sized kind xs every; fits = fitting kind xs every }

-- twice the number of entries before those of a sum up to 20
pub sum_bound : (f m : ℕ) → f + m ≤ 20 → (f + m) * (f + m + 1) ≤ 420
sum_bound f m h = let more : f + m + 1 ≤ 21 = omega arith in mul-le-mul h more
