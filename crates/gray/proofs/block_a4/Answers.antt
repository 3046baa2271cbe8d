-- `gray::block_a4` meets its contract: the blocks of (a) for n up to 4 are written out. Assumes nothing.
use mathlib.Core.Path.{◌≡◌, refl, sym}
use Prim.Native.Nat.{ℕ, zero, suc, ◌-◌, ◌≤◌, ◌<◌}
use native.Mathlib.Omega.{arith}
use lib.ListN.{length, get_or-eq_default}
use Rattle.gray.specs.declared.Block.TheVariants.{Extend as E}
use Rattle.gray.specs.Blocks.{blocks_of_a}
use Rattle.gray.proofs.Indexed.{block, first-a}
use Rattle.gray.proofs.block_a4.Goals as goal

count : (n : ℕ) → 2 ≤ n → n < 5 → length (blocks_of_a n) ≡ n - 1
unfolding blocks_of_a
count zero h l = absurd (omega arith)
count (suc zero) h l = absurd (omega arith)
count (suc (suc zero)) h l = refl
count (suc (suc (suc zero))) h l = refl
count (suc (suc (suc (suc zero)))) h l = refl
count (suc (suc (suc (suc (suc n))))) h l = absurd (omega arith)

past : (n j : ℕ) → n < 5 → n - 1 ≤ j → block (blocks_of_a n) j ≡ E 0
unfolding blocks_of_a
past zero j h l = refl
past (suc zero) zero h l = refl
past (suc zero) (suc j) h l = refl
past (suc (suc n)) j h l = get_or-eq_default (blocks_of_a (suc (suc n))) (E 0) (rw (count (suc (suc n)) (omega arith) h) l)

pub returns-in-2-to-4-eq0 : goal.returns-in-2-to-4-eq0
returns-in-2-to-4-eq0 c = sym (first-a c.args.n c.args.j (omega arith) (omega arith))

pub returns-in-2-to-4-eq0-2 : goal.returns-in-2-to-4-eq0-2
returns-in-2-to-4-eq0-2 c = sym (first-a c.args.n c.args.j (omega arith) (omega arith))

pub returns-in-2-to-4-eq0-3 : goal.returns-in-2-to-4-eq0-3
returns-in-2-to-4-eq0-3 c = sym (first-a c.args.n c.args.j (omega arith) (omega arith))

pub returns-in-3-eq1 : goal.returns-in-3-eq1
unfolding blocks_of_a
returns-in-3-eq1 c = rw (c.in-3-eq1.is-0, c.in-3-eq1.is-1)

pub returns-in-4-eq1 : goal.returns-in-4-eq1
unfolding blocks_of_a
returns-in-4-eq1 c = rw (c.in-4-eq1.is-0, c.in-4-eq1.is-1)

pub returns-in-4-eq2 : goal.returns-in-4-eq2
unfolding blocks_of_a
returns-in-4-eq2 c = rw (c.in-4-eq2.is-0, c.in-4-eq2.is-1)

pub returns-in_default : goal.returns-in_default
returns-in_default c = sym (past _ _ c.requires (omega arith))

pub returns-in_default-2 : goal.returns-in_default-2
returns-in_default-2 c = sym (past _ _ c.requires (omega arith))

pub returns-in_default-3 : goal.returns-in_default-3
returns-in_default-3 c = sym (past _ _ c.requires (omega arith))

pub returns-in_default-4 : goal.returns-in_default-4
returns-in_default-4 c = sym (past _ _ c.requires (omega arith))
