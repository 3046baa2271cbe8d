-- `gray::letter_of` meets its contract: its tests are those of `letter`, in the same order. Assumes nothing.
use borrow.Author.Tests.{eq-eqb, ne_eqb, lt-ltb, le-ltb}
use mathlib.Core.Path.{◌≡◌}
use Prim.Native.Nat.{ℕ, ◌+◌, ◌≤◌}
use native.Mathlib.Omega.{arith}
use mathlib.Core.Bool.{cond}
use lib.Dec.{eqb}
use Rattle.gray.specs.declared.Letter.TheVariants.{A as by_a, B as by_b, C as by_c, D as by_d, E as by_e}
use Rattle.gray.specs.Order.{letter}
use Rattle.gray.proofs.letter_of.Goals.{then-k-eq0-via-then-k-eq0, then-k-eq0-via-else-k-eq0+then-n-k}
use Rattle.gray.proofs.letter_of.Goals as goal

-- past the tests on k = 0 and n < k, the tests on k that are left
past : (n k : ℕ)
    → (k ≡ 0 → ⊥)
    → k ≤ n
    → letter n k ≡ cond (eqb k 1) by_a (cond (eqb k n) by_b (cond (eqb (k + 1) n) by_c (cond (eqb (k + 2) n) by_d by_e)))
unfolding letter
past n k h l = rw (ne_eqb k 0 h, le-ltb n k l)

pub returns-then-k-eq0 : goal.returns-then-k-eq0
unfolding letter
returns-then-k-eq0 c =
    elim c.then-k-eq0.branch [
      | then-k-eq0-via-then-k-eq0 w ↦ simp (eq-eqb _ _ w.if-k-eq0.true)
      | then-k-eq0-via-else-k-eq0+then-n-k w ↦ simp (ne_eqb _ _ w.if-k-eq0.false, lt-ltb _ _ w.if-n-k.true)
    ]

pub returns-then-k-eq1 : goal.returns-then-k-eq1
returns-then-k-eq1 c =
    simp (past _ _ c.if-k-eq0.false c.if-n-k.false, eq-eqb _ _ c.if-k-eq1.true)

pub returns-in-0 : goal.returns-in-0
returns-in-0 c =
    simp (past _ _ c.if-k-eq0.false c.if-n-k.false, ne_eqb _ _ c.if-k-eq1.false, eq-eqb c.args.k c.args.n (omega arith))

pub returns-in-1 : goal.returns-in-1
returns-in-1 c =
    simp
    (past _ _ c.if-k-eq0.false c.if-n-k.false, ne_eqb _ _ c.if-k-eq1.false, ne_eqb c.args.k c.args.n (omega arith), eq-eqb (c.args.k + 1) c.args.n (omega arith))

pub returns-in-2 : goal.returns-in-2
returns-in-2 c =
    simp
    (past _ _ c.if-k-eq0.false c.if-n-k.false, ne_eqb _ _ c.if-k-eq1.false, ne_eqb c.args.k c.args.n (omega arith), ne_eqb (c.args.k + 1) c.args.n (omega arith), eq-eqb (c.args.k + 2) c.args.n (omega arith))

pub returns-in_default : goal.returns-in_default
returns-in_default c =
    simp
    (past _ _ c.if-k-eq0.false c.if-n-k.false, ne_eqb _ _ c.if-k-eq1.false, ne_eqb c.args.k c.args.n (omega arith), ne_eqb (c.args.k + 1) c.args.n (omega arith), ne_eqb (c.args.k + 2) c.args.n (omega arith))
