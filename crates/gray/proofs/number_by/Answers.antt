-- `gray::number_by` meets its contract: outside 1 to n no block puts n there, and else the letter picks the relation, by whose formula the number is had. Assumes nothing.
use mathlib.Core.Path.{sym, ◌∙◌}
use mathlib.Core.Logic.{inl, inr}
use native.Mathlib.Omega.{arith}
use mathlib.Core.Path.{refl}
use Rattle.gray.specs.Blocks.{blocks_of, number_in}
use Rattle.gray.proofs.Which.{said}
use Rattle.gray.proofs.Numbered.{b_extension, b_none, outside, picked}
use Rattle.gray.proofs.number_by.Goals.{then-i-eq0-via-then-i-eq0, then-i-eq0-via-else-i-eq0+then-i-n}
use Rattle.gray.proofs.number_by.Goals as goal

pub returns-then-i-eq0 : goal.returns-then-i-eq0
returns-then-i-eq0 c =
    c.block_count.ensures
    ∙ elim c.then-i-eq0.branch [
      | then-i-eq0-via-then-i-eq0 w ↦ outside c.args.n c.args.k c.args.i (inl (omega arith))
      | then-i-eq0-via-else-i-eq0+then-i-n w ↦ outside c.args.n c.args.k c.args.i (inr (omega arith))
    ]

pub number_c-requires : goal.number_c-requires
number_c-requires c =
    (said c.args.n c.args.k (sym c.requires ∙ c.in-C.is), omega arith, omega arith)

pub number_d-requires : goal.number_d-requires
number_d-requires c =
    (said c.args.n c.args.k (sym c.requires ∙ c.in-D.is), omega arith, omega arith)

pub number_e-requires : goal.number_e-requires
number_e-requires c =
    let w = said c.args.n c.args.k (sym c.requires ∙ c.in-E.is) in
    (w.0, w.1, omega arith, omega arith)

pub returns-in-Nothing : goal.returns-in-Nothing
unfolding blocks_of number_in
returns-in-Nothing c = picked c.args.n c.args.k c.args.i (sym c.requires ∙ c.in-Nothing.is) refl

pub returns-in-A : goal.returns-in-A
unfolding blocks_of
returns-in-A c =
    picked c.args.n c.args.k c.args.i (sym c.requires ∙ c.in-A.is) c.number_a.ensures

pub returns-then-i-n-2 : goal.returns-then-i-n-2
unfolding blocks_of
returns-then-i-n-2 c =
    picked c.args.n c.args.k c.args.i (sym c.requires ∙ c.in-B.is) (b_extension c.args.n c.args.i c.if-i-n-2.true)

pub returns-else-i-n-2 : goal.returns-else-i-n-2
unfolding blocks_of
returns-else-i-n-2 c =
    picked c.args.n c.args.k c.args.i (sym c.requires ∙ c.in-B.is) (b_none c.args.n c.args.i c.if-i-n-2.false)

pub returns-in-C : goal.returns-in-C
unfolding blocks_of
returns-in-C c =
    picked c.args.n c.args.k c.args.i (sym c.requires ∙ c.in-C.is) c.number_c.ensures

pub returns-in-D : goal.returns-in-D
unfolding blocks_of
returns-in-D c =
    picked c.args.n c.args.k c.args.i (sym c.requires ∙ c.in-D.is) c.number_d.ensures

pub returns-in-E : goal.returns-in-E
unfolding blocks_of
returns-in-E c =
    picked c.args.n c.args.k c.args.i (sym c.requires ∙ c.in-E.is) c.number_e.ensures
