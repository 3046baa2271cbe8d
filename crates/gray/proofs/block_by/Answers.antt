-- `gray::block_by` meets its contract: the letter picks the relation, whose blocks are those of S(n,k). Assumes nothing.
use mathlib.Core.Logic.{⊎_elim}
use mathlib.Core.Path.{◌≡◌, sym, ◌∙◌}
use Prim.Native.Nat.{ℕ}
use Rattle.gray.specs.declared.Letter.{Letter}
use Rattle.gray.specs.Order.{letter}
use Rattle.gray.specs.Blocks.{blocks, blocks_of}
use Rattle.gray.proofs.Indexed.{block}
use Rattle.gray.proofs.Which.{said}
use Rattle.gray.proofs.Numbered.{single}
use Rattle.gray.proofs.block_by.Goals as goal

-- the relation that the letter names
picked : (n k j : ℕ) {l : Letter} → letter n k ≡ l → block (blocks_of l n k) j ≡ block (blocks n k) j
unfolding blocks
picked n k j e = rw e

pub block_c-requires : goal.block_c-requires
block_c-requires c =
    said c.args.n c.args.k (sym c.requires ∙ c.in-C.is)

pub block_d-requires : goal.block_d-requires
block_d-requires c =
    said c.args.n c.args.k (sym c.requires ∙ c.in-D.is)

pub block_e-requires : goal.block_e-requires
block_e-requires c =
    said c.args.n c.args.k (sym c.requires ∙ c.in-E.is)

pub returns-in-Nothing : goal.returns-in-Nothing
unfolding blocks_of
returns-in-Nothing c =
    ⊎_elim
    (λ e. picked c.args.n c.args.k c.args.j (sym c.requires ∙ e))
    (λ e. single c.args.j ∙ picked c.args.n c.args.k c.args.j (sym c.requires ∙ e))
    c.in-Nothing.is

pub returns-in-A : goal.returns-in-A
unfolding blocks_of
returns-in-A c =
    c.block_a.ensures ∙ picked c.args.n c.args.k c.args.j (sym c.requires ∙ c.in-A.is)

pub returns-in-C : goal.returns-in-C
unfolding blocks_of
returns-in-C c =
    c.block_c.ensures ∙ picked c.args.n c.args.k c.args.j (sym c.requires ∙ c.in-C.is)

pub returns-in-D : goal.returns-in-D
unfolding blocks_of
returns-in-D c =
    c.block_d.ensures ∙ picked c.args.n c.args.k c.args.j (sym c.requires ∙ c.in-D.is)

pub returns-in-E : goal.returns-in-E
unfolding blocks_of
returns-in-E c =
    c.block_e.ensures ∙ picked c.args.n c.args.k c.args.j (sym c.requires ∙ c.in-E.is)
