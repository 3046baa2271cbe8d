-- `rank::part_with` meets its contract: the formula tells the block and its number, and the search stops there. Assumes nothing.
use mathlib.Core.Path.{◌≡◌, sym, ap, ◌∙◌}
use Prim.Native.Nat.{ℕ}
use Rattle.gray.specs.declared.NumberedBlock.{NumberedBlock}
use Rattle.gray.specs.Blocks.{blocks, number_of}
use Rattle.gray.proofs.Indexed.{block}
use Rattle.rank.specs.Search.{below_block}
use Rattle.rank.proofs.Parts.{names-part}
use Rattle.rank.proofs.part_with.Goals.{After-block_with-numbered}
use Rattle.rank.proofs.part_with.Goals as goal

-- the number is that of the block that puts n there, and so of one of the list
numbered : (c : After-block_with-numbered) → let a = c.args in c.block_with-numbered.result.number ≡ number_of a.n a.k a.i
numbered c = ap (λ (b : NumberedBlock). b.number) c.block_with-numbered.ensures

pub returns : goal.returns
returns c =
    let a = c.args in
    let e = numbered (goal.at.returns c).After-block_with-numbered in
    names-part a.i
    c.search_number-stop.ensures.stop
    (c.search_number-stop.ensures.number ∙ c.number_read-number.ensures)
    e
    (c.below_block.ensures ∙ ap (λ (x : NumberedBlock). below_block a.n a.k a.backward x.block) c.block_with-numbered.ensures ∙ ap (λ (x : ℕ). below_block a.n a.k a.backward (block (blocks a.n a.k) x)) (sym e))
