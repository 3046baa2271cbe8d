-- `gray::block_count` meets its contract: its tests tell the relations apart. Assumes nothing.
use borrow.Author.Rules.{rules}
use Rattle.gray.proofs.Numbered.{counted}
use Rattle.gray.proofs.block_count.Goals as goal

pub returns-then-k-eq0 : goal.returns-then-k-eq0
returns-then-k-eq0 c = counted _ _ _ (search rules)

pub returns-then-n-k : goal.returns-then-n-k
returns-then-n-k c = counted _ _ _ (search rules)

pub returns-then-k-lt2 : goal.returns-then-k-lt2
returns-then-k-lt2 c = counted _ _ _ (search rules)

pub returns : goal.returns
returns c = counted _ _ _ (search rules)
