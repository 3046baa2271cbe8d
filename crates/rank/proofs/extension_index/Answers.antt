-- `rank::extension_index` meets its contract: its tests tell the relations apart. Assumes nothing.
use borrow.Author.Rules.{rules}
use Rattle.rank.proofs.Extension.{extends_at}
use Rattle.rank.proofs.extension_index.Goals as goal

pub returns-then-k-eq1 : goal.returns-then-k-eq1
returns-then-k-eq1 c =
    extends_at c.args.n c.args.k _ (search rules)

pub returns-then-k-n : goal.returns-then-k-n
returns-then-k-n c =
    extends_at c.args.n c.args.k _ (search rules)

pub returns-then-k-n-2 : goal.returns-then-k-n-2
returns-then-k-n-2 c =
    extends_at c.args.n c.args.k _ (search rules)

pub returns : goal.returns
returns c =
    extends_at c.args.n c.args.k _ (search rules)
