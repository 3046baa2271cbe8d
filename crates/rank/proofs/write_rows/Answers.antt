-- `rank::write_rows` meets its contract: rows at a distance of n bytes stand one after another.
use Rattle.rank.proofs.RowChecks.{row-count_passed}
use Rattle.rank.proofs.Paging.{page_written}
use Rattle.rank.proofs.write_rows.Goals as goal

pub returns : goal.returns
returns c =
    let a = c.args in
    page_written a.n a.k a.place a.m a.part.now _ (row-count_passed a.n a.k a.place a.m c.requires.m_value).3 c.requires.n_in_bounds c.fill_rows.ensures
