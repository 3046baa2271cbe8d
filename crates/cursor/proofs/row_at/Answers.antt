-- `cursor::row_at` meets its contract: what `unrank` writes to the front of 20 zeros is the row, filled up. Assumes nothing.
use Rattle.stirling.proofs.Counts.{place-passed}
use Rattle.cursor.proofs.Padding.{length_front, row-padded}
use Rattle.cursor.proofs.row_at.Goals as goal

pub returns : goal.returns
returns c =
    let a = c.args in
    row-padded c.requires (length_front (place-passed a.n a.k a.place c.requires).0) c.unrank.ensures
