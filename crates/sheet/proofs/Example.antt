-- Document 01's example and the sheet of the empty list, by computation. Assumes nothing.
use mathlib.Core.Path.{◌≡◌, refl}
use mathlib.Core.List.{[], ◌∷◌, ◌++◌}
use Rattle.perm.specs.Lists.{range, same}
use Rattle.perm.specs.Permutation.{insert, extend}
use Rattle.stirling.specs.Count.{c}
use Rattle.gray.specs.Order.{S, relation, relation_a, relation_b, relation_c, relation_d, relation_e, letter, joined, rows, reading, odd, rising, falling}
use Rattle.sheet.specs.Text.{header, value_from, digits}
use Rattle.sheet.specs.Asked.{asked_in, asked_line, field, leading}
use Rattle.sheet.specs.Sheet.{answer, answer_to, names, values, row_lines}

-- `4 2 5 3` below the header
example : answer (header ++ (52 ∷ 32 ∷ 50 ∷ 32 ∷ 53 ∷ 32 ∷ 51 ∷ 10 ∷ []))
    ≡ 112 ∷ 108 ∷ 97 ∷ 99 ∷ 101 ∷ 32 ∷ 114 ∷ 111 ∷ 97 ∷ 100 ∷ 49 ∷ 32 ∷ 114 ∷ 111 ∷ 97 ∷ 100 ∷ 50 ∷ 32 ∷ 114 ∷ 111 ∷ 97 ∷ 100 ∷ 51 ∷ 32 ∷ 114 ∷ 111 ∷ 97 ∷ 100 ∷ 52 ∷ 10 ∷
    53 ∷ 32 ∷ 51 ∷ 32 ∷ 50 ∷ 32 ∷ 52 ∷ 32 ∷ 49 ∷ 10 ∷
    54 ∷ 32 ∷ 51 ∷ 32 ∷ 49 ∷ 32 ∷ 50 ∷ 32 ∷ 52 ∷ 10 ∷
    55 ∷ 32 ∷ 50 ∷ 32 ∷ 51 ∷ 32 ∷ 49 ∷ 32 ∷ 52 ∷ 10 ∷ []
unfolding answer_to names values row_lines asked_in asked_line field leading value_from digits c S relation relation_a relation_b relation_c relation_d relation_e letter joined rows reading odd rising falling range insert extend same
example = refl

-- `0 0 0 1` below the header: the lines `place` and `0`, and no more
empty : answer (header ++ (48 ∷ 32 ∷ 48 ∷ 32 ∷ 48 ∷ 32 ∷ 49 ∷ 10 ∷ [])) ≡ 112 ∷ 108 ∷ 97 ∷ 99 ∷ 101 ∷ 10 ∷ 48 ∷ 10 ∷ []
unfolding answer_to names values row_lines asked_in asked_line field leading value_from digits c S range same
empty = refl
