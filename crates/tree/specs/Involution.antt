-- Cycles longer than two: document 02, j). This is a definition; nothing is assumed.
use Rattle.std.specs.Prelude.{ℕ, Bool, not, List, eqb}
use Rattle.perm.specs.Lists.{some, positions}
use Rattle.perm.specs.Cycle.{follow}

-- document 02's "loop longer than two": followed from position i, the cycle comes back to i neither after one step nor after two
abbrev pub longer : List ℕ → ℕ → Bool
longer s i = not (some (λ t. eqb (follow s t i) i) (positions 2))
