-- What a cycle that is still to be gone round looks like; private contracts cite it. This is a definition; nothing is assumed.
use Rattle.std.specs.Prelude.{◌≡◌, ℕ, suc, List, length}
use Rattle.perm.specs.Cycle.{follow}
use Rattle.moves.specs.State.{State, standing}

-- position 0 is empty, and on the cycle of a each value stands at its own position
pub record AtHome (s : List ℕ) (a : ℕ) (t : State) : Type 0 where
  pub size : length t ≡ suc (length s)
  pub empty : standing t 0 ≡ 0
  pub own : (u : ℕ) → standing t (follow s u a) ≡ follow s u a
