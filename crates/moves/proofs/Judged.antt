-- What is judged of a list of moves begun from the identity. Assumes nothing.
use mathlib.Core.Path.{◌≡◌, refl, ap}
use native.Mathlib.Omega.{arith}
use lib.Dec.{eqb}
use Rattle.std.specs.Cmp.Lexicographic.{pointwise}
use Rattle.std.proofs.lemmas.Slice.Eq.{slice_eq-Decides}
use Rattle.std.proofs.lemmas.Bool.Decides.{Decides-eqb}
use Rattle.perm.proofs.Same.{iff_equal, same_equal, same_true}
use Prim.Native.Nat.{ℕ, ◌+◌}
use native.Mathlib.Numerals.{add-one}
use mathlib.Core.Bool.{Bool, true, false}
use mathlib.Core.List.{List, [], ◌∷◌}
use lib.ListN.{length, get_or, drop}
use Rattle.perm.specs.Lists.{range, same}
use Rattle.perm.specs.Pairs.{Pair}
use Rattle.moves.specs.State.{placed, home, all_possible, after, leads}

-- the numbers from 0 to n, as they stand at home
pub home-range : (n k : ℕ) → k ≡ n + 1 → range 0 k ≡ home n
unfolding range
home-range n k e = rw (e, add-one)

-- where position 0 is empty, s stands there just if it stands at the other positions
placed_there : (t s : List ℕ) → length t ≡ length s + 1 → get_or t 0 0 ≡ 0 → (drop 1 t ≡ s → t ≡ placed s) × (t ≡ placed s → drop 1 t ≡ s)
placed_there [] s l z = absurd (omega arith)
placed_there (x ∷ t) s l z = (λ e. rw (z, e) refl, λ e. ap (drop 1) e)

pub standing_there : (t s : List ℕ) (r : Bool) → length t ≡ length s + 1 → get_or t 0 0 ≡ 0 → r ≡ pointwise eqb (drop 1 t) s
    → (r ≡ true → t ≡ placed s) × (t ≡ placed s → r ≡ true)
standing_there t s r l z e =
    let there = placed_there t s l z in
    let equal = slice_eq-Decides Decides-eqb (drop 1 t) s r e in
    (λ y. there.0 (equal.0 y), λ y. equal.1 (there.1 y))

-- the moves of a list from a state at home
module _ (s : List ℕ) (ms : List Pair) {t : List ℕ} (begun : t ≡ home (length s)) where
  -- they are not all possible
  pub stopped : false ≡ all_possible t ms → false ≡ leads s ms
  stopped e = let fails = rw begun at e in rw (← fails)

  -- or they are, and where they lead decides
  pub carried-out : true ≡ all_possible t ms → {u : List ℕ} → u ≡ after t ms → (r : Bool) → (r ≡ true → u ≡ placed s) × (u ≡ placed s → r ≡ true) → r ≡ leads s ms
  carried-out e {u} f r g =
      let all = rw begun at e in
      let end = rw begun at f in
      rw (← all, ← end) (iff_equal r (same u (placed s)) (λ y. same_equal u (placed s) (g.0 y)) (λ y. g.1 (same_true u (placed s) y)))
