-- The test `leads` passes on just those lists of moves, to positions 0 to n, that lead from the identity to a permutation. From the laws of the tests and of `same`.
-- Assumes nothing.
use mathlib.Core.Path.{◌≡◌, refl, ap}
use Prim.Native.Nat.{ℕ, suc, ◌≤◌, ◌<◌}
use native.Mathlib.Omega.{arith}
use mathlib.Core.Bool.{true}
use mathlib.Core.List.{List, [], ◌∷◌}
use lib.Dec.{eqb, ltb}
use lib.ListN.{length, get_or}
use borrow.Author.Tests.{ltb-true, lt-ltb, eqb-true, eq-eqb}
use Rattle.stirling.proofs.Refusals.{and-true}
use Rattle.perm.specs.Lists.{same}
use Rattle.perm.specs.Pairs.{Pair, pairs_in}
use Rattle.perm.proofs.Tally.{length-range}
use Rattle.perm.proofs.Same.{same_equal, same_true}
use Rattle.moves.proofs.Moving.{length_moved, Each, Valid, each_at, each_of}
use Rattle.moves.specs.State.{State, standing, placed, home, possible, moved, all_possible, after, leads, IsPossible, LeadsTo}

-- a move that passes the test is possible
possible-true : (t : State) (m : Pair) → m.1 < length t → possible t m ≡ true → IsPossible t m
possible-true t m h e =
    let (o, f) = and-true (ltb 0 (standing t m.0)) (eqb (standing t m.1) 0) e in
    record { inside = h; occupied = ltb-true 0 (standing t m.0) o; empty = eqb-true (standing t m.1) 0 f }

-- and the converse
possible_holds : {t : State} {m : Pair} → IsPossible t m → possible t m ≡ true
possible_holds {t} {m} h = rw (lt-ltb 0 (standing t m.0) h.occupied, eq-eqb (standing t m.1) 0 h.empty)

-- the second positions of a list of moves are below size
unfoldable Inside : ℕ → List Pair → Type 0
Inside size [] = Unit
Inside size (m ∷ ms) = (m.1 < size) × Inside size ms

-- as they are where the bytes are
inside_pairs : (n : ℕ) (bytes : List ℕ) → ((i : ℕ) → i < length bytes → get_or bytes i 0 ≤ n) → Inside (suc n) (pairs_in bytes)
unfolding Inside pairs_in
inside_pairs n [] h = tt
inside_pairs n (a ∷ []) h = tt
inside_pairs n (a ∷ b ∷ bytes) h = (omega (arith, h 1 (omega arith)), inside_pairs n bytes (λ i l. h (suc (suc i)) (omega arith)))

-- so for the moves of a list
all_true : (t : State) (ms : List Pair) → Inside (length t) ms → all_possible t ms ≡ true → Valid t ms
unfolding Inside all_possible Each
all_true t [] h e = tt
all_true t (m ∷ ms) (h, k) e =
    let (a, b) = and-true (possible t m) (all_possible (moved t m) ms) e in
    (possible-true t m h a, all_true (moved t m) ms (rw length_moved k) b)

all_holds : (t : State) (ms : List Pair) → Valid t ms → all_possible t ms ≡ true
unfolding all_possible Each
all_holds t [] v = refl
all_holds t (m ∷ ms) (h, v) = rw (possible_holds h, all_holds (moved t m) ms v)

-- a list of moves between positions 0 to n that passes the test leads to s
pub leads_to : (s bytes : List ℕ) → ((i : ℕ) → i < length bytes → get_or bytes i 0 ≤ length s) → leads s (pairs_in bytes) ≡ true → LeadsTo s (pairs_in bytes)
leads_to s bytes inside e =
    let t = home (length s) in
    let ms = pairs_in bytes in
    let (a, q) = and-true (all_possible t ms) (same (after t ms) (placed s)) e in
    let size : length t ≡ suc (length s) = ap suc (length-range 1 (length s)) in
    let v = all_true t ms (rw size (inside_pairs (length s) bytes inside)) a in
    record { valid = λ before rest m c. each_at IsPossible t before rest m (rw c at v); end = same_true (after t ms) (placed s) q }

-- a list of moves that leads to s passes the test
pub to-leads : (s : List ℕ) (ms : List Pair) → LeadsTo s ms → leads s ms ≡ true
to-leads s ms l = rw (all_holds (home (length s)) ms (each_of IsPossible (home (length s)) ms l.valid), same_equal (after (home (length s)) ms) (placed s) l.end)
