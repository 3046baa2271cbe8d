-- What document 02, l), says of the moves and of the check, of whatever the calls answer and write. Assumes nothing.
use mathlib.Core.Path.{◌≡◌, refl, sym, ap, ◌∙◌}
use mathlib.Core.Bool.{Bool, true, false}
use Prim.Native.Nat.{ℕ, zero, suc, ◌+◌, ◌*◌, ◌%◌, ◌≤◌, ◌<◌}
use native.Mathlib.Omega.{arith}
use native.Mathlib.Decide.{ℕ_discrete}
use mathlib.Core.List.{List, [], ◌∷◌, ◌++◌}
use lib.Dec.{eqb, ltb}
use lib.ListN.{length, get_or, get_or-eq_default}
use borrow.Author.Tests.{ltb-false, le-ltb, ne_eqb}
use Rattle.stirling.specs.Refusal.{unless}
use Rattle.stirling.proofs.Refusals.{then_passed, refuse-passed, unless-passes, unless-refuses}
use Rattle.stirling.proofs.Counts.{size_passes}
use Rattle.perm.specs.Lists.{one}
use Rattle.perm.specs.Checks.{check_permutation}
use Rattle.perm.specs.Pairs.{Pair, bytes_of, front, pairs_in}
use Rattle.perm.proofs.Tally.{tally-none, length-range}
use Rattle.perm.proofs.Checked.{unrefused_by, passes_values, passes_twice}
use Rattle.perm.proofs.Refused.{permutation_passed}
use Rattle.perm.proofs.Pairs.{length-bytes, pairs-bytes, take-front, length_front}
use Rattle.moves.specs.State.{State, home, moved, after, leads, IsPossible, LeadsTo}
use Rattle.moves.specs.Written.{moves_of, away, long_cycles, IsDrawn}
use Rattle.moves.specs.Calls.{check_moves, list_of, written_by, bytes_counted, check_positions, check_list, verdict_of}
use Rattle.moves.proofs.Moving.{length_moved, Each, Valid, each_of}
use Rattle.moves.proofs.Leads.{leads_to, to-leads}
use Rattle.moves.proofs.Gone.{written-drawn, written-leads}
use Rattle.moves.proofs.Fewest.{fewest}
use Rattle.moves.proofs.Total.{total}
use Rattle.moves.proofs.Results.{few_moves}
use Rattle.moves.proofs.Listed.{list_passed}

-- ---- the check of a list

-- a move that is possible is between positions
possible_inside : {t : State} {m : Pair} → IsPossible t m → (m.0 < length t) × (m.1 < length t)
possible_inside {t} {m} h =
    let out : length t ≤ m.0 → ⊥ = λ l. omega (arith, h.occupied, get_or-eq_default t 0 l) in
    (omega arith, h.inside)

-- so the bytes of a valid list are positions
bytes_inside : (t : State) (ms : List Pair) → Valid t ms → (i : ℕ) → i < length (bytes_of ms) → get_or (bytes_of ms) i 0 < length t
unfolding Each bytes_of
bytes_inside t [] v i l = absurd (omega arith)
bytes_inside t (m ∷ ms) (h, v) zero l = (possible_inside h).0
bytes_inside t (m ∷ ms) (h, v) (suc zero) l = (possible_inside h).1
bytes_inside t (m ∷ ms) (h, v) (suc (suc i)) l = omega (arith, length_moved t m, bytes_inside (moved t m) ms v i (omega arith))

-- and pass the checks
valid_passes : {s : List ℕ} → check_permutation s ≡ 0 → (ms : List Pair) → LeadsTo s ms → check_list s (bytes_of ms) ≡ 0
valid_passes {s} passed ms l =
    let (few, p) = permutation_passed s passed in
    let t = home (length s) in
    let bytes = bytes_of ms in
    let even : eqb (length bytes % 2) 1 ≡ false = ne_eqb (length bytes % 2) 1 (λ e. omega (arith, length-bytes ms)) in
    let inside : (i : ℕ) → i < length bytes → ltb (length s) (get_or bytes i 0) ≡ false = λ i h.
    le-ltb (length s) (get_or bytes i 0) (omega (arith, bytes_inside t ms (each_of IsPossible t ms l.valid) i h, length-range 1 (length s))) in
    let none : check_positions (length s) bytes ≡ 0 = unrefused_by (ltb (length s)) bytes 6 (tally-none (ltb (length s)) 0 bytes inside) in
    rw (size_passes (length s) few, even, passes_values p, none, passes_twice p)

-- the check says yes to each valid list
pub says-yes : {s : List ℕ} → check_permutation s ≡ 0 → (ms : List Pair) → LeadsTo s ms → verdict_of s (bytes_of ms) ≡ record { refusal = 0; valid = 1 }
says-yes {s} passed ms l =
    rw (valid_passes passed ms l, pairs-bytes ms, to-leads s ms l)

-- and to no other list
pub yes-only : (s list : List ℕ) → (verdict_of s list).valid ≡ 1 → (check_list s list ≡ 0) × LeadsTo s (pairs_in list)
yes-only s list e = by-refusal (ℕ_discrete (check_list s list) 0)
  where
    by-test : check_list s list ≡ 0 → (b : Bool) → leads s (pairs_in list) ≡ b → one b ≡ 1 → LeadsTo s (pairs_in list)
    by-test z true q f = leads_to s list (list_passed s list z).1 q
    by-test z false q f = absurd (omega arith)

    by-refusal : Dec (check_list s list ≡ 0) → (check_list s list ≡ 0) × LeadsTo s (pairs_in list)
    by-refusal (yes z) = (z, by-test z (leads s (pairs_in list)) refl (rw z at e))
    by-refusal (no d) = absurd (omega (arith, e, unless-refuses (check_list s list) (one (leads s (pairs_in list))) 0 d))

-- where a list is not refused, the check says yes just if it leads to s
pub says : (s list : List ℕ) → check_list s list ≡ 0 → LeadsTo s (pairs_in list) → (verdict_of s list).valid ≡ 1
says s list z l = rw (z, to-leads s (pairs_in list) l)

-- and no, which is 0, where it does not say yes
pub says_no : (s list : List ℕ) → ((verdict_of s list).valid ≡ 1 → ⊥) → (verdict_of s list).valid ≡ 0
says_no s list d = by-refusal (check_list s list) (leads s (pairs_in list)) d
  where
    by-refusal : (r : ℕ) (b : Bool) → (unless r (one b) 0 ≡ 1 → ⊥) → unless r (one b) 0 ≡ 0
    by-refusal zero true f = absurd (f refl)
    by-refusal zero false f = refl
    by-refusal (suc r) b f = refl

-- so a list with a move from a position to itself gets no: it would have to be occupied and empty
pub itself_no : (s list : List ℕ) (earlier later : List Pair) (p : ℕ) → pairs_in list ≡ earlier ++ ((p, p) ∷ later) → (verdict_of s list).valid ≡ 0
itself_no s list earlier later p e =
    says_no s list (λ y. let h = (yes-only s list y).1.valid earlier later (p, p) e in omega (arith, h.occupied, h.empty))

-- ---- the moves that are written, where nothing is refused

module _ (s before : List ℕ) (passed : check_moves s (length before) ≡ 0) where
  checked : check_permutation s ≡ 0
  checked = (then_passed (check_permutation s) _ passed).0

  counted : (list_of s (length before)).count ≡ length (moves_of s)
  counted = unless-passes (check_moves s (length before)) (length (moves_of s)) 0 passed

  -- the bytes are those of the moves
  written-bytes : bytes_counted s before ≡ bytes_of (moves_of s)
  written-bytes = rw (counted, passed) (take-front (moves_of s) before)

  -- each is possible and comes about as the document says, after those before it
  pub written-as-drawn : (front-part rest : List Pair) (m : Pair) → pairs_in (bytes_counted s before) ≡ front-part ++ (m ∷ rest)
      → IsPossible (after (home (length s)) front-part) m × IsDrawn s (after (home (length s)) front-part) m
  written-as-drawn x rest m e =
      written-drawn (permutation_passed s checked).1 x rest m (sym (pairs-bytes (moves_of s)) ∙ ap pairs_in (sym written-bytes) ∙ e)

  -- so they lead to s
  pub written_lead : LeadsTo s (pairs_in (bytes_counted s before))
  written_lead = rw (written-bytes, pairs-bytes (moves_of s)) (written-leads (permutation_passed s checked).1)

  -- so the check says yes to them
  pub written_checked : verdict_of s (bytes_counted s before) ≡ record { refusal = 0; valid = 1 }
  written_checked = rw written-bytes (says-yes checked (moves_of s) (written-leads (permutation_passed s checked).1))

  -- their number
  pub number : (list_of s (length before)).count ≡ away s + long_cycles s
  number = counted ∙ total (permutation_passed s checked).1

  pub number-few : (list_of s (length before)).count ≤ 30
  number-few = let (few, p) = permutation_passed s checked in rw counted (few_moves p few)

  -- no list that leads to s has fewer
  pub number-least : (ms : List Pair) → LeadsTo s ms → (list_of s (length before)).count ≤ length ms
  number-least ms l = rw number (fewest (permutation_passed s checked).1 ms l)

-- refused or not, the buffer is as long as it was, and the bytes counted are a part of it
pub fits : (s before : List ℕ) → (2 * (list_of s (length before)).count ≤ length before) × (length (written_by s (list_of s (length before)).refusal before) ≡ length before)
fits s before = by-refusal (ℕ_discrete (check_moves s (length before)) 0)
  where
    by-refusal : Dec (check_moves s (length before) ≡ 0) → (2 * (list_of s (length before)).count ≤ length before) × (length (written_by s (list_of s (length before)).refusal before) ≡ length before)
    by-refusal (yes z) =
        let room = ltb-false (length before) (2 * length (moves_of s)) (refuse-passed _ 4 (then_passed (check_permutation s) _ z).1) in
        (omega (arith, counted s before z), rw z (length_front (moves_of s) before room))
    by-refusal (no d) = (
      omega (arith, unless-refuses (check_moves s (length before)) (length (moves_of s)) 0 d),
      ap length (unless-refuses (check_moves s (length before)) (front (moves_of s) before) before d),
    )
