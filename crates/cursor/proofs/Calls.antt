-- Demand 3's claim about every list of calls: after either open and after each call, the record and the answer are the plain machine's.
-- The machine stays within its section, and a record that shows it passes check 8. Assumes nothing.
use mathlib.Core.Path.{◌≡◌, refl, ◌∙◌}
use mathlib.Core.Bool.{true, not}
use mathlib.Core.List.{List, [], ◌∷◌}
use Prim.Native.Nat.{ℕ, zero, suc, ◌-◌, ◌≤◌, ◌<◌}
use native.Mathlib.Omega.{arith}
use lib.Dec.{leb, ltb}
use borrow.Author.Tests.{lt-leb, le-ltb, ltb-false, not-false}
use Rattle.stirling.specs.Refusal.{refuse, ◌then◌, unless, within}
use Rattle.stirling.specs.Count.{c, check_cycles, check_place}
use Rattle.stirling.proofs.Refusals.{refuse-passed, then_passed, unless-refuses, within_holds, within-true}
use Rattle.stirling.proofs.Counts.{cycles_passes, cycles-passed, place_passes, place-passed}
use Rattle.perm.proofs.Same.{same_refl}
use Rattle.cursor.specs.declared.Opening.{Opening}
use Rattle.cursor.specs.declared.Opening.TheVariants.{Whole, Section}
use Rattle.cursor.specs.Machine.{Machine, InSection, Call, forward, back, jump, show, Steps, onward, backward, observe, refusal_of, destination, moved, turn, bare, turned, machine_run}
use Rattle.cursor.specs.Walk.{sound, called, section, start, start_of, check_opening, zeros, opened, calls_run, walk_run, plain_run}
use Rattle.cursor.proofs.Ring.{after-within, before-within}

-- a machine on a place of a list
pub record OnPlace (m : Machine) : Type 0 where
  pub cycles : check_cycles m.n m.k ≡ 0
  pub below : m.place < c m.n m.k

-- and on another place of the same list
pub on_moved : (m : Machine) → OnPlace m → (place : ℕ) → place < c m.n m.k → OnPlace (moved m place)
on_moved m on place h = record { cycles = on.cycles; below = h }

-- where n, k and the place pass the checks 1, 2 and 3
pub on_passes : (m : Machine) → OnPlace m → check_place m.n m.k m.place ≡ 0
on_passes m on = rw (on.cycles, lt-leb (c m.n m.k) m.place on.below)

-- and only there
pub placed : (n k place : ℕ) → check_place n k place ≡ 0 → OnPlace (moved (start n k) place)
placed n k place e =
    let (small, below) = place-passed n k place e in
    record { cycles = cycles_passes n k place small below; below = below }

-- a machine in its section is on a place of its list
pub in_on : (m : Machine) → InSection m → OnPlace m
in_on m inside = record { cycles = inside.cycles; below = omega (arith, inside.high, inside.last) }

-- and at another place of the section it is in it too
pub in_moved : (m : Machine) → InSection m → (place : ℕ) → (m.lowest ≤ place) × (place ≤ m.highest) → InSection (moved m place)
in_moved m inside place h = record { cycles = inside.cycles; low = h.0; high = h.1; last = inside.last }

-- a record that shows a machine in its section passes check 8
pub sound-observe : (m : Machine) → InSection m → sound (observe m) ≡ true
unfolding sound observe
sound-observe m inside =
    let n = m.n in
    let k = m.k in
    let passes = place_passes n k m.highest (cycles-passed n k inside.cycles).0 inside.last in
    simp (passes, within_holds m.lowest m.highest m.place inside.low inside.high, same_refl)

-- a call on it gives what the machine shows after the call
pub called-observe : (m : Machine) (call : Call) → InSection m → called (observe m) call ≡ turned m call
unfolding called observe
called-observe m call inside = rw (sound-observe m inside)

-- forward and back lead to a place of the section
pub step_in : (m : Machine) {call : Call} → InSection m → Steps call → InSection (moved m (destination m call))
step_in m inside onward = in_moved m inside _ (after-within m.lowest m.highest m.place inside.low inside.high)
step_in m inside backward = in_moved m inside _ (before-within m.lowest m.highest m.place inside.low inside.high)

-- and so does every call that is not refused
pub destination_in : (m : Machine) (call : Call) → InSection m → refusal_of m call ≡ 0 → InSection (moved m (destination m call))
destination_in m forward inside e = step_in m inside onward
destination_in m back inside e = step_in m inside backward
destination_in m show inside e = inside
destination_in m (jump r) inside e =
    let there = within m.lowest m.highest r in
    let (_, out) = then_passed (refuse (leb (c m.n m.k) r) 3) (refuse (not there) 13) e in
    in_moved m inside r (within-true m.lowest m.highest r (not-false there (refuse-passed (not there) 12 out)))

-- a machine that moves, unless it is refused, between places of its section
unless_in : (r : ℕ) (m m' : Machine) → (r ≡ 0 → InSection m') → InSection m → InSection (unless r m' m)
unless_in zero m m' to inside = to refl
unless_in (suc r) m m' to inside = inside

-- a call leaves the machine in its section
pub turn_in : (m : Machine) (call : Call) → InSection m → InSection (turn m call)
unfolding turn
turn_in m call inside = unless_in (refusal_of m call) m (moved m (destination m call)) (destination_in m call inside) inside

-- from a machine in its section, the calls on the record that shows it give what the machine shows
pub calls_run_lem : (m : Machine) (calls : List Call) → InSection m → calls_run (observe m) calls ≡ machine_run m calls
unfolding calls_run machine_run
calls_run_lem m [] inside = refl
calls_run_lem m (call ∷ calls) inside =
    rw (called-observe m call inside, calls_run_lem (turn m call) calls (turn_in m call inside))

-- the whole list, opened as a section, passes the checks just where the plain open does
pub whole_checks : (n k : ℕ) → check_opening (Section n k 0 (c n k - 1)) ≡ check_cycles n k
whole_checks n k = by-cycles (check_cycles n k) refl
  where
    by-cycles : (r : ℕ) → check_cycles n k ≡ r → check_opening (Section n k 0 (c n k - 1)) ≡ check_cycles n k
    by-cycles zero e =
        let (small, some) = cycles-passed n k e in
        rw (e, lt-leb (c n k) 0 some, lt-leb (c n k) (c n k - 1) (omega arith), le-ltb (c n k - 1) 0 (omega arith))
    by-cycles (suc r) e = rw e

-- so the plain open is the section of the whole list
pub opened-whole : (n k : ℕ) → opened (Whole n k) ≡ opened (Section n k 0 (c n k - 1))
unfolding opened
opened-whole n k = rw (whole_checks n k)

-- a refused open hands back a walk of zeros
pub opened_refused : (opening : Opening) (r : ℕ) → r ≡ check_opening opening → (r ≡ 0 → ⊥) → opened opening ≡ record { cursor = zeros; answer = bare r }
unfolding opened
opened_refused opening r e d = rw (← e) (unless-refuses r _ _ d)

-- a section whose open is not refused begins in itself
section_in : (n k lowest highest : ℕ) → check_opening (Section n k lowest highest) ≡ 0 → InSection (section n k lowest highest)
section_in n k lowest highest e =
    let (ends, order) = then_passed (check_place n k lowest then check_place n k highest) (refuse (ltb highest lowest) 13) e in
    let (_, high) = then_passed (check_place n k lowest) (check_place n k highest) ends in
    let (small, last) = place-passed n k highest high in
    record {
      cycles = cycles_passes n k highest small last;
      low = omega arith;
      high = ltb-false highest lowest (refuse-passed (ltb highest lowest) 12 order);
      last = last;
    }

-- and so the machine of either open begins in its section
pub start_in : (opening : Opening) → check_opening opening ≡ 0 → InSection (start_of opening)
start_in (Whole n k) e = section_in n k 0 (c n k - 1) (whole_checks n k ∙ e)
start_in (Section n k lowest highest) e = section_in n k lowest highest e

-- demand 3, the calls: for either open that is not refused and every list of calls
pub calls : (opening : Opening) → check_opening opening ≡ 0 → (cs : List Call) → walk_run opening cs ≡ plain_run opening cs
unfolding opened
calls opening e cs = rw (e, calls_run_lem (start_of opening) cs (start_in opening e))
