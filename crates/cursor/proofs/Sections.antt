-- What two planners who share a list rely on (document 02, h): every record of a walk keeps to its section, walks through sections that do not overlap never show the
-- same permutation, and the forwards from the open of a section show its rows one by one. Assumes nothing.
use mathlib.Core.Path.{◌≡◌, refl, sym, ap, ◌∙◌}
use mathlib.Core.Logic.{◌⊎◌, inl, inr}
use mathlib.Core.Bool.{true}
use mathlib.Core.List.{List, [], ◌∷◌}
use Prim.Native.Nat.{ℕ, zero, suc, ◌+◌, ◌≤◌, ◌<◌}
use native.Mathlib.Nat.{add-zero}
use native.Mathlib.Omega.{arith}
use lib.ListN.{length, take}
use Rattle.stirling.specs.Refusal.{unless}
use Rattle.gray.specs.Order.{S}
use Rattle.gray.specs.Listing.{row_at}
use Rattle.gray.proofs.Once.{length-S, complete}
use Rattle.cursor.specs.Machine.{Machine, InSection, Call, forward, show, onward, observe, refusal_of, destination, moved, turn, machine_run}
use Rattle.cursor.specs.Walk.{sound, called, section, start_of, check_opening, opened, walk_run, plain_run, Each, KeepsTo, permutation_of, ShowsOther, forwards}
use Rattle.cursor.specs.declared.Cursor.{Cursor}
use Rattle.cursor.specs.declared.Step.{Step}
use Rattle.cursor.specs.declared.Opening.{Opening}
use Rattle.cursor.specs.declared.Opening.TheVariants.{Section}
use Rattle.cursor.proofs.Calls.{in_on, in_moved, sound-observe, called-observe, turn_in, start_in, calls}
use Rattle.cursor.proofs.Ring.{after-other}
use Rattle.cursor.proofs.Steps.{step_serves, on_goes}
use Rattle.cursor.proofs.Padding.{take-shown}
use Rattle.cursor.proofs.Outcomes.{called-shows}
use Rattle.cursor.proofs.Undone.{turn-moves}

-- a record that shows the machine at a place of its section
record Stands (m : Machine) (w : Cursor) : Type 0 where
  place : ℕ
  inside : InSection (moved m place)
  shows : w ≡ observe (moved m place)

-- a call moves a machine, if at all, to another place
unless-moved : (r : ℕ) (m : Machine) (place : ℕ) → unless r (moved m place) m ≡ moved m (unless r place m.place)
unless-moved zero m place = refl
unless-moved (suc r) m place = refl

-- so the records that it shows are those of places of its section
run_stands : (m : Machine) (place : ℕ) (cs : List Call) → InSection (moved m place) → Each (Stands m) (machine_run (moved m place) cs)
unfolding machine_run Each turn
run_stands m place [] inside = tt
run_stands m place (call ∷ cs) inside =
    let here = moved m place in
    let to = unless (refusal_of here call) (destination here call) place in
    let moves = unless-moved (refusal_of here call) here (destination here call) in
    let inside' : InSection (moved m to) = rw (← moves) (turn_in here call inside) in
    (record { place = to; inside = inside'; shows = ap observe moves }, rw moves (run_stands m to cs inside'))

-- after either open too
plain_stands : (opening : Opening) → check_opening opening ≡ 0 → (cs : List Call) → Each (Stands (start_of opening)) (plain_run opening cs)
unfolding Each
plain_stands opening e cs =
    let m = start_of opening in
    let inside = start_in opening e in
    (record { place = m.place; inside = inside; shows = refl }, run_stands m m.place cs inside)

walk_stands : (opening : Opening) → check_opening opening ≡ 0 → (cs : List Call) → Each (Stands (start_of opening)) (walk_run opening cs)
walk_stands opening e cs = rw (calls opening e cs) (plain_stands opening e cs)

-- what each record has, it has too in other words
each_map : {P Q : Cursor → Type 0} → ((w : Cursor) → P w → Q w) → (steps : List Step) → Each P steps → Each Q steps
unfolding Each
each_map f [] ps = tt
each_map f (step ∷ steps) (p, ps) = (f step.cursor p, each_map f steps ps)

stands_keeps : (m : Machine) (w : Cursor) → Stands m w → KeepsTo m w
unfolding observe
stands_keeps m w s = rw s.shows (record { list = (refl, refl); bounds = (refl, refl); inside = (s.inside.low, s.inside.high) })

-- the calls never leave the section
pub keeps : (opening : Opening) → check_opening opening ≡ 0 → (cs : List Call) → Each (KeepsTo (start_of opening)) (walk_run opening cs)
keeps opening e cs = each_map (stands_keeps (start_of opening)) (walk_run opening cs) (walk_stands opening e cs)

-- the row that such a record holds
stands_row : {m : Machine} {w : Cursor} (s : Stands m w) → permutation_of w ≡ row_at (S m.n m.k) s.place
unfolding observe
stands_row {m} s = ap permutation_of s.shows ∙ take-shown (moved m s.place) (in_on (moved m s.place) s.inside)

-- and that show hands out
stands_shown : {m : Machine} {w : Cursor} → Stands m w → (called w show).answer.perm ≡ w.perm
stands_shown {m} {w} s =
    let passes : sound w ≡ true = rw s.shows (sound-observe (moved m s.place) s.inside) in
    ap (λ step. step.answer.perm) (called-shows w passes)

module _ (n k lowest highest lowest' highest' : ℕ) (apart : (highest < lowest') ⊎ (highest' < lowest)) where
  -- records of two sections that do not overlap are those of two places
  other-places : {p q : ℕ} → lowest ≤ p → p ≤ highest → lowest' ≤ q → q ≤ highest' → p ≡ q → ⊥
  other-places {p} {q} a b a' b' e = go apart
    where
      go : (highest < lowest') ⊎ (highest' < lowest) → ⊥
      go (inl l) = omega arith
      go (inr l) = omega arith

  module _ (w v : Cursor) (s : Stands (section n k lowest highest) w) (t : Stands (section n k lowest' highest') v) where
    -- and so hold different rows
    rows-differ : permutation_of w ≡ permutation_of v → ⊥
    rows-differ e =
        let here : s.place < length (S n k) = omega (arith, length-S n k, s.inside.high, s.inside.last) in
        let there : t.place < length (S n k) = omega (arith, length-S n k, t.inside.high, t.inside.last) in
        let one = (complete n k).only s.place t.place here there (sym (stands_row s) ∙ e ∙ stands_row t) in
        other-places s.inside.low s.inside.high t.inside.low t.inside.high one

    -- as does what show hands out
    shows-other : ShowsOther w v
    unfolding observe
    shows-other =
        record {
          held = rows-differ;
          shown = λ e.
              let both = sym (stands_shown s) ∙ e ∙ stands_shown t in
              let size : w.n ≡ v.n = ap (λ u. u.n) s.shows ∙ ap (λ u. u.n) (sym t.shows) in
              rows-differ (ap (λ m. take m w.perm) size ∙ ap (take v.n) both);
        }

  -- two sections that do not overlap never show the same permutation
  pub sections-differ : check_opening (Section n k lowest highest) ≡ 0 → check_opening (Section n k lowest' highest') ≡ 0 → (cs ds : List Call)
      → Each (λ w. Each (ShowsOther w) (walk_run (Section n k lowest' highest') ds)) (walk_run (Section n k lowest highest) cs)
  sections-differ e f cs ds =
      each_map
      (λ w s. each_map (λ v t. shows-other w v s t) (walk_run (Section n k lowest' highest') ds) (walk_stands (Section n k lowest' highest') f ds))
      (walk_run (Section n k lowest highest) cs)
      (walk_stands (Section n k lowest highest) e cs)

-- below its highest place a forward is not refused, and leads to the next place
turn-next : (m : Machine) → InSection m → m.place < m.highest → turn m forward ≡ moved m (m.place + 1)
turn-next m inside h =
    let served = step_serves m onward (on_goes m m.highest (λ f one. omega (arith, inside.last), λ f e. omega arith)) in
    turn-moves m forward served ∙ ap (moved m) (after-other m.lowest m.highest m.place (λ e. omega arith))

-- so the forwards go through the places of the section one by one
forwards_through : (m : Machine) (t : ℕ) → InSection m → m.place + t ≤ m.highest → forwards t (observe m) ≡ observe (moved m (m.place + t))
unfolding forwards
forwards_through m zero inside h = ap (λ place. observe (moved m place)) (sym (add-zero m.place))
forwards_through m (suc t) inside h =
    let here = moved m (m.place + t) in
    let inside' = in_moved m inside (m.place + t) (omega (arith, inside.low), omega arith) in
    ap (λ w. (called w forward).cursor) (forwards_through m t inside (omega arith))
    ∙ ap (λ step. step.cursor) (called-observe here forward inside')
    ∙ ap observe (turn-next here inside' (omega arith))
    ∙ ap (λ place. observe (moved m place)) (omega arith)

-- t forwards from the open of a section hold the row t places after its lowest
pub section-rows : (n k lowest highest : ℕ) → check_opening (Section n k lowest highest) ≡ 0 → (t : ℕ) → lowest + t ≤ highest
    → permutation_of (forwards t (opened (Section n k lowest highest)).cursor) ≡ row_at (S n k) (lowest + t)
unfolding opened
section-rows n k lowest highest e t h =
    let m = section n k lowest highest in
    let inside = start_in (Section n k lowest highest) e in
    let inside' = in_moved m inside (lowest + t) (omega arith, h) in
    rw e (stands_row {m = m} (record { place = lowest + t; inside = inside'; shows = forwards_through m t inside h }))
