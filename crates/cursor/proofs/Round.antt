-- Once round the list (document 02, g): from any place on, as many forwards as it has rows meet each row once and end where they began. Assumes nothing.
use mathlib.Core.Path.{◌≡◌, refl, sym, ap, ◌∙◌}
use mathlib.Core.Logic.{◌⊎◌, inl, inr}
use mathlib.Core.Bool.{true}
use Prim.Native.Nat.{ℕ, zero, suc, ◌+◌, ◌-◌, ◌≤◌, ◌<◌}
use native.Mathlib.Omega.{arith}
use native.Mathlib.Decide.{ℕ_discrete, dec_lt}
use borrow.Author.Tests.{eq-eqb}
use lib.ListN.{length}
use Rattle.stirling.specs.Refusal.{refuse}
use Rattle.stirling.specs.Count.{c, check_cycles}
use Rattle.gray.specs.Order.{Row, S}
use Rattle.gray.specs.Listing.{row_at, HasCycles}
use Rattle.gray.proofs.Once.{length-S, complete}
use Rattle.cursor.specs.Machine.{Machine, InSection, Call, forward, back, Steps, onward, backward, observe, whole, stops, place_after, destination, moved, turn, step_to}
use Rattle.cursor.specs.Walk.{machine_of, sound, called, start, forwards, permutation_of, Round}
use Rattle.cursor.specs.declared.Cursor.{Cursor}
use Rattle.cursor.specs.declared.Opening.TheVariants.{Whole}
use Rattle.cursor.proofs.Ring.{after_last, after-other, before-first, after-within, after-alone}
use Rattle.cursor.proofs.Calls.{on_moved, in_moved, called-observe, start_in}
use Rattle.cursor.proofs.Steps.{whole-serves, whole-served, whole_bounds}
use Rattle.cursor.proofs.Padding.{take-shown}
use Rattle.cursor.proofs.Sound.{sound_in, sound_on, sound-shows}
use Rattle.cursor.proofs.Undone.{turn-stays, turn-moves, answer-step, answer_refusal, called-turned}

-- on a record that passes check 8 forward is refused 9 just where it stops at the highest place, and back 10 just where it stops at the lowest
pub refused_ends : (w : Cursor) → sound w ≡ true
    → ((called w forward).answer.refusal ≡ refuse (stops (machine_of w) w.highest) 9)
    × ((called w back).answer.refusal ≡ refuse (stops (machine_of w) w.lowest) 10)
refused_ends w e =
    let m = machine_of w in
    (rw (called-turned w forward e) (answer_refusal m forward), rw (called-turned w back e) (answer_refusal m back))

-- forward from the last place leads to place 0, and back from place 0 to the last
module _ (n k : ℕ) (e : check_cycles n k ≡ 0) (two : 2 ≤ c n k) where
  goes : (from to : ℕ) (call : Call) → Steps call → from < c n k → destination (moved (start n k) from) call ≡ to
      → called (observe (moved (start n k) from)) call ≡ step_to (moved (start n k) from) to
  goes from to call kind h g =
      let m = moved (start n k) from in
      let all : whole m ≡ true = rw (eq-eqb (c n k - 1 + 1) (c n k) (omega arith)) in
      let served = whole-serves m all kind (λ one. omega arith) in
      called-observe m call (in_moved (start n k) (start_in (Whole n k) e) from (omega arith, omega arith))
      ∙ rw (turn-moves m call served, answer-step m call kind served, g)

  pub last_to_first : called (observe (moved (start n k) (c n k - 1))) forward ≡ step_to (moved (start n k) (c n k - 1)) 0
  last_to_first = goes (c n k - 1) 0 forward onward (omega arith) (after_last 0 (c n k - 1) (c n k - 1) refl)

  pub first_to_last : called (observe (start n k)) back ≡ step_to (start n k) (c n k - 1)
  first_to_last = goes 0 (c n k - 1) back backward (omega arith) (before-first 0 (c n k - 1) 0 refl)

-- on the whole list a forward leads to the place after, on one of one permutation too, where that is the place itself
turn-forward : (m : Machine) → InSection m → whole m ≡ true → turn m forward ≡ moved m (place_after 0 m.highest m.place)
turn-forward m inside all = rw (← first) (go (ℕ_discrete (c m.n m.k) 1))
  where
    first : m.lowest ≡ 0
    first = (whole_bounds m all).0

    go : Dec (c m.n m.k ≡ 1) → turn m forward ≡ moved m (place_after m.lowest m.highest m.place)
    go (yes e) =
        let alone = after-alone m.lowest m.highest m.place inside.low inside.high (omega (arith, inside.last, first)) in
        turn-stays m forward (λ f. whole-served m all onward f e) ∙ ap (moved m) (sym alone)
    go (no d) = turn-moves m forward (whole-serves m all onward d)

-- q lies t places on from a place among so many, past the last one or not
record Onwards (count place t q : ℕ) : Type 0 where
  below : q < count
  on : (q ≡ place + t) ⊎ (q + count ≡ place + t)

-- and the place after it lies one more on
onwards_suc : {count place t q : ℕ} (last : ℕ) → last + 1 ≡ count → place < count → t < count → Onwards count place t q
    → Onwards count place (suc t) (place_after 0 last q)
onwards_suc {count} {place} {t} {q} last z h l o = record { below = omega (arith, inside.1); on = go (ℕ_discrete q last) o.on }
  where
    inside : (0 ≤ place_after 0 last q) × (place_after 0 last q ≤ last)
    inside = after-within 0 last q (omega arith) (omega (arith, o.below))

    go : Dec (q ≡ last) → (q ≡ place + t) ⊎ (q + count ≡ place + t) → (place_after 0 last q ≡ place + suc t) ⊎ (place_after 0 last q + count ≡ place + suc t)
    go (yes e) (inl f) = inr (rw (after_last 0 last q e) (omega arith))
    go (yes e) (inr f) = absurd (omega arith)
    go (no d) (inl f) = inl (after-other 0 last q d ∙ omega arith)
    go (no d) (inr f) = inr (rw (after-other 0 last q d) (omega arith))

-- one place lies t places on
onwards_one : {count place t q r : ℕ} → Onwards count place t q → Onwards count place t r → q ≡ r
onwards_one {count} {place} {t} {q} {r} o p = go o.below p.below o.on p.on
  where
    go : q < count → r < count → (q ≡ place + t) ⊎ (q + count ≡ place + t) → (r ≡ place + t) ⊎ (r + count ≡ place + t) → q ≡ r
    go a b (inl f) (inl g) = omega arith
    go a b (inl f) (inr g) = absurd (omega arith)
    go a b (inr f) (inl g) = absurd (omega arith)
    go a b (inr f) (inr g) = omega arith

-- and, less than a round on, at one number of places only
onwards_only : {count place t u q : ℕ} → t < count → u < count → Onwards count place t q → Onwards count place u q → t ≡ u
onwards_only {count} {place} {t} {u} {q} a b o p = go o.on p.on
  where
    go : (q ≡ place + t) ⊎ (q + count ≡ place + t) → (q ≡ place + u) ⊎ (q + count ≡ place + u) → t ≡ u
    go (inl f) (inl g) = omega arith
    go (inl f) (inr g) = absurd (omega arith)
    go (inr f) (inl g) = absurd (omega arith)
    go (inr f) (inr g) = omega arith

-- every place lies some number of places on
onwards_to : (count place q : ℕ) → place < count → q < count → (t : ℕ) × (t < count) × Onwards count place t q
onwards_to count place q h l = go (dec_lt q place)
  where
    go : Dec (q < place) → (t : ℕ) × (t < count) × Onwards count place t q
    go (yes a) = (q + count - place, omega arith, record { below = l; on = inr (omega arith) })
    go (no a) = (q - place, omega arith, record { below = l; on = inl (omega arith) })

-- what so many forwards from a record lead to: the record of the place so many on
record Arrived (w : Cursor) (t : ℕ) : Type 0 where
  place : ℕ
  onwards : Onwards (c w.n w.k) w.place t place
  shows : forwards t w ≡ observe (moved (machine_of w) place)

module _ (w : Cursor) (e : sound w ≡ true) (all : whole (machine_of w) ≡ true) where
  bounds : (w.lowest ≡ 0) × (w.highest + 1 ≡ c w.n w.k)
  bounds = whole_bounds (machine_of w) all

  arrives : (t : ℕ) → t ≤ c w.n w.k → Arrived w t
  unfolding forwards
  arrives zero h = record { place = w.place; onwards = record { below = (sound_on w e).below; on = inl (omega arith) }; shows = sound-shows w e }
  arrives (suc t) h =
      let m = machine_of w in
      let a = arrives t (omega arith) in
      let inside = in_moved m (sound_in w e) a.place (omega (arith, bounds), omega (arith, bounds, a.onwards.below)) in
      record {
        place = place_after 0 w.highest a.place;
        onwards = onwards_suc w.highest bounds.1 (sound_on w e).below (omega arith) a.onwards;
        shows = ap (λ v. (called v forward).cursor) a.shows
            ∙ ap (λ s. s.cursor) (called-observe (moved m a.place) forward inside)
            ∙ ap observe (turn-forward (moved m a.place) inside all);
      }

  -- and the row there
  row : {t : ℕ} (a : Arrived w t) → permutation_of (forwards t w) ≡ row_at (S w.n w.k) a.place
  unfolding observe
  row a =
      ap permutation_of a.shows ∙ take-shown (moved (machine_of w) a.place) (on_moved (machine_of w) (sound_on w e) a.place a.onwards.below)

  -- within the list
  listed : {t : ℕ} (a : Arrived w t) → a.place < length (S w.n w.k)
  listed a = omega (arith, a.onwards.below, length-S w.n w.k)

  each : (t : ℕ) → t < c w.n w.k → HasCycles w.n w.k (permutation_of (forwards t w))
  each t h =
      let a = arrives t (omega arith) in
      rw (row a) ((complete w.n w.k).sound a.place (listed a))

  met : (s : Row) → HasCycles w.n w.k s → (t : ℕ) × (t < c w.n w.k) × (permutation_of (forwards t w) ≡ s)
  met s p =
      let (q, inside-q, there) = (complete w.n w.k).place s p in
      let (t, h, o) = onwards_to (c w.n w.k) w.place q (sound_on w e).below (omega (arith, inside-q, length-S w.n w.k)) in
      let a = arrives t (omega arith) in
      (t, h, row a ∙ ap (row_at (S w.n w.k)) (onwards_one a.onwards o) ∙ there)

  only : (t u : ℕ) → t < c w.n w.k → u < c w.n w.k → permutation_of (forwards t w) ≡ permutation_of (forwards u w) → t ≡ u
  only t u h l same =
      let a = arrives t (omega arith) in
      let b = arrives u (omega arith) in
      let one : a.place ≡ b.place = (complete w.n w.k).only a.place b.place (listed a) (listed b) (sym (row a) ∙ same ∙ row b) in
      onwards_only h l a.onwards (rw one b.onwards)

  ends : forwards (c w.n w.k) w ≡ w
  ends =
      let a = arrives (c w.n w.k) (omega arith) in
      let here : a.place ≡ w.place = onwards_one a.onwards (record { below = (sound_on w e).below; on = inr (omega arith) }) in
      a.shows ∙ ap (λ place. observe (moved (machine_of w) place)) here ∙ sym (sound-shows w e)

-- so it is once round, from every record of a whole list that passes check 8
pub once_round : (w : Cursor) → sound w ≡ true → whole (machine_of w) ≡ true → Round w
once_round w e all = record { each = each w e all; met = met w e all; only = only w e all; ends = ends w e all }
