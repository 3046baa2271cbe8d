-- What a call on a record gives, one law for each outcome: the record fails check 8, the call is refused, or it moves. Assumes nothing.
use mathlib.Core.Path.{◌≡◌, refl, sym, ap, ◌∙◌}
use mathlib.Core.Bool.{Bool, true, false, cond}
use Prim.Native.Nat.{ℕ, zero, suc, ◌^◌, ◌<◌}
use Rattle.std.specs.Prelude.{Ok, Err}
use Rattle.stirling.specs.Refusal.{number}
use Rattle.stirling.specs.declared.Refusal.{Refusal}
use Rattle.stirling.specs.declared.Refusal.TheVariants.{Record}
use Rattle.stirling.specs.Count.{c, lookup_of}
use Rattle.stirling.proofs.Counts.{cycles-passed, looked_up, fits}
use Rattle.stirling.proofs.Refusals.{number_some}
use Rattle.perm.specs.Permutation.{fixed}
use Rattle.gray.specs.Listing.{Near}
use Rattle.cursor.specs.Machine.{Machine, Call, forward, back, jump, show, Steps, onward, backward, observe, row_of, refusal_of, destination, moved, turn, bare, stepped, step_to, given, answered}
use Rattle.cursor.specs.Walk.{machine_of, sound, called}
use Rattle.cursor.specs.declared.Cursor.{Cursor}
use Rattle.cursor.specs.declared.Answer.{Answer}
use Rattle.cursor.proofs.Numbers.{gives_refusal}
use Rattle.cursor.proofs.Calls.{in_on, step_in}
use Rattle.cursor.proofs.Steps.{turn_near}
use Rattle.cursor.proofs.Sound.{sound_in, sound_on, sound-shows}

-- two tests that pass together and fail together are one
pub agree : (found right : Bool) → (found ≡ true → right ≡ true) → (found ≡ false → right ≡ false) → found ≡ right
agree true right f g = sym (f refl)
agree false right f g = sym (g refl)

-- the answer to a call that is not refused is no refusal
pub given_refusal : (m : Machine) (call : Call) → (given m call).refusal ≡ 0
given_refusal m forward = refl
given_refusal m back = refl
given_refusal m (jump r) = refl
given_refusal m show = refl

-- what forward and back answer where they are not refused
pub given-step : (m : Machine) {call : Call} → Steps call → given m call ≡ stepped m.n (row_of m) (row_of (moved m (destination m call)))
given-step m onward = refl
given-step m backward = refl

module _ (w : Cursor) (call : Call) where
  -- a record that fails check 8 comes back as it was
  pub called-unsound : sound w ≡ false → called w call ≡ record { cursor = w; answer = bare 8 }
  unfolding called
  called-unsound e = rw e

  -- a refused call moves nothing
  pub called-refused : (r : ℕ) → sound w ≡ true → refusal_of (machine_of w) call ≡ r → (r ≡ 0 → ⊥) → called w call ≡ record { cursor = w; answer = bare r }
  unfolding called turn answered
  called-refused zero e f d = absurd (d refl)
  called-refused (suc r) e f d = rw (e, f) (ap (λ (v : Cursor). record { cursor = v; answer = bare (suc r) }) (sym (sound-shows w e)))

  -- and so where check 8 or what the call is refused for gives a refusal, the record comes back with its number
  pub record_fails : (x : ℕ) (refusal : Refusal) → Err refusal ≡ cond (sound w) (Ok x) (Err Record) → record { cursor = w; answer = bare (number refusal) } ≡ called w call
  record_fails x refusal e =
      let (failed, which) = gives_refusal (sound w) x e in
      rw which (sym (called-unsound failed))

  pub call_fails : (refusal : Refusal) → sound w ≡ true → number refusal ≡ refusal_of (machine_of w) call
      → record { cursor = w; answer = bare (number refusal) } ≡ called w call
  call_fails refusal e f = sym (called-refused (number refusal) e (sym f) (number_some refusal))

  -- a call that is not refused moves the machine
  pub called-moves : sound w ≡ true → refusal_of (machine_of w) call ≡ 0
      → called w call ≡ record { cursor = observe (moved (machine_of w) (destination (machine_of w) call)); answer = given (machine_of w) call }
  unfolding called turn answered
  called-moves e f = rw (e, f)

-- forward and back, where they are not refused
module _ (w : Cursor) {call : Call} (kind : Steps call) (e : sound w ≡ true) (f : refusal_of (machine_of w) call ≡ 0) (place : ℕ)
    (g : place ≡ destination (machine_of w) call) where
  -- lead to a place of the list, where the row is near
  pub step-asks : (sound w ≡ true) × (place < c w.n w.k) × Near w.n (row_of (machine_of w)) (row_of (moved (machine_of w) place))
  step-asks =
      let m = machine_of w in
      let inside = sound_in w e in
      rw g (e, (in_on _ (step_in m inside kind)).below, turn_near m call inside kind f)

  -- and give the record there, with the step between the rows
  pub step_gives : step_to (machine_of w) place ≡ called w call
  step_gives = rw (g, called-moves w call e f, given-step (machine_of w) kind)

-- place, permutation and array as a record holds them, a number of fixed points, and zeros for the rest
abbrev pub held : Cursor → ℕ → Answer
held w number = record {
  refusal = 0;
  i = 0;
  j = 0;
  l = 0;
  changed = 0;
  place = w.place;
  perm = w.perm;
  array = w.array;
  fixed = number;
}

-- show hands out what a sound record holds, with the number of fixed points of the permutation at its place
pub called-shows : (w : Cursor) → sound w ≡ true → called w show ≡ record { cursor = w; answer = held w (fixed (row_of (machine_of w))) }
unfolding observe
called-shows w e =
    called-moves w show e refl
    ∙ ap (λ (v : Cursor). record { cursor = v; answer = held v (fixed (row_of (machine_of w))) }) (sym (sound-shows w e))

-- the count that a sound record's place is below, as the table has it
pub sound-count : (w : Cursor) → sound w ≡ true → (lookup_of w.n w.k ≡ c w.n w.k) × (w.place < c w.n w.k) × (c w.n w.k < 2 ^ 64)
sound-count w e =
    let on = sound_on w e in
    let (small, _) = cycles-passed w.n w.k on.cycles in
    (looked_up w.n w.k small, on.below, fits w.n w.k small)
