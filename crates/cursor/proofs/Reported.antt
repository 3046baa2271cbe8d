-- A number that only some calls report, for every record: every other call and every refusal has 0 there. So it is with the number of fixed points, which show
-- reports of the permutation that it hands out. Assumes nothing.
use mathlib.Core.Path.{◌≡◌, refl, sym, ap, ◌∙◌}
use mathlib.Core.Logic.{◌⊎◌, inl, inr}
use mathlib.Core.Bool.{true}
use Prim.Native.Nat.{ℕ, zero, suc}
use native.Mathlib.Omega.{arith}
use borrow.Table.Steps.{cases}
use lib.ListN.{take}
use Rattle.stirling.specs.Refusal.{unless}
use Rattle.perm.specs.Permutation.{fixed}
use Rattle.perm.specs.Array.{array_of}
use Rattle.cursor.specs.declared.Answer.{Answer}
use Rattle.cursor.specs.declared.Cursor.{Cursor}
use Rattle.cursor.specs.declared.Step.{Step}
use Rattle.cursor.specs.Machine.{Machine, Call, forward, back, jump, show, row_of, refusal_of, bare, given, answered, turned}
use Rattle.cursor.specs.Walk.{machine_of, sound, check_record, called}
use Rattle.cursor.proofs.Padding.{take-shown, take-shown_array}
use Rattle.cursor.proofs.Sound.{sound_on, sound-shows}
use Rattle.cursor.proofs.Outcomes.{given_refusal, called-unsound, called-shows}

-- the first n bytes of a record that passes check 8 are the row at its place
pub sound-row : (w : Cursor) → sound w ≡ true → take w.n w.perm ≡ row_of (machine_of w)
sound-row w e = ap (λ v. take w.n v.perm) (sound-shows w e) ∙ take-shown (machine_of w) (sound_on w e)

-- and those of its array are the array of that row
pub sound_array : (w : Cursor) → sound w ≡ true → take w.n w.array ≡ array_of w.n (row_of (machine_of w))
sound_array w e = ap (λ v. take w.n v.array) (sound-shows w e) ∙ take-shown_array (machine_of w) (sound_on w e)

-- a show that is not refused reports the fixed points of the permutation that it hands out
pub shown_number : (w : Cursor) → (called w show).answer.refusal ≡ 0 → (called w show).answer.fixed ≡ fixed (take w.n (called w show).answer.perm)
shown_number w z =
    cases
    (sound w)
    (λ e. rw (called-shows w e, sound-row w e))
    (λ e. let f : ◌≡◌ {A = ℕ} 8 0 = sym (ap (λ s. s.answer.refusal) (called-unsound w show e)) ∙ z in absurd (omega arith))

-- what holds of both outcomes holds whatever was refused
pub unless_both : {A : Type 0} (P : A → Type 0) (r : ℕ) (answer kept : A) → P answer → P kept → P (unless r answer kept)
unless_both P zero answer kept h k = h
unless_both P (suc r) answer kept h k = k

-- a number of an answer that some calls report
module _ (number : Answer → ℕ) (Reports : Call → Type 0) where
  -- any other answer, and one that is a refusal, has 0 there
  abbrev Silent : Call → Answer → Type 0
  Silent call a = (Reports call → ⊥) ⊎ (a.refusal ≡ 0 → ⊥) → number a ≡ 0

  -- so it is with every call on every record, where no refusal has another number, nor the answer to another call
  pub silent : ((r : ℕ) → number (bare r) ≡ 0) → ((m : Machine) (call : Call) → (Reports call → ⊥) → number (given m call) ≡ 0)
      → (w : Cursor) (call : Call) → Silent call (called w call).answer
  unfolding called answered
  silent refused other w call =
      let m = machine_of w in
      let gives : Silent call (given m call) = by_call m call in
      unless_both
      (λ (s : Step). Silent call s.answer)
      (check_record w)
      (turned m call)
      (record { cursor = w; answer = bare 8 })
      (unless_both (Silent call) (refusal_of m call) (given m call) (bare (refusal_of m call)) gives (λ _. refused (refusal_of m call)))
      (λ _. refused 8)
    where
      by_call : (m : Machine) (call : Call) → Silent call (given m call)
      by_call m call (inl d) = other m call d
      by_call m call (inr d) = absurd (d (given_refusal m call))

-- only show reports fixed points
given-fixed : (m : Machine) (call : Call) → (call ≡ show → ⊥) → (given m call).fixed ≡ 0
given-fixed m forward d = refl
given-fixed m back d = refl
given-fixed m (jump r) d = refl
given-fixed m show d = absurd (d refl)

-- so every other call on every record, and every refusal, reports none
pub no_number : (w : Cursor) (call : Call) → (call ≡ show → ⊥) ⊎ ((called w call).answer.refusal ≡ 0 → ⊥) → (called w call).answer.fixed ≡ 0
no_number = silent (λ a. a.fixed) (λ call. call ≡ show) (λ r. refl) given-fixed
