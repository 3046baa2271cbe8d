-- What `replay` ends with: the last step of a whole run is that of running the rest from here. Assumes nothing.
use mathlib.Core.Path.{◌≡◌, refl, ap, ◌∙◌}
use mathlib.Core.List.{List, [], ◌∷◌}
use Prim.Native.Nat.{ℕ, suc, ◌+◌, ◌≤◌, ◌<◌}
use native.Mathlib.Nat.{add-zero}
use native.Mathlib.Numerals.{add-one}
use lib.ListN.{length, get_or, drop, drop_of_length-le}
use lib.Seq.{drop-cons, get_or-drop, drop-drop}
use Rattle.stirling.proofs.Refusals.{unless-refuses}
use Rattle.cursor.specs.Machine.{Call}
use Rattle.cursor.specs.Walk.{called, start_of, check_opening, opened, calls_run, decode, decoded, last_step, replayed}
use Rattle.cursor.specs.declared.Opening.{Opening}
use Rattle.cursor.specs.declared.Step.{Step}
use Rattle.cursor.proofs.Calls.{calls_run_lem, start_in}

-- the step that a run ends with, from a step on
abbrev pub ending : Step → List Call → Step
ending step calls = last_step step (calls_run step.cursor calls)

-- a call, and the rest from there
pub ending-next : (step : Step) (call : Call) (calls : List Call) → ending step (call ∷ calls) ≡ ending (called step.cursor call) calls
unfolding last_step calls_run
ending-next step call calls = refl

-- no call is left
pub ending_last : (step : Step) → ending step [] ≡ step
unfolding last_step calls_run
ending_last step = refl

-- an open that is not refused, and the calls from there
pub ending-opened : (opening : Opening) (calls : List Call) → check_opening opening ≡ 0 → ending (opened opening) calls ≡ replayed opening calls
unfolding opened replayed
ending-opened opening calls e = rw (e, calls_run_lem (start_of opening) calls (start_in opening e))

-- a refused open ends it
pub replayed_refused : (opening : Opening) (calls : List Call) → (check_opening opening ≡ 0 → ⊥) → replayed opening calls ≡ opened opening
unfolding replayed
replayed_refused opening calls d = unless-refuses (check_opening opening) _ (opened opening) d

-- the next of what is left of a list, and past its end 0
get_or-next : (s : List ℕ) (t : ℕ) → get_or (drop t s) 0 0 ≡ get_or s t 0
get_or-next s t = get_or-drop t s 0 0 ∙ ap (λ i. get_or s i 0) (add-zero t)

-- the next call of a list, from its two numbers
decoded-cons : (kind : ℕ) (kinds places : List ℕ) → decoded (kind ∷ kinds) places ≡ decode kind (get_or places 0 0) ∷ decoded kinds (drop 1 places)
unfolding decoded
decoded-cons kind kinds [] = refl
decoded-cons kind kinds (place ∷ places) = refl

pub decoded-next : (kinds places : List ℕ) (t : ℕ) → t < length kinds
    → decoded (drop t kinds) (drop t places) ≡ decode (get_or kinds t 0) (get_or places t 0) ∷ decoded (drop (t + 1) kinds) (drop (t + 1) places)
decoded-next kinds places t h =
    rw (drop-cons kinds t 0, decoded-cons (get_or kinds t 0) (drop (suc t) kinds) (drop t places), get_or-next places t, drop-drop 1 t places, add-one)

-- past the last call nothing is left
pub decoded_past : (kinds places : List ℕ) (t : ℕ) → length kinds ≤ t → decoded (drop t kinds) places ≡ []
unfolding decoded
decoded_past kinds places t h = rw (drop_of_length-le kinds h)
