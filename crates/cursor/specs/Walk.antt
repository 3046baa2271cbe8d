-- Document 01's *walk* as a record that a caller hands in, sound or not: what each call gives for EVERY record. These are definitions; nothing is assumed.
use Rattle.std.specs.Prelude.{◌≡◌, ℕ, zero, suc, ◌-◌, ◌≤◌, ◌<◌, Bool, not, cond, ◌&&◌, List, [], ◌∷◌, eqb, ltb, replicate, take, Result, Ok, Err}
use Rattle.stirling.specs.Refusal.{number, refuse, ◌then◌, unless, within}
use Rattle.stirling.specs.declared.Refusal.{Refusal}
use Rattle.stirling.specs.Count.{c, check_cycles, check_place}
use Rattle.perm.specs.Lists.{same}
use Rattle.gray.specs.Order.{Row}
use Rattle.gray.specs.Listing.{HasCycles}
use Rattle.cursor.specs.Machine.{Machine, Call, forward, back, jump, show, observe, turned, machine_run, Reversed, bare}
use Rattle.cursor.specs.declared.Cursor.{Cursor}
use Rattle.cursor.specs.declared.Opening.{Opening}
use Rattle.cursor.specs.declared.Opening.TheVariants.{Whole, Section}
use Rattle.cursor.specs.declared.Step.{Step}

-- the machine at a record's n, k, place and bounds
abbrev pub machine_of : Cursor → Machine
machine_of w = record { n = w.n; k = w.k; place = w.place; lowest = w.lowest; highest = w.highest }

-- n, k and the highest place in range, as the checks 1, 2 and 3 have it, lowest ≤ place ≤ highest, and permutation and array, with the zeros after the n-th byte, those
-- of that place
unfoldable pub sound : Cursor → Bool
sound w =
    eqb (check_place w.n w.k w.highest) 0 && within w.lowest w.highest w.place
    && same w.perm (observe (machine_of w)).perm && same w.array (observe (machine_of w)).array

-- check 8
abbrev pub check_record : Cursor → ℕ
check_record w = refuse (not (sound w)) 8

-- a call on a record: what the plain machine at its place shows after it; a record that fails check 8 comes back as it was
unfoldable pub called : Cursor → Call → Step
called w call = unless (check_record w) (turned (machine_of w) call) (record { cursor = w; answer = bare 8 })

-- what a call hands back: its step, or a record as it was and the refusal's number
abbrev pub handed_back : Cursor → Result Step Refusal → Step
handed_back w (Ok step) = step
handed_back w (Err refusal) = record { cursor = w; answer = bare (number refusal) }

-- a section of S(n,k) begins at its lowest place
abbrev pub section : ℕ → ℕ → ℕ → ℕ → Machine
section n k lowest highest = record { n = n; k = k; place = lowest; lowest = lowest; highest = highest }

-- and the whole list, from 0 to c(n,k) − 1, at place 0
abbrev pub start : ℕ → ℕ → Machine
start n k = section n k 0 (c n k - 1)

-- the machine that an opening begins with
abbrev pub start_of : Opening → Machine
start_of (Whole n k) = start n k
start_of (Section n k lowest highest) = section n k lowest highest

-- open: checks 1 and 2; of a section, also 3 for either end, then 13 if the lowest place is above the highest
abbrev pub check_opening : Opening → ℕ
check_opening (Whole n k) = check_cycles n k
check_opening (Section n k lowest highest) = check_place n k lowest then check_place n k highest then refuse (ltb highest lowest) 13

-- a walk of zeros: what a refused open hands back, and the walk of the one permutation of nothing
abbrev pub zeros : Cursor
zeros = record { n = 0; k = 0; place = 0; lowest = 0; highest = 0; perm = replicate 20 0; array = replicate 20 0 }

-- either open: its checks, then the lowest place; a refused open hands back a walk of zeros
unfoldable pub opened : Opening → Step
opened opening =
    unless (check_opening opening)
    (record { cursor = observe (start_of opening); answer = bare 0 })
    (record { cursor = zeros; answer = bare (check_opening opening) })

-- the steps after an open and after each call of a list, each call getting the record that the one before handed back
unfoldable pub calls_run : Cursor → List Call → List Step
calls_run w [] = []
calls_run w (call ∷ calls) = called w call ∷ calls_run (called w call).cursor calls

-- the whole list of a walk: the step of the open and those of the calls
abbrev pub walk_run : Opening → List Call → List Step
walk_run opening calls = opened opening ∷ calls_run (opened opening).cursor calls

-- the whole list of the plain machine: what stands after the open and after each call
abbrev pub plain_run : Opening → List Call → List Step
plain_run opening calls = record { cursor = observe (start_of opening); answer = bare 0 } ∷ machine_run (start_of opening) calls

-- of each record that a list of steps hands back
unfoldable pub Each : (Cursor → Type 0) → List Step → Type 0
Each P [] = Unit {0}
Each P (step ∷ steps) = P step.cursor × Each P steps

-- document 02, h): a record keeps to the section of a machine: it has its n, k and bounds, and lowest ≤ place ≤ highest
pub record KeepsTo (m : Machine) (w : Cursor) : Type 0 where
  pub list : (w.n ≡ m.n) × (w.k ≡ m.k)
  pub bounds : (w.lowest ≡ m.lowest) × (w.highest ≡ m.highest)
  pub inside : (m.lowest ≤ w.place) × (w.place ≤ m.highest)

-- the permutation that a record holds
abbrev pub permutation_of : Cursor → Row
permutation_of w = take w.n w.perm

-- two records that do not show the same permutation: they hold different ones, and show hands out different ones
pub record ShowsOther (w v : Cursor) : Type 0 where
  pub held : permutation_of w ≡ permutation_of v → ⊥
  pub shown : (called w show).answer.perm ≡ (called v show).answer.perm → ⊥

-- document 02, g): a call undoes another on a record: it hands the record back, with the three positions the other way round and as many entries changed, and is refused
-- only if the other was
pub record Undone (w : Cursor) (call other : Call) : Type 0 where
  pub same_record : (called (called w call).cursor other).cursor ≡ w
  pub reversed : Reversed (called w call).answer (called (called w call).cursor other).answer
  pub as_many : (called (called w call).cursor other).answer.changed ≡ (called w call).answer.changed
  pub served : (called w call).answer.refusal ≡ 0 → (called (called w call).cursor other).answer.refusal ≡ 0

-- the record after so many forwards
unfoldable pub forwards : ℕ → Cursor → Cursor
forwards zero w = w
forwards (suc t) w = (called (forwards t w) forward).cursor

-- once round the list from a record on: c(n,k) forwards meet every permutation of n with k cycles exactly once, and nothing else, and end where they began
pub record Round (w : Cursor) : Type 0 where
  pub each : (t : ℕ) → t < c w.n w.k → HasCycles w.n w.k (permutation_of (forwards t w))
  pub met : (s : Row) → HasCycles w.n w.k s → (t : ℕ) × (t < c w.n w.k) × (permutation_of (forwards t w) ≡ s)
  pub only : (t u : ℕ) → t < c w.n w.k → u < c w.n w.k → permutation_of (forwards t w) ≡ permutation_of (forwards u w) → t ≡ u
  pub ends : forwards (c w.n w.k) w ≡ w

-- a call as two numbers: 1 forward, 2 back, 3 jump to the place given, any other show
abbrev pub decode : ℕ → ℕ → Call
decode kind place = cond (eqb kind 1) forward (cond (eqb kind 2) back (cond (eqb kind 3) (jump place) show))

-- a list of calls as two slices; a place that is missing is 0
unfoldable pub decoded : List ℕ → List ℕ → List Call
decoded [] places = []
decoded (kind ∷ kinds) [] = decode kind 0 ∷ decoded kinds []
decoded (kind ∷ kinds) (place ∷ places) = decode kind place ∷ decoded kinds places

-- the last of a list of steps that begins with `first`
unfoldable pub last_step : Step → List Step → Step
last_step first [] = first
last_step first (next ∷ steps) = last_step next steps

-- replay: the step that the plain machine ends with after either open and a list of calls; a refused open ends it
unfoldable pub replayed : Opening → List Call → Step
replayed opening calls = unless (check_opening opening) (last_step (opened opening) (machine_run (start_of opening) calls)) (opened opening)
