-- Document 01's plain machine of demand 3, as document 02, h), has it: it holds n, k, a place and both bounds of its section and nothing else, and moves by the calls
-- alone. These are definitions; nothing is assumed.
use Rattle.std.specs.Prelude.{◌≡◌, ℕ, suc, ◌+◌, ◌-◌, ◌≤◌, ◌<◌, Bool, not, cond, ◌&&◌, List, [], ◌∷◌, ◌++◌, eqb, leb, length, replicate}
use Rattle.stirling.specs.Refusal.{refuse, ◌then◌, unless, within}
use Rattle.stirling.specs.Count.{c, check_cycles}
use Rattle.perm.specs.Permutation.{at, fixed, rotate}
use Rattle.perm.specs.Array.{position, array_of, entries_changed}
use Rattle.gray.specs.Order.{Row, S}
use Rattle.gray.specs.Listing.{row_at, Positions}
use Rattle.cursor.specs.declared.Cursor.{Cursor}
use Rattle.cursor.specs.declared.Answer.{Answer}
use Rattle.cursor.specs.declared.Step.{Step}
use Rattle.cursor.specs.declared.Direction.{Direction}
use Rattle.cursor.specs.declared.Direction.TheVariants.{Forward, Back}

pub record Machine : Type 0 where
  pub n : ℕ
  pub k : ℕ
  pub place : ℕ
  pub lowest : ℕ
  pub highest : ℕ

-- document 02, h): a machine in its section, the section in its list: lowest ≤ place ≤ highest < c(n,k), and the checks 1 and 2 pass
pub record InSection (m : Machine) : Type 0 where
  pub cycles : check_cycles m.n m.k ≡ 0
  pub low : m.lowest ≤ m.place
  pub high : m.place ≤ m.highest
  pub last : m.highest < c m.n m.k

pub data Call : Type 0 where
  forward back show : Call
  jump : ℕ → Call

-- the calls that report three positions and how many entries changed
pub data Steps : Call → Type 0 where
  onward : Steps forward
  backward : Steps back

-- the call that steps in a direction
abbrev pub step_call : Direction → Call
step_call Forward = forward
step_call Back = back

-- filled up with zeros to 20 bytes
abbrev pub padded : List ℕ → List ℕ
padded s = s ++ replicate (20 - length s) 0

-- its permutation: the one at its place in S(n,k)
abbrev pub row_of : Machine → Row
row_of m = row_at (S m.n m.k) m.place

-- the record that shows it: n, k, place, both bounds, permutation, array
unfoldable pub observe : Machine → Cursor
observe m = record {
  n = m.n;
  k = m.k;
  place = m.place;
  lowest = m.lowest;
  highest = m.highest;
  perm = padded (row_of m);
  array = padded (array_of m.n (row_of m));
}

-- its section is the whole list: lowest 0 and highest c(n,k) − 1
abbrev pub whole : Machine → Bool
whole m = eqb m.lowest 0 && eqb (m.highest + 1) (c m.n m.k)

-- whether a step past an end is refused: on the whole list, which document 02, g), closes, only if it has one permutation; a shorter section stops at its ends
abbrev pub stops : Machine → ℕ → Bool
stops m end = cond (whole m) (eqb (c m.n m.k) 1) (eqb m.place end)

-- the place after another of a section, where the step is not refused: after the highest comes the lowest
abbrev pub place_after : ℕ → ℕ → ℕ → ℕ
place_after lowest highest place = cond (eqb place highest) lowest (place + 1)

-- and the place before, likewise: before the lowest comes the highest
abbrev pub place_before : ℕ → ℕ → ℕ → ℕ
place_before lowest highest place = cond (eqb place lowest) highest (place - 1)

-- forward: refused 9 if it stops at the highest place; back: refused 10 if it stops at the lowest; jump r: refused 3 if r ≥ c(n,k), then 13 if r is outside the
-- section; show is not refused
abbrev pub refusal_of : Machine → Call → ℕ
refusal_of m forward = refuse (stops m m.highest) 9
refusal_of m back = refuse (stops m m.lowest) 10
refusal_of m (jump r) = refuse (leb (c m.n m.k) r) 3 then refuse (not (within m.lowest m.highest r)) 13
refusal_of m show = 0

-- forward: the place after; back: the place before; jump r: place r; show stays
abbrev pub destination : Machine → Call → ℕ
destination m forward = place_after m.lowest m.highest m.place
destination m back = place_before m.lowest m.highest m.place
destination m (jump r) = r
destination m show = m.place

-- the machine at another place
abbrev pub moved : Machine → ℕ → Machine
moved m place = record { n = m.n; k = m.k; place = place; lowest = m.lowest; highest = m.highest }

-- the machine after a call; a refused call moves nothing
unfoldable pub turn : Machine → Call → Machine
turn m call = unless (refusal_of m call) (moved m (destination m call)) m

-- the first position at which two rows differ, counted from i
unfoldable pub first_from : ℕ → Row → Row → ℕ
first_from i [] t = i
first_from i (x ∷ xs) [] = i
first_from i (x ∷ xs) (y ∷ ys) = cond (eqb x y) (first_from (suc i) xs ys) i

-- the three positions with new = old·⟨i,j,l⟩, i the smallest: i is the first position where the two differ, the value now at i stood at j, and the value now at j stood at l
abbrev pub step_i : Row → Row → ℕ
step_i old new = first_from 1 old new

abbrev pub step_j : Row → Row → ℕ
step_j old new = position (at new (step_i old new)) old

abbrev pub step_l : Row → Row → ℕ
step_l old new = position (at new (step_j old new)) old

-- what the three positions of a step are: three different ones, i the smallest, with new = old·⟨i,j,l⟩, and no other three are so
pub record IsStep (n : ℕ) (old new : Row) (i j l : ℕ) : Type 0 where
  pub three : Positions n i j l
  pub smallest : (i ≤ j) × (i ≤ l)
  pub step : new ≡ rotate old i j l
  pub only : (i' j' l' : ℕ) → Positions n i' j' l' → i' ≤ j' → i' ≤ l' → new ≡ rotate old i' j' l' → (i' ≡ i) × (j' ≡ j) × (l' ≡ l)

-- the second answer has the positions of the first the other way round: i, l, j
abbrev pub Reversed : Answer → Answer → Type 0
Reversed a b = (b.i ≡ a.i) × (b.j ≡ a.l) × (b.l ≡ a.j)

-- a refusal, or 0 for none, and zeros for the rest
abbrev pub bare : ℕ → Answer
bare r = record {
  refusal = r;
  i = 0;
  j = 0;
  l = 0;
  changed = 0;
  place = 0;
  perm = replicate 20 0;
  array = replicate 20 0;
  fixed = 0;
}

-- the three positions of a step from one row of n to the next, and, as document 02, n), has it, how many entries changed: those in which their arrays differ
abbrev pub stepped : ℕ → Row → Row → Answer
stepped n old new = record {
  refusal = 0;
  i = step_i old new;
  j = step_j old new;
  l = step_l old new;
  changed = entries_changed n old new;
  place = 0;
  perm = replicate 20 0;
  array = replicate 20 0;
  fixed = 0;
}

-- the record at another place, and the step from the row here to the row there
abbrev pub step_to : Machine → ℕ → Step
step_to m place = record { cursor = observe (moved m place); answer = stepped m.n (row_of m) (row_of (moved m place)) }

-- what show hands out: place, permutation, array, and, as document 02, e), has it, the number of fixed points of that permutation
abbrev pub shown : Machine → Answer
shown m = record {
  refusal = 0;
  i = 0;
  j = 0;
  l = 0;
  changed = 0;
  place = m.place;
  perm = padded (row_of m);
  array = padded (array_of m.n (row_of m));
  fixed = fixed (row_of m);
}

-- the answer to a call that is not refused: three positions and the entries changed for forward and back, zeros for jump
abbrev pub given : Machine → Call → Answer
given m forward = stepped m.n (row_of m) (row_of (moved m (destination m forward)))
given m back = stepped m.n (row_of m) (row_of (moved m (destination m back)))
given m (jump r) = bare 0
given m show = shown m

-- the answer to a call; on a refusal, zeros for all but its number
unfoldable pub answered : Machine → Call → Answer
answered m call = unless (refusal_of m call) (given m call) (bare (refusal_of m call))

-- the record and the answer after a call
abbrev pub turned : Machine → Call → Step
turned m call = record { cursor = observe (turn m call); answer = answered m call }

-- the records and the answers after each call of a list
unfoldable pub machine_run : Machine → List Call → List Step
machine_run m [] = []
machine_run m (call ∷ calls) = turned m call ∷ machine_run (turn m call) calls
