-- Refusals as numbers, and the order of checks: document 01's "Where each refusal is checked". These are definitions; nothing is assumed.
use Rattle.std.specs.Prelude.{ℕ, zero, suc, Bool, true, false, ◌&&◌, leb, Result, Ok, Err}
use Rattle.stirling.specs.declared.Refusal.{Refusal}
use Rattle.stirling.specs.declared.Refusal.TheVariants.{Size, Cycles, Place, Rows, Lent, Value, Twice, Record, Last, First, Text, Levels, Section, Unmet, Long, Rising}

-- a refusal's number: 1 to 11 are document 01's, 12 to 16 document 02's
abbrev pub number : Refusal → ℕ
number Size = 1
number Cycles = 2
number Place = 3
number Rows = 4
number Lent = 5
number Value = 6
number Twice = 7
number Record = 8
number Last = 9
number First = 10
number Text = 11
number Levels = 12
number Section = 13
number Unmet = 14
number Long = 15
number Rising = 16

-- the number of the refusal that a call gives, and 0, no refusal, where it gives an answer
abbrev pub refusal_in : {A : Type 0} → Result A Refusal → ℕ
refusal_in (Ok answer) = 0
refusal_in (Err refusal) = number refusal

-- a check: its number if the condition applies, and 0, no refusal, if it does not
abbrev pub refuse : Bool → ℕ → ℕ
refuse true number = number
refuse false number = 0

-- the first refusal that applies: that of the checks before, if there is one, and otherwise that of the next check
abbrev pub ◌then◌ : ℕ → ℕ → ℕ
zero then next = next
suc r then next = suc r

infixl 20 ◌then◌
-- what a call gives: the answer where nothing is refused, and otherwise what stands there on a refusal (zeros, or what was lent, as before)
abbrev pub unless {ℓ} : {A : Type ℓ} → ℕ → A → A → A
unless zero answer kept = answer
unless (suc r) answer kept = kept

-- a number from low to high, both included
abbrev pub within : ℕ → ℕ → ℕ → Bool
within low high x = leb low x && leb x high
