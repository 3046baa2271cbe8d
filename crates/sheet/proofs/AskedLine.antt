-- What a text asks for: its length and its header decide, and then the numbers that are found in its line, one after another. Assumes nothing.
use Prim.Native.Nat.{ℕ, ◌≤◌, ◌<◌}
use native.Mathlib.Omega.{arith}
use mathlib.Core.Path.{◌≡◌, refl, ap}
use mathlib.Core.Bool.{true, false, ◌&&◌}
use mathlib.Core.List.{List, [], ◌∷◌}
use lib.ListN.{length, take, drop}
use lib.Dec.{eqb}
use lib.Pointwise.{pointwise}
use borrow.Author.Tests.{le-leb, lt-leb}
use Rattle.perm.specs.Lists.{same}
use Rattle.perm.proofs.Same.{same_false}
use Rattle.sheet.specs.Text.{SPACE, LF, header}
use Rattle.sheet.specs.Asked.{Rows, Unreadable, field, asked_line, asked_in}
use Rattle.sheet.specs.Found.{Found}
use Rattle.sheet.specs.declared.Grammar.{Grammar}

-- the library's test of equal bytes is the definitions'
pub same_pointwise : (s t : List ℕ) → pointwise eqb s t ≡ same s t
unfolding same
same_pointwise [] [] = refl
same_pointwise [] (y ∷ t) = refl
same_pointwise (x ∷ s) [] = refl
same_pointwise (x ∷ s) (y ∷ t) = ap (λ b. eqb x y && b) (same_pointwise s t)

-- whether anything stands after a line
ended : (rest : List ℕ) → length rest ≡ 0 → same rest [] ≡ true
unfolding same
ended [] e = refl
ended (b ∷ rest) e = absurd (omega arith)

unended : (rest : List ℕ) → (length rest ≡ 0 → ⊥) → same rest [] ≡ false
unended rest h = same_false rest [] (λ e. h (ap length e))

-- no number n
pub no_first : (g : Grammar) (line : List ℕ) → (field g SPACE line).good ≡ false → Unreadable ≡ asked_line g line
unfolding asked_line
no_first g line e = rw e

-- with a number n, what is left of the line
module _ (g : Grammar) (line : List ℕ) {n : ℕ} {from-k : List ℕ} (first : Found (field g SPACE line) n from-k) where
  -- no number k
  pub no_second : (field g SPACE from-k).good ≡ false → Unreadable ≡ asked_line g line
  unfolding asked_line
  no_second e = rw (first.good, first.rest, e)

  module _ {k : ℕ} {from_place : List ℕ} (second : Found (field g SPACE from-k) k from_place) where
    -- no place
    pub no_third : (field g SPACE from_place).good ≡ false → Unreadable ≡ asked_line g line
    unfolding asked_line
    no_third e = rw (first.good, first.rest, second.good, second.rest, e)

    module _ {place : ℕ} {from-m : List ℕ} (third : Found (field g SPACE from_place) place from-m) where
      -- no number m
      pub no_fourth : (field g LF from-m).good ≡ false → Unreadable ≡ asked_line g line
      unfolding asked_line
      no_fourth e = rw (first.good, first.rest, second.good, second.rest, third.good, third.rest, e)

      module _ {m : ℕ} {rest : List ℕ} (fourth : Found (field g LF from-m) m rest) where
        -- something after the line
        pub too_long : (length rest ≡ 0 → ⊥) → Unreadable ≡ asked_line g line
        unfolding asked_line
        too_long more =
            rw (first.good, first.rest, second.good, second.rest, third.good, third.rest, fourth.good, fourth.rest, unended rest more)

        -- four numbers and nothing after
        pub four : length rest ≡ 0 → Rows n k place m ≡ asked_line g line
        unfolding asked_line
        four end =
            rw (first.good, first.rest, second.good, second.rest, third.good, third.rest, fourth.good, fourth.rest, ended rest end)
            (rw (first.value, second.value, third.value, fourth.value))

-- a text that is too long
pub asked_long : (g : Grammar) (text : List ℕ) → 4096 < length text → Unreadable ≡ asked_in g text
unfolding asked_in
asked_long g text h = rw (lt-leb (length text) 4096 h)

-- a text that does not begin with the header
pub asked_other : (g : Grammar) (text : List ℕ) → length text ≤ 4096 → same (take (length header) text) header ≡ false → Unreadable ≡ asked_in g text
unfolding asked_in
asked_other g text h e = rw (le-leb (length text) 4096 h, e)

-- the line after the header
pub line_asked : (g : Grammar) (text line : List ℕ) → length text ≤ 4096 → same (take (length header) text) header ≡ true → line ≡ drop (length header) text
    → asked_line g line ≡ asked_in g text
unfolding asked_in
line_asked g text line h e l = rw (le-leb (length text) 4096 h, e, l)
