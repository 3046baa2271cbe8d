-- What the calls `answer` and `rewrite` give, for every text and every lent slice, and what the writers inside them give. These are definitions; nothing is
-- assumed.
use Rattle.std.specs.Prelude.{◌≡◌, ℕ, ◌+◌, ◌*◌, ◌≤◌, ◌<◌, List, [], ◌∷◌, ◌++◌, length, drop, Result, Ok, Err}
use Rattle.std.proofs.lemmas.List.Edits.{sets}
use Rattle.stirling.specs.declared.Refusal.{Refusal}
use Rattle.stirling.specs.Refusal.{number}
use Rattle.gray.specs.Order.{Row}
use Rattle.sheet.specs.Text.{LF, decimal}
use Rattle.sheet.specs.Sheet.{name_line, values, lines_of, refused_line}
use Rattle.sheet.specs.declared.Request.{Request}
use Rattle.sheet.specs.declared.Writer.{Writer}

-- a slice of so many bytes suffices for the answer to any text (the law `answer_fits`, proofs/Capacity.antt): a line of names of at most
-- 5 + 20×7 + 1 bytes, and at most 1,000 rows of at most 20 + 20×3 + 1 bytes
abbrev pub CAPACITY : ℕ
CAPACITY = 146 + 1000 * 81

-- and of so many for the rewriting of any text (`rewritten_fits`, proofs/Capacity.antt): the header, and four numbers of at most 19 digits, each with its end
abbrev pub REWRITTEN_CAPACITY : ℕ
REWRITTEN_CAPACITY = 23 + 4 * 20

-- an answer at the beginning of a slice that held `before` and then holds `after`, and its length r. In a slice that is too short for some answer nothing is
-- written
pub record Answered (capacity : ℕ) (answer before : List ℕ) (r : ℕ) (after : List ℕ) : Type 0 where
  pub size : capacity ≤ length before → r ≡ length answer
  pub written : capacity ≤ length before → after ≡ answer ++ drop r before
  pub kept : length before < capacity → (r ≡ 0) × (after ≡ before)

-- there is room for `new` where a writer goes on
pub record Room (w : Writer) (new : List ℕ) : Type 0 where
  pub fits : w.at + length new ≤ length w.out.now

-- a writer w has written `new`, and is v then: it has the slice that it had, holds `new` there, and goes on after it
pub record Wrote (w : Writer) (new : List ℕ) (v : Writer) : Type 0 where
  pub same_slice : v.out.ghost_name ≡ w.out.ghost_name
  pub end : v.at ≡ w.at + length new
  pub size : length v.out.now ≡ length w.out.now
  pub bytes : v.out.now ≡ sets w.out.now w.at new

-- what is written for a text that is served, or refused
abbrev pub written_for : Result Request Refusal → List ℕ
written_for (Ok request) = name_line request.n ++ lines_of request
written_for (Err refusal) = refused_line (number refusal)

-- the line of one row: its place and its values
abbrev pub row_line : ℕ → Row → List ℕ
row_line place row = decimal place ++ (values row ++ (LF ∷ []))
