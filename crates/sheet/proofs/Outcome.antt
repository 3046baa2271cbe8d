-- What is written for a text, by what it asks for, and what the calls that write it give. Assumes nothing.
use Prim.Native.Nat.{ℕ, zero, suc, ◌+◌, ◌-◌, ◌≤◌, ◌<◌}
use mathlib.Core.Bool.{Bool, true, false, not, ◌||◌}
use native.Mathlib.Omega.{arith}
use mathlib.Core.Logic.{⊎_elim}
use mathlib.Core.Path.{◌≡◌, refl, sym, ap, ◌∙◌}
use mathlib.Core.List.{List, [], ◌∷◌, ◌++◌}
use lib.Dec.{leb, ltb}
use lib.ListN.{length, take, drop, get_or, length-append}
use lib.Seq.{sets-eq}
use Rattle.std.specs.Prelude.{Option, Some, None, Result, Err}
use Rattle.std.specs.Option.{ok_or}
use Rattle.stirling.specs.declared.Refusal.{Refusal}
use Rattle.stirling.specs.declared.Refusal.TheVariants.{Text}
use Rattle.stirling.specs.Refusal.{number, refuse, ◌then◌, unless, within}
use Rattle.stirling.specs.Count.{c, cycles_taken, check_size, check_cycles, check_place}
use Rattle.stirling.proofs.Refusals.{unless-refuses}
use Rattle.gray.specs.Order.{S}
use Rattle.rank.specs.Place.{check_row_count}
use Rattle.sheet.specs.Text.{SPACE, LF, refused_name, digits}
use Rattle.sheet.specs.Asked.{Rows, Unreadable, asked, asked_filed}
use Rattle.sheet.specs.Sheet.{name_line, row_lines, refused_line, answer_to, answer}
use Rattle.sheet.specs.Rewriting.{sheet_of, rewritten_to, rewritten}
use Rattle.sheet.specs.Written.{Answered, Room, Wrote}
use Rattle.sheet.specs.declared.Request.{Request}
use Rattle.sheet.specs.declared.Writer.{Writer}
use Rattle.sheet.proofs.Tests.{below}
use Rattle.sheet.proofs.Decimal.{decimal-small}

module _ (text : List ℕ) where
  -- an unreadable text
  pub unreadable : Unreadable ≡ asked text → refused_line 11 ≡ answer text
  unfolding answer_to
  unreadable e = rw (sym e)

  -- so a text that is not read
  pub not_read : (asks : Option Request) (e : Refusal) → ◌≡◌ {A = Result Request Refusal} (Err e) (ok_or asks Text) → asks ≡ asked text → refused_line (number e) ≡ answer text
  not_read None e h a =
      let is_text : e ≡ Text = cc in
      rw is_text (unreadable a)
  not_read (Some r) e h a = absurd (let z : ◌≡◌ {A = ℕ} 0 1 = cc in omega arith)

  module _ (n k place m : ℕ) (asks : Rows n k place m ≡ asked text) where
    -- numbers that are refused
    pub refused : (r : ℕ) → r ≡ check_row_count n k place m → (r ≡ 0 → ⊥) → refused_line r ≡ answer text
    unfolding answer_to
    refused r e h = rw (sym asks, sym e, unless-refuses {A = List ℕ} r _ (refused_line r) h)

    -- numbers that are not
    pub served : check_row_count n k place m ≡ 0 → name_line n ++ row_lines place (take m (drop place (S n k))) ≡ answer text
    unfolding answer_to
    served e = rw (sym asks, e)

-- the numbers of a sheet are refused at most 4,
next_few : (a : ℕ) (b : Bool) (r : ℕ) → a ≤ 4 → r ≤ 4 → (a then refuse b r) ≤ 4
next_few zero true r h l = l
next_few zero false r h l = omega arith
next_few (suc a) b r h l = h

row-count_few : (n k place m : ℕ) → check_row_count n k place m ≤ 4
row-count_few n k place m =
    let size = next_few 0 (ltb 20 n) 1 (omega arith) (omega arith) in
    let cycles = next_few (check_size n) (not (cycles_taken n k)) 2 size (omega arith) in
    let on = next_few (check_cycles n k) (leb (c n k) place) 3 cycles (omega arith) in
    next_few (check_place n k place) (not (within 1 1000 m) || ltb (c n k - place) m) 4 on (omega arith)

-- so that neither rows nor their refusal are the line with 11:
not_eleven : (n k place m r : ℕ) → r ≤ 4 → unless r (name_line n ++ row_lines place (take m (drop place (S n k)))) (refused_line r) ≡ refused_line 11 → ⊥
unfolding digits
not_eleven n k place m zero h e =
    let z : ◌≡◌ {A = ℕ} 112 114 = ap (λ t. get_or t 0 0) e in
    omega arith
not_eleven n k place m (suc r) h e =
    let z : ◌≡◌ {A = ℕ} 10 49
    = sym (ap (λ t. get_or (refused_name ++ (SPACE ∷ (t ++ (LF ∷ [])))) 9 0) (decimal-small (suc r) (omega arith))) ∙ ap (λ t. get_or t 9 0) e in
    omega arith

-- an unreadable text is refused 11, and no other
pub eleven_only : (text : List ℕ) → answer text ≡ refused_line 11 → asked text ≡ Unreadable
unfolding answer_to
eleven_only text e = by-asked (asked text) e
  where
    by-asked : (asks : Option Request) → answer_to asks ≡ refused_line 11 → asks ≡ Unreadable
    by-asked None e = refl
    by-asked (Some r) e = absurd (not_eleven r.n r.k r.place r.m (check_row_count r.n r.k r.place r.m) (row-count_few r.n r.k r.place r.m) e)

-- what is written for a filed sheet, and for any other text
module _ (text : List ℕ) where
  pub not-filed : Unreadable ≡ asked_filed text → refused_line 11 ≡ rewritten text
  unfolding rewritten_to
  not-filed e = rw (sym e)

  pub filed : (n k place m : ℕ) → Rows n k place m ≡ asked_filed text → sheet_of n k place m ≡ rewritten text
  unfolding rewritten_to
  filed n k place m e = rw (sym e)

-- an answer that fits in so many bytes, and a slice
module _ {capacity : ℕ} (answer before : List ℕ) (fits : length answer ≤ capacity) where
  -- in a slice that is long enough there is room for the answer,
  pub room : {w : Writer} {xs : List ℕ} → w.at ≡ 0 → w.out.now ≡ before → xs ≡ answer → capacity ≤ length before → Room w xs
  room z s e h = record { fits = rw (z, s, e) (omega arith) }

  -- and there it is written
  pub answered : {w v : Writer} {xs after : List ℕ} → w.at ≡ 0 → w.out.now ≡ before → xs ≡ answer → capacity ≤ length before → Wrote w xs v → after ≡ v.out.now
      → Answered capacity answer before v.at after
  answered {w} {v} {xs} z s e h p a =
      let end : v.at ≡ 0 + length xs = omega (arith, p.end) in
      record {
        size = λ _. omega (arith, ap length e);
        written = λ _. rw (sym e, a, p.bytes, end, s, z) (sets-eq xs before 0 (omega (arith, ap length e)));
        kept = λ l. absurd (omega arith);
      }

-- in a shorter slice nothing is
pub short : (capacity : ℕ) (answer before : List ℕ) → length before < capacity → Answered capacity answer before 0 before
short capacity answer before h = record { size = λ l. absurd (omega arith); written = λ l. absurd (omega arith); kept = λ _. (refl, refl) }

-- what a caller may write out lies within the slice
pub inside : (capacity : ℕ) (answer before : List ℕ) (r : ℕ) (after : List ℕ) → Answered capacity answer before r after → r ≤ length after
inside capacity answer before r after a =
    ⊎_elim
    (λ (h : length before < capacity). omega (arith, (a.kept h).0))
    (λ (h : capacity ≤ length before). omega (arith, a.size h, ap length (a.written h) ∙ length-append answer (drop r before)))
    (below (length before) capacity)
