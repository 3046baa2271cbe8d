-- The reader of a sheet means the form: the header, then four numbers of the grammar, single spaces between, ended by LF, nothing after. Every such text is
-- read as its four numbers, and no other text is read. Assumes nothing.
use Prim.Native.Nat.{ℕ, suc, ◌≤◌}
use native.Mathlib.Numerals.{add-one}
use native.Mathlib.Omega.{arith}
use mathlib.Core.Path.{◌≡◌, refl, sym, ap, ◌∙◌}
use mathlib.Core.Bool.{Bool, true, false, cond, ◌&&◌, and-true as and_yes}
use mathlib.Core.List.{List, [], ◌∷◌, ◌++◌}
use lib.Dec.{leb}
use lib.ListN.{length, take, drop, length-append, take-append-drop}
use lib.Seq.{drop-cons, drop-append-add, drop-append_seam}
use borrow.Author.Tests.{le-leb, eq-eqb}
use Rattle.std.specs.Prelude.{Option}
use Rattle.stirling.proofs.Refusals.{and-true}
use Rattle.perm.specs.Lists.{same}
use Rattle.perm.proofs.Same.{same_equal, same_true}
use Rattle.sheet.specs.Text.{SPACE, LF, header, is_digit, value_from}
use Rattle.sheet.specs.Asked.{Rows, Unreadable, leading, number_in, field, asked_line, asked_in}
use Rattle.sheet.specs.Rewriting.{sheet_text}
use Rattle.sheet.specs.Form.{AllDigits, Writes, IsSheet}
use Rattle.sheet.specs.declared.Request.{Request}
use Rattle.sheet.specs.declared.Grammar.{Grammar}
use Rattle.sheet.proofs.Reading.{leading_digit, leading_none, leading-split, leading-digits, number_size, holds_good, field-value, field_rest}

-- the leading digits of a text that is digits and then another byte are those digits
leading-is : (ds : List ℕ) (end : ℕ) (rest : List ℕ) → AllDigits ds → is_digit end ≡ false → leading (ds ++ (end ∷ rest)) ≡ ds
leading-is [] end rest each e = leading_none end rest e
leading-is (d ∷ ds) end rest each e =
    leading_digit d (ds ++ (end ∷ rest)) (each 0 (omega arith))
    ∙ ap (λ t. d ∷ t) (leading-is ds end rest (λ i h. each (suc i) (omega arith)) e)

-- digits, the byte that ends them, and what stands after it
module _ (g : Grammar) (ds : List ℕ) (end : ℕ) (rest : List ℕ) (each : AllDigits ds) (e : is_digit end ≡ false) where
  digits_are : leading (ds ++ (end ∷ rest)) ≡ ds
  digits_are = leading-is ds end rest each e

  -- whether they are a number is all that is asked
  good-is : (field g end (ds ++ (end ∷ rest))).good ≡ number_in g ds
  unfolding field
  good-is = rw (digits_are, drop-append_seam ds (end ∷ rest), eq-eqb end end refl) (and_yes (number_in g ds))

  value-is : (field g end (ds ++ (end ∷ rest))).value ≡ value_from 0 ds
  value-is = field-value g end (ds ++ (end ∷ rest)) ∙ ap (value_from 0) digits_are

  rest-is : (field g end (ds ++ (end ∷ rest))).rest ≡ rest
  rest-is = field_rest g end (ds ++ (end ∷ rest)) ∙ rw digits_are (drop-append-add ds (end ∷ rest) 1)

-- four texts of digits, and whether they are numbers of the grammar
module _ (g : Grammar) (a b c d : List ℕ) where
  abbrev pub four-right : Bool
  four-right = number_in g a && number_in g b && number_in g c && number_in g d

  -- the line with these texts asks for what they write, where all of them are numbers
  module _ (each-a : AllDigits a) (each-b : AllDigits b) (each-c : AllDigits c) (each-d : AllDigits d) where
    line_reads : asked_line g (a ++ (SPACE ∷ (b ++ (SPACE ∷ (c ++ (SPACE ∷ (d ++ (LF ∷ []))))))))
        ≡ cond four-right (Rows (value_from 0 a) (value_from 0 b) (value_from 0 c) (value_from 0 d)) Unreadable
    unfolding asked_line same
    line_reads =
        let from-d = d ++ (LF ∷ []) in
        let from-c = c ++ (SPACE ∷ from-d) in
        let from-b = b ++ (SPACE ∷ from-c) in
        rw (
          good-is g a SPACE from-b each-a refl,
          value-is g a SPACE from-b each-a refl,
          rest-is g a SPACE from-b each-a refl,
          good-is g b SPACE from-c each-b refl,
          value-is g b SPACE from-c each-b refl,
          rest-is g b SPACE from-c each-b refl,
          good-is g c SPACE from-d each-c refl,
          value-is g c SPACE from-d each-c refl,
          rest-is g c SPACE from-d each-c refl,
          good-is g d LF [] each-d refl,
          value-is g d LF [] each-d refl,
          rest-is g d LF [] each-d refl,
          and_yes (number_in g a && number_in g b && number_in g c && number_in g d),
        )

    text-reads : length (sheet_text a b c d) ≤ 4096 → asked_in g (sheet_text a b c d)
        ≡ cond four-right (Rows (value_from 0 a) (value_from 0 b) (value_from 0 c) (value_from 0 d)) Unreadable
    unfolding asked_in
    text-reads h = rw (le-leb (length (sheet_text a b c d)) 4096 h, same_equal header header refl) line_reads

-- four tests that all pass
pub four : (a b c d : Bool) → a && b && c && d ≡ true → (a ≡ true) × (b ≡ true) × (c ≡ true) × (d ≡ true)
four a b c d h =
    let (three, d-true) = and-true (a && b && c) d h in
    let (two, c-true) = and-true (a && b) c three in
    let (a-true, b-true) = and-true a b two in
    (a-true, b-true, c-true, d-true)

-- what asks for rows is not unreadable
pub rows_read_lem : {n k place m : ℕ} → Unreadable ≡ Rows n k place m → ⊥
rows_read_lem e =
    let z : ◌≡◌ {A = ℕ} 0 1 = cc in
    omega arith

-- a choice that gives rows
pub chosen : (b : Bool) (x : Option Request) {n k place m : ℕ} → cond b x Unreadable ≡ Rows n k place m → (b ≡ true) × (x ≡ Rows n k place m)
chosen true x e = (refl, e)
chosen false x e = absurd (rows_read_lem e)

-- and these are their numbers
pub numbers : {n k place m n' k' place' m' : ℕ} → Rows n k place m ≡ Rows n' k' place' m' → (n ≡ n') × (k ≡ k') × (place ≡ place') × (m ≡ m')
numbers {n} {k} {place} {m} {n'} {k'} {place'} {m'} e =
    let same : ◌≡◌ {A = Request} (record { n = n; k = k; place = place; m = m }) (record { n = n'; k = k'; place = place'; m = m' }) = cc in
    (ap (λ (r : Request). r.n) same, ap (λ (r : Request). r.k) same, ap (λ (r : Request). r.place) same, ap (λ (r : Request). r.m) same)

-- a sheet of one grammar, read by another: whether its numbers are of that grammar is all that is asked
module _ {h : Grammar} {text : List ℕ} {n k place m : ℕ} (s : IsSheet h text n k place m) where
  sheet-short : length (sheet_text s.first s.second s.third s.fourth) ≤ 4096
  sheet-short =
      simp length-append
      (omega (
        arith,
        number_size h s.first s.writes_n.right,
        number_size h s.second s.writes_k.right,
        number_size h s.third s.writes_place.right,
        number_size h s.fourth s.writes_m.right,
      ))

  pub read_by : (g : Grammar) → asked_in g text ≡ cond (four-right g s.first s.second s.third s.fourth) (Rows n k place m) Unreadable
  read_by g =
      let (a, b, c, d) : List ℕ × List ℕ × List ℕ × List ℕ = (s.first, s.second, s.third, s.fourth) in
      let rows : Rows (value_from 0 a) (value_from 0 b) (value_from 0 c) (value_from 0 d) ≡ Rows n k place m
      = rw (s.writes_n.value, s.writes_k.value, s.writes_place.value, s.writes_m.value) in
      ap (asked_in g) s.whole
      ∙ text-reads g a b c d s.writes_n.each s.writes_k.each s.writes_place.each s.writes_m.each sheet-short
      ∙ ap (λ x. cond (four-right g a b c d) x Unreadable) rows

-- every text of the form is read as its four numbers
pub reads : (g : Grammar) (text : List ℕ) (n k place m : ℕ) → IsSheet g text n k place m → asked_in g text ≡ Rows n k place m
reads g text n k place m s = read_by s g ∙ rw (s.writes_n.right, s.writes_k.right, s.writes_place.right, s.writes_m.right)

-- a text with a number that is ended is that number, its end and what stands after
module _ (g : Grammar) (end : ℕ) (text : List ℕ) (good : (field g end text).good ≡ true) where
  writes : {x : ℕ} → (field g end text).value ≡ x → Writes g (leading text) x
  writes e = record { each = leading-digits text; right = (holds_good g end text good).right; value = sym (field-value g end text) ∙ e }

  parts : {rest : List ℕ} → (field g end text).rest ≡ rest → text ≡ leading text ++ (end ∷ rest)
  parts {rest} e =
      let h = holds_good g end text good in
      let size = length (leading text) in
      let tail : drop size text ≡ end ∷ rest = drop-cons text size 0 h.inside ∙ rw (h.ended, ← e, field_rest, add-one size) in
      leading-split text ∙ ap (λ t. leading text ++ t) tail

-- no other text is read
pub only : (g : Grammar) (text : List ℕ) (n k place m : ℕ) → asked_in g text ≡ Rows n k place m → IsSheet g text n k place m
unfolding asked_in asked_line
only g text n k place m e =
    let line = drop (length header) text in
    let a = field g SPACE line in
    let b = field g SPACE a.rest in
    let c = field g SPACE b.rest in
    let d = field g LF c.rest in
    let (begun, asks) = chosen (leb (length text) 4096 && same (take (length header) text) header) (asked_line g line) e in
    let (tests, values) = chosen (a.good && b.good && c.good && d.good && same d.rest []) (Rows a.value b.value c.value d.value) asks in
    let (goods, ended) = and-true (a.good && b.good && c.good && d.good) (same d.rest []) tests in
    let (a-good, b-good, c-good, d-good) = four a.good b.good c.good d.good goods in
    let begins : take (length header) text ≡ header = same_true (take (length header) text) header (and-true (leb (length text) 4096) _ begun).1 in
    let end : d.rest ≡ [] = same_true d.rest [] ended in
    let (n-is, k-is, place-is, m-is) = numbers values in
    record {
      first = leading line;
      second = leading a.rest;
      third = leading b.rest;
      fourth = leading c.rest;
      writes_n = writes g SPACE line a-good n-is;
      writes_k = writes g SPACE a.rest b-good k-is;
      writes_place = writes g SPACE b.rest c-good place-is;
      writes_m = writes g LF c.rest d-good m-is;
      whole =
          sym (take-append-drop (length header) text)
          ∙ ap (λ t. t ++ line) begins
          ∙ ap
          (λ t. header ++ t)
          (parts g SPACE line a-good (parts g SPACE a.rest b-good (parts g SPACE b.rest c-good (parts g LF c.rest d-good end))));
    }
