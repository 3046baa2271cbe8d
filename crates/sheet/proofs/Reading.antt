-- The readers of a number: the digits that a text begins with, one digit at a time, and the number with the byte that ends it. Assumes nothing.
use Prim.Native.Nat.{ℕ, zero, suc, ◌+◌, ◌-◌, ◌*◌, ◌^◌, ◌≤◌, ◌<◌}
use native.Mathlib.Nat.{pow-suc, pow-le-pow_right}
use native.Mathlib.Numerals.{add-one}
use native.Mathlib.Omega.{arith}
use mathlib.Core.Logic.{⊎_elim}
use mathlib.Core.Path.{◌≡◌, refl, sym, ap, ◌∙◌}
use mathlib.Core.Bool.{Bool, true, false, cond, not, false≢true, and-true as and_yes, and-false as and_no, and-not_self}
use mathlib.Core.List.{List, [], ◌∷◌, ◌++◌}
use lib.Dec.{eqb, lit<}
use Rattle.std.specs.Char.{is_ascii_digit}
use Rattle.std.specs.List.{take_while}
use Rattle.std.proofs.lemmas.List.{take_rest}
use Rattle.std.proofs.lemmas.List.Sums.{take_while-cons}
use lib.ListN.{length, take, drop, get_or, length-append, length-take, length-drop, drop_of_length-le, get_or-append}
use lib.Seq.{drop-cons, drop-drop, take_all, get_or-take, length-take-le}
use borrow.Author.Tests.{eqb-true, eq-eqb, not-true}
use Rattle.stirling.proofs.Refusals.{and-true, within_holds, within-true}
use Rattle.perm.specs.Lists.{same}
use Rattle.perm.proofs.Tally.{refuted}
use Rattle.sheet.specs.Text.{ZERO, is_digit, value_from}
use Rattle.sheet.specs.Asked.{leading, begins, is_filed_number, leading_zero, is_number, number_in, field}
use Rattle.sheet.specs.Form.{AllDigits}
use Rattle.sheet.specs.Found.{Found}
use Rattle.sheet.specs.declared.Grammar.{Grammar}
use Rattle.sheet.specs.declared.Grammar.TheVariants.{Current, Filed}
use Rattle.sheet.proofs.Tests.{below}

-- a digit that a text begins with is the first of its leading digits
pub leading_digit : (b : ℕ) (bs : List ℕ) → is_digit b ≡ true → leading (b ∷ bs) ≡ b ∷ leading bs
unfolding leading
leading_digit b bs e = rw e

-- a text that begins with another byte has no leading digits
pub leading_none : (b : ℕ) (bs : List ℕ) → is_digit b ≡ false → leading (b ∷ bs) ≡ []
unfolding leading
leading_none b bs e = rw e

-- and so has an empty text
leading_empty : leading [] ≡ []
unfolding leading
leading_empty = refl

-- the digits among the first bytes of a text are the first of its leading digits
pub first_leading : (n : ℕ) (text : List ℕ) → take (length (take_while is_ascii_digit (take n text))) text ≡ take n (leading text)
first_leading zero text = refl
first_leading (suc n) [] = rw leading_empty
first_leading (suc n) (b ∷ bs) = by-digit (is_digit b) refl (first_leading n bs)
  where
    next : (t : Bool) → is_digit b ≡ t → take_while is_ascii_digit (b ∷ take n bs) ≡ cond t (b ∷ take_while is_ascii_digit (take n bs)) []
    next t e = take_while-cons is_ascii_digit b (take n bs) ∙ ap (λ t. cond t (b ∷ take_while is_ascii_digit (take n bs)) []) e

    by-digit : (t : Bool) → is_digit b ≡ t → take (length (take_while is_ascii_digit (take n bs))) bs ≡ take n (leading bs)
        → take (length (take_while is_ascii_digit (take (suc n) (b ∷ bs)))) (b ∷ bs) ≡ take (suc n) (leading (b ∷ bs))
    by-digit true e h =
        ap (λ t. take (length t) (b ∷ bs)) (next true e) ∙ ap (λ t. b ∷ t) h ∙ rw (leading_digit b bs e)
    by-digit false e h = ap (λ t. take (length t) (b ∷ bs)) (next false e) ∙ rw (leading_none b bs e)

-- a number of i digits and one digit more make a number of i + 1 digits, and up to 19 digits fit 64 bits with room
pub digit_more : (i v d : ℕ) → v < 10 ^ i → d < 10 → v * 10 + d < 10 ^ (i + 1)
digit_more i v d h l = rw (add-one, pow-suc) (omega arith)

pub digit_fits : (i v : ℕ) → i < 19 → v < 10 ^ i → v * 10 + 10 ≤ 10 ^ 19
digit_fits i v l h =
    let all : 10 ^ suc i ≤ 10 ^ 19 = pow-le-pow_right (lit< tt) l in
    omega (arith, rw (pow-suc 10 i) at all)

-- one digit more, and after the last the number is written
pub value_next : (v i d : ℕ) (ds : List ℕ) → i < length ds → d ≡ get_or ds i 0 - 48 → value_from v (drop i ds) ≡ value_from (v * 10 + d) (drop (i + 1) ds)
unfolding value_from
value_next v i d ds h e = rw (drop-cons ds i 0 h, add-one i, e)

pub value_all : (v i : ℕ) (ds : List ℕ) → length ds ≤ i → value_from v (drop i ds) ≡ v
unfolding value_from
value_all v i ds h = rw (drop_of_length-le ds h)

-- a text is its leading digits and what stands after them
pub leading-split : (text : List ℕ) → text ≡ leading text ++ drop (length (leading text)) text
leading-split [] = rw leading_empty
leading-split (b ∷ bs) = by-digit (is_digit b) refl (leading-split bs)
  where
    by-digit : (t : Bool) → is_digit b ≡ t → bs ≡ leading bs ++ drop (length (leading bs)) bs
        → b ∷ bs ≡ leading (b ∷ bs) ++ drop (length (leading (b ∷ bs))) (b ∷ bs)
    by-digit true e h = rw (leading_digit b bs e) (ap (λ t. b ∷ t) h)
    by-digit false e h = rw (leading_none b bs e)

-- each leading digit is a digit
pub leading-digits : (text : List ℕ) (i : ℕ) → i < length (leading text) → is_digit (get_or (leading text) i 0) ≡ true
leading-digits [] i h = absurd (omega (arith, ap length leading_empty))
leading-digits (b ∷ bs) i h = by-digit (is_digit b) refl (leading-digits bs) i h
  where
    by-digit : (t : Bool) → is_digit b ≡ t → ((j : ℕ) → j < length (leading bs) → is_digit (get_or (leading bs) j 0) ≡ true)
        → (j : ℕ) → j < length (leading (b ∷ bs)) → is_digit (get_or (leading (b ∷ bs)) j 0) ≡ true
    by-digit true e each zero l = rw (leading_digit b bs e) e
    by-digit true e each (suc j) l = rw (leading_digit b bs e) (each j (omega (arith, ap length (leading_digit b bs e))))
    by-digit false e each j l = absurd (omega (arith, ap length (leading_none b bs e)))

-- the byte at an index below the number of leading digits is a digit
digit_at : (text : List ℕ) (i : ℕ) → i < length (leading text) → is_digit (get_or text i 0) ≡ true
digit_at text i h =
    ap (λ t. is_digit (get_or t i 0)) (leading-split text)
    ∙ ap is_digit (get_or-append (leading text) (drop (length (leading text)) text) 0 i h)
    ∙ leading-digits text i h

-- what stands after the byte at an index
drop_next : (text : List ℕ) (i b : ℕ) (rest : List ℕ) → drop i text ≡ b ∷ rest → drop (i + 1) text ≡ rest
drop_next text i b rest e = sym (drop-drop 1 i text) ∙ ap (drop 1) e

-- the first 19 of a text's leading digits are at most as many as its bytes, and digits
pub first_inside : (text : List ℕ) → length (take 19 (leading text)) ≤ length text
first_inside text =
    omega (arith, length-take 19 (leading text), ap length (leading-split text) ∙ length-append (leading text) (drop (length (leading text)) text))

pub each_first : (text : List ℕ) → AllDigits (take 19 (leading text))
each_first text i h =
    let (few, inside) : (i < 19) × (i < length (leading text)) = (omega (arith, length-take 19 (leading text)), omega (arith, length-take 19 (leading text))) in
    rw (get_or-take 19 (leading text) i 0 few) (leading-digits text i inside)

-- a text from index i on begins with a byte just where that byte is at i
begins_at : (b : ℕ) (text : List ℕ) (i : ℕ) → i < length text → get_or text i 0 ≡ b → begins b (drop i text) ≡ true
begins_at b text i h e = rw (drop-cons text i 0 h) (eq-eqb (get_or text i 0) b e)

at-begins : (b : ℕ) (text : List ℕ) (i : ℕ) → begins b (drop i text) ≡ true → (i < length text) × (get_or text i 0 ≡ b)
at-begins b text i e =
    ⊎_elim
    (λ (h : i < length text). (h, eqb-true (get_or text i 0) b (rw (drop-cons text i 0 h) at e)))
    (λ (h : length text ≤ i). absurd (false≢true (rw (drop_of_length-le text h) at e)))
    (below i (length text))

-- a number of the grammar is one of a filed sheet
pub filed_too : (g : Grammar) (ds : List ℕ) → number_in g ds ≡ true → is_filed_number ds ≡ true
filed_too Current ds e = (and-true (is_filed_number ds) (not (leading_zero ds)) e).0
filed_too Filed ds e = e

-- and one of the current grammar has no leading zero
pub number_plain : (ds : List ℕ) → is_number ds ≡ true → leading_zero ds ≡ false
number_plain ds e = not-true (leading_zero ds) (and-true (is_filed_number ds) (not (leading_zero ds)) e).1

-- where there is none, a number of a filed sheet is one of either grammar
pub plain_number : (g : Grammar) (ds : List ℕ) → is_filed_number ds ≡ true → leading_zero ds ≡ false → number_in g ds ≡ true
plain_number Current ds f z = rw (f, z)
plain_number Filed ds f z = f

-- a number has 1 to 19 digits
pub number_size : (g : Grammar) (ds : List ℕ) → number_in g ds ≡ true → (1 ≤ length ds) × (length ds ≤ 19)
number_size g ds e = within-true 1 19 (length ds) (filed_too g ds e)

-- one digit has no leading zero, and of several the first decides
pub single : (ds : List ℕ) → length ds ≡ 1 → leading_zero ds ≡ false
unfolding same
single [] h = refl
single (d ∷ []) h = rw and_yes (and-not_self (eqb d ZERO))
single (d ∷ b ∷ ds) h = absurd (omega arith)

pub several : (ds : List ℕ) → 2 ≤ length ds → leading_zero ds ≡ eqb (get_or ds 0 0) ZERO
unfolding same
several [] h = absurd (omega arith)
several (d ∷ []) h = absurd (omega arith)
several (d ∷ b ∷ ds) h = rw (and_no (eqb d ZERO)) (and_yes (eqb d ZERO))

-- one digit is a number of either grammar, and of the current grammar several that begin with 0 are none
pub one_number : (g : Grammar) (ds : List ℕ) → length ds ≡ 1 → number_in g ds ≡ true
one_number g ds h = plain_number g ds (within_holds 1 19 (length ds) (omega arith) (omega arith)) (single ds h)

pub zero_first : (ds : List ℕ) → 2 ≤ length ds → get_or ds 0 0 ≡ ZERO → is_number ds ≡ false
zero_first ds h e = rw (several ds h, e) (and_no (is_filed_number ds))

-- what a number with its end is: its digits, and the byte after them
pub record Good (g : Grammar) (end : ℕ) (text : List ℕ) : Type 0 where
  pub right : number_in g (leading text) ≡ true
  pub inside : length (leading text) < length text
  pub ended : get_or text (length (leading text)) 0 ≡ end

-- there the definition says so,
pub good_holds : (g : Grammar) (end : ℕ) (text : List ℕ) → Good g end text → (field g end text).good ≡ true
unfolding field
good_holds g end text h = rw (h.right, begins_at end text (length (leading text)) h.inside h.ended)

-- and only there
pub holds_good : (g : Grammar) (end : ℕ) (text : List ℕ) → (field g end text).good ≡ true → Good g end text
unfolding field
holds_good g end text e =
    let (r, b) = and-true (number_in g (leading text)) (begins end (drop (length (leading text)) text)) e in
    let (h, l) = at-begins end text (length (leading text)) b in
    record { right = r; inside = h; ended = l }

-- its value and what stands after it
pub field-value : (g : Grammar) (end : ℕ) (text : List ℕ) → (field g end text).value ≡ value_from 0 (leading text)
unfolding field
field-value g end text = refl

pub field_rest : (g : Grammar) (end : ℕ) (text : List ℕ) → (field g end text).rest ≡ drop (length (leading text) + 1) text
unfolding field
field_rest g end text = refl

-- the part of a text from an index on, as a slice has it
abbrev part : List ℕ → ℕ → List ℕ
part text i = take (length text - i) (drop i text)

-- the first 19 of a text's leading digits, as the reader takes them
module _ (g : Grammar) (end : ℕ) (text ds : List ℕ) (first : ds ≡ take 19 (leading text)) where
  -- where the byte that ends a number stands after them, no digit was left: they are all the digits that the text begins with
  all-taken : is_digit end ≡ false → begins end (drop (length ds) text) ≡ true → ds ≡ leading text
  all-taken d e = ⊎_elim many few (below 19 (length (leading text)))
    where
      many : 19 < length (leading text) → ds ≡ leading text
      many m =
          let size : length ds ≡ 19 = ap length first ∙ length-take-le 19 (leading text) (omega arith) in
          let digit : is_digit end ≡ true = rw (sym (at-begins end text (length ds) e).1, size) (digit_at text 19 m) in
          absurd (false≢true (sym d ∙ digit))

      few : length (leading text) ≤ 19 → ds ≡ leading text
      few m = first ∙ take_all 19 (leading text) m

  -- where they are a number, and that byte stands after them, there is such a number,
  pub number_found : is_digit end ≡ false → number_in g ds ≡ true → (byte : ℕ) (rest : List ℕ) → byte ≡ end → part text (length ds) ≡ byte ∷ rest
      → Found (field g end text) (value_from 0 ds) rest
  unfolding field
  number_found d right byte rest e split =
      let after : drop (length ds) text ≡ byte ∷ rest = sym (take_rest text (length ds)) ∙ split in
      let ended : begins end (drop (length ds) text) ≡ true = rw after (eq-eqb byte end e) in
      let all : ds ≡ leading text = all-taken d ended in
      record {
        good = rw (sym all, right, ended);
        value = rw (sym all);
        rest = rw (sym all) (drop_next text (length ds) byte rest after);
      }

  -- and elsewhere there is none
  nothing-found : (number_in g ds ≡ true → begins end (drop (length ds) text) ≡ true → ⊥) → (field g end text).good ≡ false
  unfolding field
  nothing-found none = refuted (field g end text).good (λ h. (
      let (right, ended) = and-true (number_in g (leading text)) (begins end (drop (length (leading text)) text)) h in
      let all : ds ≡ leading text = first ∙ take_all 19 (leading text) (number_size g (leading text) right).1 in
      none (rw all right) (rw all ended)
      ))

  -- nothing stands after them,
  pub no_byte : length (part text (length ds)) ≡ 0 → (field g end text).good ≡ false
  no_byte e =
      nothing-found
      (λ right ended. omega (arith, (at-begins end text (length ds) ended).0, e, length-take (length text - length ds) (drop (length ds) text), length-drop (length ds) text))

  -- or another byte,
  pub other_byte : (byte : ℕ) (rest : List ℕ) → part text (length ds) ≡ byte ∷ rest → (byte ≡ end → ⊥) → (field g end text).good ≡ false
  other_byte byte rest split other =
      let after : drop (length ds) text ≡ byte ∷ rest = sym (take_rest text (length ds)) ∙ split in
      nothing-found (λ right ended. other (eqb-true byte end (rw after at ended)))

  -- or they are no number
  pub no_number : number_in g ds ≡ false → (field g end text).good ≡ false
  no_number wrong = nothing-found (λ right ended. false≢true (sym wrong ∙ right))
