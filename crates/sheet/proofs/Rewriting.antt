-- The rewriting of filed sheets, document 02, m): a rewritten text is read as the text was before, a sheet of the current grammar is its own rewriting, and
-- which of the old sheets the current grammar takes. Assumes nothing.
use Prim.Native.Nat.{ℕ}
use mathlib.Core.Path.{◌≡◌, refl, sym, ap, ◌∙◌}
use mathlib.Core.Bool.{Bool, true, false, cond}
use mathlib.Core.List.{List}
use Rattle.std.specs.Prelude.{Option, Some, None}
use Rattle.perm.specs.Lists.{same}
use Rattle.sheet.specs.Text.{decimal, digits}
use Rattle.sheet.specs.Asked.{Rows, Unreadable, asked_in, asked, asked_filed}
use Rattle.sheet.specs.Sheet.{refused_line, answer_to, answer}
use Rattle.sheet.specs.Rewriting.{sheet_of, rewritten_to, rewritten}
use Rattle.sheet.specs.Form.{Writes, IsSheet, Plain}
use Rattle.sheet.specs.declared.Request.{Request}
use Rattle.sheet.specs.declared.Grammar.{Grammar}
use Rattle.sheet.specs.declared.Grammar.TheVariants.{Current, Filed}
use Rattle.sheet.proofs.Reading.{filed_too, number_plain}
use Rattle.sheet.proofs.Outcome.{unreadable}
use Rattle.sheet.proofs.Numbers.{number_below, decimal_writes, number_written}
use Rattle.sheet.proofs.Reader.{four-right, four, chosen, read_by, reads, only}

-- the line that refuses a text is no sheet
refused_unreadable : (g : Grammar) → asked_in g (refused_line 11) ≡ Unreadable
unfolding asked_in same digits
refused_unreadable g = refl

-- what is written for the numbers of a sheet is a sheet of either grammar that asks for them
sheet_again : {h : Grammar} {text : List ℕ} {n k place m : ℕ} → IsSheet h text n k place m → (g : Grammar) → IsSheet g (sheet_of n k place m) n k place m
sheet_again {n = n} {k = k} {place = place} {m = m} s g = record {
  first = decimal n;
  second = decimal k;
  third = decimal place;
  fourth = decimal m;
  writes_n = decimal_writes g n (number_below s.writes_n);
  writes_k = decimal_writes g k (number_below s.writes_k);
  writes_place = decimal_writes g place (number_below s.writes_place);
  writes_m = decimal_writes g m (number_below s.writes_m);
  whole = refl;
}

-- for every text: what is written for it asks, by either grammar, for what it asked for by that of filed sheets
pub asks_alike : (g : Grammar) (text : List ℕ) → asked_in g (rewritten text) ≡ asked_filed text
unfolding rewritten_to
asks_alike g text = by-asked (asked_filed text) refl
  where
    by-asked : (asks : Option Request) → asked_filed text ≡ asks → asked_in g (rewritten_to asks) ≡ asks
    by-asked None e = refused_unreadable g
    by-asked (Some r) e = reads g (sheet_of r.n r.k r.place r.m) r.n r.k r.place r.m (sheet_again (only Filed text r.n r.k r.place r.m e) g)

-- so it is answered as the text was before
pub answers_alike : (text : List ℕ) → answer (rewritten text) ≡ answer_to (asked_filed text)
answers_alike text = ap answer_to (asks_alike Current text)

-- rewriting twice is rewriting once
pub twice : (text : List ℕ) → rewritten (rewritten text) ≡ rewritten text
twice text = ap rewritten_to (asks_alike Filed text)

-- equal bytes come from texts that ask for the same
pub equal_bytes : (text other : List ℕ) → rewritten text ≡ rewritten other → asked_filed text ≡ asked_filed other
equal_bytes text other e = sym (asks_alike Current text) ∙ ap asked e ∙ asks_alike Current other

-- a sheet is one of filed sheets too
pub filed_sheet : {g : Grammar} {text : List ℕ} {n k place m : ℕ} → IsSheet g text n k place m → IsSheet Filed text n k place m
filed_sheet {g} s = record {
  first = s.first;
  second = s.second;
  third = s.third;
  fourth = s.fourth;
  writes_n = filed-number s.writes_n;
  writes_k = filed-number s.writes_k;
  writes_place = filed-number s.writes_place;
  writes_m = filed-number s.writes_m;
  whole = s.whole;
}
  where
    filed-number : {ds : List ℕ} {x : ℕ} → Writes g ds x → Writes Filed ds x
    filed-number {ds} w = record { each = w.each; right = filed_too g ds w.right; value = w.value }

-- what the current grammar takes, that of filed sheets takes as the same
pub taken-before : (text : List ℕ) (n k place m : ℕ) → asked text ≡ Rows n k place m → asked_filed text ≡ Rows n k place m
taken-before text n k place m e = reads Filed text n k place m (filed_sheet (only Current text n k place m e))

-- and it is its own rewriting
pub own_rewriting : (text : List ℕ) (n k place m : ℕ) → asked text ≡ Rows n k place m → rewritten text ≡ text
unfolding rewritten_to
own_rewriting text n k place m e =
    let s = only Current text n k place m e in
    ap rewritten_to (taken-before text n k place m e)
    ∙ rw (number_written s.writes_n, number_written s.writes_k, number_written s.writes_place, number_written s.writes_m) (sym s.whole)

-- an old sheet none of whose numbers, other than `0`, begins with 0 is taken as it was
pub plain-taken : {text : List ℕ} {n k place m : ℕ} (s : IsSheet Filed text n k place m) → Plain s → asked text ≡ Rows n k place m
plain-taken s (a, b, c, d) =
    read_by s Current ∙ rw (s.writes_n.right, s.writes_k.right, s.writes_place.right, s.writes_m.right, a, b, c, d)

-- and no other is taken
pub taken-plain : {text : List ℕ} {n k place m : ℕ} (s : IsSheet Filed text n k place m) → asked text ≡ Rows n k place m → Plain s
taken-plain s e =
    let (right, _) = chosen (four-right Current s.first s.second s.third s.fourth) _ (sym (read_by s Current) ∙ e) in
    let (a, b, c, d) = four _ _ _ _ right in
    (number_plain s.first a, number_plain s.second b, number_plain s.third c, number_plain s.fourth d)

-- a filed sheet of which that is not true is refused 11
pub zeros_refused : {text : List ℕ} {n k place m : ℕ} (s : IsSheet Filed text n k place m) → (Plain s → ⊥) → answer text ≡ refused_line 11
zeros_refused {text} {n} {k} {place} {m} s none = sym (unreadable text (sym (by_right right refl)))
  where
    right : Bool
    right = four-right Current s.first s.second s.third s.fourth

    by_right : (b : Bool) → right ≡ b → asked text ≡ Unreadable
    by_right true e = absurd (none (taken-plain s (read_by s Current ∙ ap (λ b. cond b (Rows n k place m) Unreadable) e)))
    by_right false e = read_by s Current ∙ ap (λ b. cond b (Rows n k place m) Unreadable) e
