-- Numbers as they are written and read: what is written for a number below 10^19 is a number of either grammar, and the only one of the current grammar
-- that writes it. Assumes nothing.
use Prim.Native.Nat.{ℕ, zero, suc, ◌+◌, ◌-◌, ◌*◌, ◌/◌, ◌%◌, ◌^◌, ◌≤◌, ◌<◌}
use native.Mathlib.Nat.{add-zero, pow-le-pow_right, lt_of_lt_of_le}
use native.Mathlib.Omega.{arith}
use mathlib.Core.Logic.{⊎_elim}
use mathlib.Core.Path.{◌≡◌, refl, sym, ap, ◌∙◌}
use mathlib.Core.Bool.{true, false}
use mathlib.Core.List.{List, [], ◌∷◌, ◌++◌}
use lib.Dec.{lit<, lit≤}
use lib.ListN.{length, take, get_or, length-append, get_or-append}
use lib.Seq.{take-suc, take-length, get_or-take, length-take-le, get_or-append_seam}
use borrow.Author.Tests.{eqb-false, ne_eqb}
use Rattle.stirling.proofs.Refusals.{within_holds, within-true}
use Rattle.sheet.specs.Text.{ZERO, is_digit, value_from, digits, decimal}
use Rattle.sheet.specs.Asked.{leading_zero}
use Rattle.sheet.specs.Form.{AllDigits, Writes}
use Rattle.sheet.specs.declared.Grammar.{Grammar}
use Rattle.sheet.specs.declared.Grammar.TheVariants.{Current}
use Rattle.sheet.proofs.Tests.{below}
use Rattle.sheet.proofs.Decimal.{one, last, value_last, value-decimal, no_leading_zero, length-decimal}
use Rattle.sheet.proofs.Reading.{digit_more, single, several, number_plain, plain_number, number_size}

-- i digits that wrote v, and more digits, write a number of as many digits
value-below : (ds : List ℕ) → AllDigits ds → (i v : ℕ) → v < 10 ^ i → value_from v ds < 10 ^ (i + length ds)
unfolding value_from
value-below [] each i v h = rw add-zero h
value-below (d ∷ ds) each i v h =
    let (l, u) = within-true 48 57 d (each 0 (omega arith)) in
    let e : i + suc (length ds) ≡ i + 1 + length ds = omega arith in
    rw e (value-below ds (λ j k. each (suc j) (omega arith)) (i + 1) (v * 10 + (d - 48)) (digit_more i v (d - 48) h (omega arith)))

-- a number of a sheet is below 10^19
pub number_below : {g : Grammar} {ds : List ℕ} {x : ℕ} → Writes g ds x → x < 10 ^ 19
number_below {g} {ds} w =
    let few : 0 + length ds ≤ 19 = omega (arith, number_size g ds w.right) in
    rw (← w.value) (lt_of_lt_of_le (value-below ds w.each 0 0 (lit< tt)) (pow-le-pow_right (lit< tt) few))

-- what begins with no 0 has no leading zero
other_first : (ds : List ℕ) → (get_or ds 0 0 ≡ ZERO → ⊥) → leading_zero ds ≡ false
other_first [] h = refl
other_first (d ∷ ds) h = rw (ne_eqb d ZERO h)

-- one digit after others
more_digits : (ds : List ℕ) (d : ℕ) → AllDigits ds → is_digit d ≡ true → AllDigits (ds ++ (d ∷ []))
more_digits ds d each e i h =
    ⊎_elim
    (λ (l : i < length ds). rw (get_or-append ds (d ∷ []) 0 i l) (each i l))
    (λ (l : length ds ≤ i).
    let i-is : i ≡ length ds = omega (arith, length-append ds (d ∷ [])) in
    rw (i-is, get_or-append_seam ds d [] 0) e)
    (below i (length ds))

-- the digits of a number
each_digit : (most x : ℕ) → AllDigits (digits most x)
unfolding digits
each_digit zero x = λ i h. absurd (omega arith)
each_digit (suc most) x =
    ⊎_elim
    (λ (small : x < 10). rw (one most x small) (λ i h. more_digits [] (48 + x) (λ j l. absurd (omega arith)) (within_holds 48 57 (48 + x) (omega arith) (omega arith)) i h))
    (λ (large : 10 ≤ x). rw (last most x large)
    (more_digits (digits most (x / 10)) (48 + x % 10) (each_digit most (x / 10)) (within_holds 48 57 (48 + x % 10) (omega arith) (omega arith))))
    (below x 10)

-- there is one
some_digit : (x : ℕ) → 1 ≤ length (decimal x)
some_digit x =
    ⊎_elim
    (λ (small : x < 10). rw (one 19 x small) (omega arith))
    (λ (large : 10 ≤ x). rw (last 19 x large) (simp length-append (omega arith)))
    (below x 10)

-- and no zero leads
plain-decimal : (x : ℕ) → x < 2 ^ 64 → leading_zero (decimal x) ≡ false
plain-decimal x h =
    ⊎_elim
    (λ (small : x < 10). single (decimal x) (ap length (one 19 x small)))
    (λ (large : 10 ≤ x). other_first (decimal x) (λ e. omega (arith, no_leading_zero x (omega arith) h)))
    (below x 10)

-- so what is written for a number is a number of either grammar
pub decimal_writes : (g : Grammar) (x : ℕ) → x < 10 ^ 19 → Writes g (decimal x) x
decimal_writes g x h =
    let fits : x < 2 ^ 64 = lt_of_lt_of_le h (lit≤ tt) in
    let filed = within_holds 1 19 (length (decimal x)) (some_digit x) (length-decimal x h) in
    record { each = each_digit 20 x; right = plain_number g (decimal x) filed (plain-decimal x fits); value = value-decimal x fits }

-- digits write at least what those before them wrote
value_more : (ds : List ℕ) (v : ℕ) → v ≤ value_from v ds
unfolding value_from
value_more [] v = omega arith
value_more (d ∷ ds) v = omega (arith, value_more ds (v * 10 + (d - 48)))

value_some : (ds : List ℕ) → 1 ≤ length ds → ZERO < get_or ds 0 0 → 1 ≤ value_from 0 ds
unfolding value_from
value_some [] l h = absurd (omega arith)
value_some (d ∷ ds) l h = omega (arith, value_more ds (0 * 10 + (d - 48)))

-- a list but its last, and its last
but_last : (ds : List ℕ) (i : ℕ) → length ds ≡ suc i → take i ds ++ (get_or ds i 0 ∷ []) ≡ ds
but_last ds i e = sym (take-suc ds i 0 (omega arith)) ∙ ap (λ n. take n ds) (sym e) ∙ take-length ds

-- where digits are what is written for their number, which is not 0, one digit more makes what is written for the larger number
one_more : (most : ℕ) (ds : List ℕ) (d : ℕ) → is_digit d ≡ true → 1 ≤ value_from 0 ds → digits (suc most) (value_from 0 ds) ≡ ds
    → digits (suc (suc most)) (value_from 0 (ds ++ (d ∷ []))) ≡ ds ++ (d ∷ [])
one_more most ds d e h written =
    let (l, u) = within-true 48 57 d e in
    let v = value_from 0 ds in
    let tenth : (v * 10 + (d - 48)) / 10 ≡ v = omega arith in
    let unit : 48 + (v * 10 + (d - 48)) % 10 ≡ d = omega arith in
    rw (value_last 0 ds d, last (suc most) (v * 10 + (d - 48)) (omega arith), tenth, unit, written)

-- one digit is what is written for its number
lone : (most : ℕ) (ds : List ℕ) → AllDigits ds → length ds ≡ 1 → digits (suc most) (value_from 0 ds) ≡ ds
unfolding value_from
lone most [] each h = absurd (omega arith)
lone most (d ∷ []) each h =
    let (low, high) = within-true 48 57 d (each 0 (omega arith)) in
    let back : 48 + (0 * 10 + (d - 48)) ≡ d = omega arith in
    one most (0 * 10 + (d - 48)) (omega arith) ∙ ap (λ x. x ∷ []) back
lone most (d ∷ b ∷ ds) each h = absurd (omega arith)

-- digits of which this is known, without a leading zero
Canonical : ℕ → List ℕ → Type 0
Canonical most ds = AllDigits ds → 1 ≤ length ds → length ds ≤ suc most → leading_zero ds ≡ false → digits (suc most) (value_from 0 ds) ≡ ds

-- several digits, by all but the last
longer : (most : ℕ) (ds : List ℕ) → 2 ≤ length ds → Canonical most (take (length ds - 1) ds) → Canonical (suc most) ds
unfolding Canonical
longer most ds h shorter each l u z =
    let i = length ds - 1 in
    let size : length (take i ds) ≡ i = length-take-le i ds (omega arith) in
    let first : get_or (take i ds) 0 0 ≡ get_or ds 0 0 = get_or-take i ds 0 0 (omega arith) in
    let nonzero : ZERO < get_or (take i ds) 0 0
    = omega (arith, within-true 48 57 (get_or ds 0 0) (each 0 (omega arith)), eqb-false (get_or ds 0 0) ZERO (sym (several ds h) ∙ z)) in
    let others : AllDigits (take i ds) = λ j k. rw (get_or-take i ds j 0 (omega arith)) (each j (omega arith)) in
    let written = shorter others (omega arith) (omega arith) (other_first (take i ds) (λ e. omega arith)) in
    let more = one_more most (take i ds) (get_or ds i 0) (each i (omega arith)) (value_some (take i ds) (omega arith) nonzero) written in
    rw (but_last ds i (omega arith)) at more

-- digits without a leading zero are what is written for their number
canonical : (most : ℕ) (ds : List ℕ) → Canonical most ds
unfolding Canonical
canonical zero ds each l u z = lone zero ds each (omega arith)
canonical (suc most) ds each l u z =
    ⊎_elim
    (λ (h : length ds < 2). lone (suc most) ds each (omega arith))
    (λ (h : 2 ≤ length ds). longer most ds h (canonical most (take (length ds - 1) ds)) each l u z)
    (below (length ds) 2)

-- a number of the current grammar is what is written for its number
pub number_written : {ds : List ℕ} {x : ℕ} → Writes Current ds x → decimal x ≡ ds
unfolding Canonical
number_written {ds} w =
    let (some, few) = number_size Current ds w.right in
    rw (← w.value) (canonical 19 ds w.each some (omega arith) (number_plain ds w.right))
