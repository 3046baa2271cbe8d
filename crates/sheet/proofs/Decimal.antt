-- Numbers in base ten: the last digit stands after the others, how many digits there are at most, that they write the number, and that no zero
-- leads. Assumes nothing.
use Prim.Native.Nat.{ℕ, zero, suc, ◌+◌, ◌-◌, ◌*◌, ◌/◌, ◌%◌, ◌^◌, ◌≤◌, ◌<◌}
use native.Mathlib.Nat.{div-lt_iff_lt-mul, pow-suc, lt_of_lt_of_le}
use native.Mathlib.Omega.{arith}
use mathlib.Core.Logic.{⊎_elim}
use mathlib.Core.Path.{◌≡◌, refl, sym, ap, ◌∙◌}
use mathlib.Core.List.{List, [], ◌∷◌, ◌++◌}
use lib.Dec.{lit<, lit≤}
use lib.ListN.{length, get_or, length-append, get_or-append}
use borrow.Author.Tests.{lt-ltb, le-ltb}
use Rattle.sheet.specs.Text.{value_from, digits, decimal}
use Rattle.sheet.proofs.Tests.{below}

-- a number below ten is one digit
pub one : (most x : ℕ) → x < 10 → digits (suc most) x ≡ (48 + x) ∷ []
unfolding digits
one most x h = rw (lt-ltb x 10 h)

-- the last digit of a larger number stands after the digits of its tenth part
pub last : (most x : ℕ) → 10 ≤ x → digits (suc most) x ≡ digits most (x / 10) ++ ((48 + x % 10) ∷ [])
unfolding digits
last most x h = rw (le-ltb x 10 h)

-- the tenth part of a number has one digit less
tenth : (most x : ℕ) → x < 10 ^ suc most → x / 10 < 10 ^ most
tenth most x h = (div-lt_iff_lt-mul (lit< tt)).1 (rw pow-suc at h)

-- where a number has no more digits than may be written, one more may be written
enough : (most x : ℕ) → x < 10 ^ suc most → digits (suc (suc most)) x ≡ digits (suc most) x
enough zero x h =
    let small : x < 10 = h in
    one 1 x small ∙ sym (one 0 x small)
enough (suc most) x h =
    ⊎_elim
    (λ (small : x < 10). one (suc (suc most)) x small ∙ sym (one (suc most) x small))
    (λ (large : 10 ≤ x).
    last (suc (suc most)) x large
    ∙ ap (λ ds. ds ++ ((48 + x % 10) ∷ [])) (enough most (x / 10) (tenth (suc most) x h))
    ∙ sym (last (suc most) x large))
    (below x 10)

-- a number below ten in base ten
pub decimal-small : (x : ℕ) → x < 10 → decimal x ≡ (48 + x) ∷ []
decimal-small x h = one 19 x h

-- and a larger one of 64 bits
pub decimal_large : (x : ℕ) → 10 ≤ x → x < 2 ^ 64 → decimal x ≡ decimal (x / 10) ++ ((48 + x % 10) ∷ [])
decimal_large x h l =
    last 19 x h ∙ ap (λ ds. ds ++ ((48 + x % 10) ∷ [])) (sym (enough 18 (x / 10) (tenth 19 x (lt_of_lt_of_le l (lit≤ tt)))))

-- at most so many digits are written
pub length_digits : (most x : ℕ) → length (digits most x) ≤ most
unfolding digits
length_digits zero x = omega arith
length_digits (suc most) x =
    ⊎_elim
    (λ (small : x < 10). rw (lt-ltb x 10 small) (omega arith))
    (λ (large : 10 ≤ x). rw (le-ltb x 10 large) (simp length-append (omega (arith, length_digits most (x / 10)))))
    (below x 10)

-- a number below 10^19 has at most 19
pub length-decimal : (x : ℕ) → x < 10 ^ 19 → length (decimal x) ≤ 19
length-decimal x h = rw (enough 18 x h) (length_digits 19 x)

-- a number below a hundred has at most two digits
pub length_two : (x : ℕ) → x < 100 → length (decimal x) ≤ 2
length_two x h =
    ⊎_elim
    (λ (small : x < 10). omega (arith, ap length (decimal-small x small)))
    (λ (large : 10 ≤ x). omega (
      arith,
      ap length (last 19 x large ∙ ap (λ ds. ds ++ ((48 + x % 10) ∷ [])) (one 18 (x / 10) (tenth 1 x h))),
    ))
    (below x 10)

-- one digit after others
pub value_last : (v : ℕ) (ds : List ℕ) (d : ℕ) → value_from v (ds ++ (d ∷ [])) ≡ value_from v ds * 10 + (d - 48)
unfolding value_from
value_last v [] d = refl
value_last v (b ∷ ds) d = value_last (v * 10 + (b - 48)) ds d

value-digits : (most x : ℕ) → x < 10 ^ suc most → value_from 0 (digits (suc most) x) ≡ x
unfolding value_from
value-digits zero x h =
    let small : x < 10 = h in
    rw (one 0 x small) (omega arith)
value-digits (suc most) x h =
    ⊎_elim
    (λ (small : x < 10). rw (one (suc most) x small) (omega arith))
    (λ (large : 10 ≤ x).
    rw (last (suc most) x large, value_last, value-digits most (x / 10) (tenth (suc most) x h)) (omega arith))
    (below x 10)

-- what is written for a number of 64 bits is read as that number
pub value-decimal : (x : ℕ) → x < 2 ^ 64 → value_from 0 (decimal x) ≡ x
value-decimal x h = value-digits 19 x (lt_of_lt_of_le h (lit≤ tt))

first_digit : (most x : ℕ) → 1 ≤ x → x < 10 ^ suc most → (1 ≤ length (digits (suc most) x)) × (48 < get_or (digits (suc most) x) 0 0)
first_digit zero x l h =
    let small : x < 10 = h in
    rw (one 0 x small) (omega arith, omega arith)
first_digit (suc most) x l h =
    ⊎_elim
    (λ (small : x < 10). rw (one (suc most) x small) (omega arith, omega arith))
    (λ (large : 10 ≤ x).
    let (some, first) = first_digit most (x / 10) (omega arith) (tenth (suc most) x h) in
    let ds = digits (suc most) (x / 10) in
    rw (last (suc most) x large) (omega (arith, length-append ds ((48 + x % 10) ∷ [])), rw (get_or-append ds ((48 + x % 10) ∷ []) 0 0 some) first))
    (below x 10)

-- and it begins with no zero, unless the number is 0
pub no_leading_zero : (x : ℕ) → 1 ≤ x → x < 2 ^ 64 → 48 < get_or (decimal x) 0 0
no_leading_zero x l h = (first_digit 19 x l (lt_of_lt_of_le h (lit≤ tt))).1
