-- Transposition arrays: every array gives a permutation, and every permutation has exactly one array; its fixed entries count the cycles. Assumes nothing.
use mathlib.Core.Path.{◌≡◌, refl, ◌∙◌, sym, ap, subst}
use Prim.Native.Nat.{ℕ, zero, suc, ◌+◌, ◌-◌, ◌≤◌, ◌<◌}
use native.Mathlib.Omega.{arith}
use native.Mathlib.Decide.{ℕ_discrete}
use mathlib.Core.Bool.{Bool}
use mathlib.Core.List.{List, [], ◌∷◌, ◌++◌}
use lib.Dec.{eqb}
use borrow.Author.Tests.{eq-eqb, ne_eqb}
use lib.ListN.{length, take, length-append, get_or-append}
use lib.Seq.{get_or_at, get_or-take, length-take-le, take-suc, take_all}
use Rattle.perm.specs.Lists.{one, tally, range, positions}
use Rattle.perm.specs.Permutation.{IsPermutation, at, exchange, extend, insert}
use Rattle.perm.specs.Cycle.{cycles}
use Rattle.perm.specs.Array.{IsArray, IsArrayOf, partial, product}
use Rattle.perm.proofs.Tally.{range_snoc, length-range, tally-append, tally-range_cong}
use Rattle.perm.proofs.Split.{Split, extended, inserted, split, extend_permutation, insert_permutation, extend_one, insert_one, extend-insert}
use Rattle.perm.proofs.Cycles.{cycles-extend, cycles-insert}
use Rattle.perm.proofs.Exchange.{length-exchange, exchange_same, exchange-append, exchange_top}

-- a partial product has n values
length-partial : (n : ℕ) (p : List ℕ) (m : ℕ) → length (partial n p m) ≡ n
unfolding partial
length-partial n p zero = length-range 1 n
length-partial n p (suc m) = length-exchange (at p (suc m)) (suc m) (partial n p m) ∙ length-partial n p m

-- an entry before the last
pub at_low : (p : List ℕ) (x i : ℕ) → 1 ≤ i → i ≤ length p → at (p ++ (x ∷ [])) i ≡ at p i
at_low p x i h k = get_or-append p (x ∷ []) 0 (i - 1) (omega arith)

-- the last entry
pub at_last : {n : ℕ} (p : List ℕ) (x : ℕ) → length p ≡ n → at (p ++ (x ∷ [])) (suc n) ≡ x
at_last {n} p x e =
    let y : suc n - 1 ≡ n = omega arith in
    rw (y, get_or_at p x [] 0 n)

-- the positions with the last one apart
positions_last : (n : ℕ) → positions (suc n) ≡ positions n ++ (suc n ∷ [])
positions_last n =
    let y : 1 + n ≡ suc n = omega arith in
    rw y at (range_snoc 1 n)

-- one entry more leaves the products before it, but for the last position, which keeps its value
partial-append : {n : ℕ} {p : List ℕ} (x m : ℕ) → IsArray n p → m ≤ n → partial (suc n) (p ++ (x ∷ [])) m ≡ partial n p m ++ (suc n ∷ [])
unfolding partial
partial-append {n} x zero a h = positions_last n
partial-append {n} {p} x (suc m) a h =
    let k : m ≤ n = omega arith in
    let b = a.bound (suc m) (omega arith) h in
    let l : length (partial n p m) ≡ n = length-partial n p m in
    rw (at_low p x (suc m) (omega arith) (omega (arith, a.size)), partial-append x m a k)
    (exchange-append (at p (suc m)) (suc m) (partial n p m) (suc n ∷ []) b.0 (omega arith) (omega arith) (omega arith))

-- the product is the last of the partial ones
pub product-partial : {n : ℕ} (p : List ℕ) → length p ≡ n → product p ≡ partial n p n
unfolding product
product-partial p e = rw e

-- the product has as many values as the array has entries
pub length-product : (p : List ℕ) → length (product p) ≡ length p
unfolding product
length-product p = length-partial (length p) p (length p)

-- one entry more is one exchange more, with the position last appended
product-append : {n : ℕ} {p : List ℕ} (x : ℕ) → IsArray n p → product (p ++ (x ∷ [])) ≡ exchange x (suc n) (product p ++ (suc n ∷ []))
unfolding partial
product-append {n} {p} x a =
    let l : length (p ++ (x ∷ [])) ≡ suc n = length-append p (x ∷ []) ∙ omega (arith, a.size) in
    rw (product-partial (p ++ (x ∷ [])) l, product-partial p a.size, at_last p x a.size, partial-append x n a (omega arith))

-- one entry more: E for the entry n + 1 itself
pub product-extend : {n : ℕ} {p : List ℕ} → IsArray n p → product (p ++ (suc n ∷ [])) ≡ extend (suc n) (product p)
unfolding extend
product-extend {n} a = product-append (suc n) a ∙ exchange_same (suc n) _

-- and I(i,·) for an entry i below it
pub product-insert : {n : ℕ} {p : List ℕ} (i : ℕ) → 1 ≤ i → i ≤ n → IsArray n p → product (p ++ (i ∷ [])) ≡ insert (suc n) i (product p)
unfolding insert
product-insert {n} {p} i h k a = product-append i a ∙ exchange_top i (suc n) (product p) (length-product p ∙ a.size) h k

-- how an array of n + 1 entries comes from one of n
pub data Last (n : ℕ) : List ℕ → Type 0 where
  fixed : (p : List ℕ) → IsArray n p → Last n (p ++ (suc n ∷ []))
  moved : (i : ℕ) (p : List ℕ) → 1 ≤ i → i ≤ n → IsArray n p → Last n (p ++ (i ∷ []))

-- the entries but the last
array_init : {n : ℕ} {p : List ℕ} → IsArray (suc n) p → IsArray n (take n p)
array_init {n} {p} a = record {
  size = length-take-le n p (omega (arith, a.size));
  bound = λ i h k.
      let l : i - 1 < n = omega arith in
      rw (get_or-take n p (i - 1) 0) (a.bound i h (omega arith));
}

-- the entries but the last, and the last
init_last : {n : ℕ} (p : List ℕ) → length p ≡ suc n → take n p ++ (at p (suc n) ∷ []) ≡ p
init_last {n} p e =
    let y : suc n - 1 ≡ n = omega arith in
    rw (y, ← take-suc p n 0 (omega arith)) (take_all (suc n) p (omega arith))

-- every array of n + 1 entries comes so
pub last : {n : ℕ} {p : List ℕ} → IsArray (suc n) p → Last n p
last {n} {p} a = subst (Last n) (init_last p a.size) (by_last (a.bound (suc n) (omega arith) (omega arith)) (ℕ_discrete (at p (suc n)) (suc n)))
  where
    by_last : (1 ≤ at p (suc n)) × (at p (suc n) ≤ suc n) → Dec (at p (suc n) ≡ suc n) → Last n (take n p ++ (at p (suc n) ∷ []))
    by_last h (yes e) = rw e (fixed (take n p) (array_init a))
    by_last h (no d) = moved (at p (suc n)) (take n p) h.0 (omega arith) (array_init a)

-- an array with one entry more
pub array_append : {n : ℕ} {p : List ℕ} (x : ℕ) → 1 ≤ x → x ≤ suc n → IsArray n p → IsArray (suc n) (p ++ (x ∷ []))
array_append {n} {p} x h k a = record {
  size = length-append p (x ∷ []) ∙ omega (arith, a.size);
  bound = λ i l u. by_last i l u (ℕ_discrete i (suc n));
}
  where
    by_last : (i : ℕ) → 1 ≤ i → i ≤ suc n → Dec (i ≡ suc n) → (1 ≤ at (p ++ (x ∷ [])) i) × (at (p ++ (x ∷ [])) i ≤ i)
    by_last i l u (yes e) = rw (e, at_last p x a.size) (h, k)
    by_last i l u (no d) = rw (at_low p x i l (omega (arith, a.size))) (a.bound i l (omega arith))

-- by the last entry, with the statement for n at hand; likewise below
permutation_last : {n : ℕ} {p : List ℕ} → ((q : List ℕ) → IsArray n q → IsPermutation n (product q)) → Last n p → IsPermutation (suc n) (product p)
permutation_last ih (fixed p a) = rw (product-extend a) (extend_permutation (ih p a))
permutation_last ih (moved i p h k a) = rw (product-insert i h k a) (insert_permutation i h k (ih p a))

-- an array of n entries gives a permutation of n
pub product_permutation : {n : ℕ} {p : List ℕ} → IsArray n p → IsPermutation n (product p)
product_permutation {n = zero} {p} a = record { size = length-product p ∙ a.size; once = λ v h k. absurd (omega arith) }
product_permutation {n = suc n} a = permutation_last (λ q b. product_permutation b) (last a)

-- a list of no entries
pub empty : (s : List ℕ) → length s ≡ 0 → s ≡ []
empty [] e = refl
empty (x ∷ s) e = absurd (omega arith)

-- an array of n entries whose product is s
abbrev Found : ℕ → List ℕ → Type 0
Found n s = (p : List ℕ) × IsArray n p × (product p ≡ s)

found-split : {n : ℕ} {s : List ℕ} → ((γ : List ℕ) → IsPermutation n γ → Found n γ) → Split n s → Found (suc n) s
found-split {n} ih (extended γ g) =
    let (p, a, e) = ih γ g in
    (p ++ (suc n ∷ []), array_append (suc n) (omega arith) (omega arith) a, product-extend a ∙ ap (extend (suc n)) e)
found-split {n} ih (inserted i γ h k g) =
    let (p, a, e) = ih γ g in
    (p ++ (i ∷ []), array_append i h (omega arith) a, product-insert i h k a ∙ ap (insert (suc n) i) e)

found : (n : ℕ) (s : List ℕ) → IsPermutation n s → Found n s
found zero s g = ([], record { size = refl; bound = λ i h k. absurd (omega arith) }, empty (product []) (length-product []) ∙ sym (empty s g.size))
found (suc n) s g = found-split (found n) (split g)

-- every permutation has an array
pub has_array : {n : ℕ} {s : List ℕ} → IsPermutation n s → (p : List ℕ) × IsArrayOf s p
has_array {n} {s} g =
    let (p, a, e) = found n s g in
    (p, record { array = rw g.size a; equal = e })

one_array_last : {n : ℕ} {p q : List ℕ} → ((p q : List ℕ) → IsArray n p → IsArray n q → product p ≡ product q → p ≡ q)
    → Last n p → Last n q → product p ≡ product q → p ≡ q
one_array_last {n} ih (fixed p a) (fixed q b) e =
    rw (ih p q a b (extend_one (suc n) (product p) (product q) (rw (product-extend a, product-extend b) at e)))
one_array_last ih (fixed p a) (moved j q h k b) e =
    absurd (extend-insert j h k (product_permutation a) (product_permutation b) (rw (product-extend a, product-insert j h k b) at e))
one_array_last ih (moved i p h k a) (fixed q b) e =
    absurd (extend-insert i h k (product_permutation b) (product_permutation a) (rw (product-extend b, product-insert i h k a) at (sym e)))
one_array_last {n} ih (moved i p h k a) (moved j q l u b) e =
    let (x, y) = insert_one i j h k l u (product_permutation a) (product_permutation b) (rw (product-insert i h k a, product-insert j l u b) at e) in
    rw (x, ih p q a b y)

-- and only one
pub one_array : {n : ℕ} {p q : List ℕ} → IsArray n p → IsArray n q → product p ≡ product q → p ≡ q
one_array {n = zero} {p} {q} a b e = empty p a.size ∙ sym (empty q b.size)
one_array {n = suc n} a b e = one_array_last (λ p q c d. one_array c d) (last a) (last b) e

-- entry i is i itself
abbrev fixes : List ℕ → ℕ → Bool
fixes p i = eqb (at p i) i

-- the fixed entries with one entry more
tally-fixes : {n : ℕ} {p : List ℕ} (x : ℕ) → IsArray n p → tally (fixes (p ++ (x ∷ []))) (positions (suc n)) ≡ tally (fixes p) (positions n) + one (eqb x (suc n))
unfolding tally
tally-fixes {n} {p} x a =
    let q = p ++ (x ∷ []) in
    let low = tally-range_cong (fixes q) (fixes p) 1 n (λ i h k. ap (λ v. eqb v i) (at_low p x i h (omega (arith, a.size)))) in
    rw (positions_last n, tally-append, low, at_last p x a.size) (omega arith)

cycles_last : {n : ℕ} {p : List ℕ} → ((q : List ℕ) → IsArray n q → cycles (product q) ≡ tally (fixes q) (positions n))
    → Last n p → cycles (product p) ≡ tally (fixes p) (positions (suc n))
cycles_last {n} ih (fixed p a) =
    rw (tally-fixes (suc n) a, eq-eqb (suc n) (suc n) refl, product-extend a, cycles-extend (product_permutation a), ih p a) (omega arith)
cycles_last {n} ih (moved i p h k a) =
    rw (tally-fixes i a, ne_eqb i (suc n) (omega arith), product-insert i h k a, cycles-insert i h k (product_permutation a), ih p a) (omega arith)

-- document 01: k is the number of i with pi = i
pub cycles-product : {n : ℕ} {p : List ℕ} → IsArray n p → cycles (product p) ≡ tally (λ i. eqb (at p i) i) (positions n)
unfolding cycles tally range
cycles-product {n = zero} {p} a = rw (empty (product p) (length-product p ∙ a.size))
cycles-product {n = suc n} a = cycles_last (λ q b. cycles-product b) (last a)
