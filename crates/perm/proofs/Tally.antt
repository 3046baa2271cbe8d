-- Laws of counting in lists and of ranges: counts of joined, mapped and reversed lists, and what a count of 0, of at least 1, of at most 1 and of all
-- says of the elements by their indices. Assumes nothing.
use mathlib.Core.Path.{◌≡◌, refl, sym, ap}
use Prim.Native.Nat.{ℕ, zero, suc, ◌+◌, ◌-◌, ◌≤◌, ◌<◌}
use native.Mathlib.Omega.{arith}
use native.Mathlib.Nat.{add-zero}
use mathlib.Core.Bool.{Bool, true, false, not}
use mathlib.Core.List.{List, [], ◌∷◌, ◌++◌, map, reverse, reverse-cons}
use lib.ListN.{length, get_or, set}
use borrow.Table.Steps.{cases}
use borrow.Author.Tests.{not-false}
use Rattle.perm.specs.Lists.{one, tally, range, positions}

-- a test that cannot pass fails
pub refuted : (b : Bool) → (b ≡ true → ⊥) → b ≡ false
refuted true h = absurd (h refl)
refuted false h = refl

-- the count in two lists joined
pub tally-append {ℓ} : {A : Type ℓ} (p : A → Bool) (s t : List A) → tally p (s ++ t) ≡ tally p s + tally p t
unfolding tally
tally-append p [] t = omega arith
tally-append p (x ∷ s) t = omega (arith, tally-append p s t)

-- in a mapped list
pub tally-map {ℓ κ} : {A : Type ℓ} {B : Type κ} (p : B → Bool) (f : A → B) (s : List A) → tally p (map f s) ≡ tally (λ x. p (f x)) s
unfolding tally
tally-map p f [] = refl
tally-map p f (x ∷ s) = ap (λ (k : ℕ). one (p (f x)) + k) (tally-map p f s)

-- and in a reversed one
pub tally-reverse {ℓ} : {A : Type ℓ} (p : A → Bool) (s : List A) → tally p (reverse s) ≡ tally p s
unfolding tally
tally-reverse p [] = refl
tally-reverse p (x ∷ s) = rw (reverse-cons x s, tally-append p (reverse s) (x ∷ [])) (omega (arith, tally-reverse p s))

-- a test that is one of two, and never both, counts as the two together
pub tally-sum {ℓ} : {A : Type ℓ} (p q r : A → Bool) (s : List A) → ((x : A) → one (p x) ≡ one (q x) + one (r x)) → tally p s ≡ tally q s + tally r s
unfolding tally
tally-sum p q r [] h = omega arith
tally-sum p q r (x ∷ s) h = omega (arith, h x, tally-sum p q r s h)

one-not : (b : Bool) → one b + one (not b) ≡ 1
one-not true = refl
one-not false = refl

-- every element passes a test or its negation
pub tally-not {ℓ} : {A : Type ℓ} (p : A → Bool) (s : List A) → tally p s + tally (λ x. not (p x)) s ≡ length s
unfolding tally
tally-not p [] = omega arith
tally-not p (x ∷ s) = omega (arith, one-not (p x), tally-not p s)

-- a range ends with its greatest number
pub range_snoc : (a n : ℕ) → range a (suc n) ≡ range a n ++ ((a + n) ∷ [])
unfolding range
range_snoc a zero = rw (add-zero a)
range_snoc a (suc n) = let e : a + suc n ≡ suc a + n = omega arith in rw e (ap (λ (l : List ℕ). a ∷ l) (range_snoc (suc a) n))

-- it has as many numbers as asked for
pub length-range : (a n : ℕ) → length (range a n) ≡ n
unfolding range
length-range a zero = refl
length-range a (suc n) = ap suc (length-range (suc a) n)

-- and a + i at index i
pub get_or-range : (a n i : ℕ) → i < n → get_or (range a n) i 0 ≡ a + i
unfolding range
get_or-range a zero i h = omega arith
get_or-range a (suc n) zero h = sym (add-zero a)
get_or-range a (suc n) (suc i) h = let k : i < n = omega arith in omega (arith, get_or-range (suc a) n i k)

-- an element of a mapped list
pub get_d_map : (f : ℕ → ℕ) (s : List ℕ) (i : ℕ) → i < length s → get_or (map f s) i 0 ≡ f (get_or s i 0)
get_d_map f [] i h = absurd (omega arith)
get_d_map f (x ∷ s) zero h = refl
get_d_map f (x ∷ s) (suc i) h = get_d_map f s i (omega arith)

-- the last position's test comes last
pub tally-positions : (p : ℕ → Bool) (n : ℕ) → tally p (positions (suc n)) ≡ tally p (positions n) + one (p (suc n))
unfolding tally
tally-positions p n =
    let e : 1 + n ≡ suc n = omega arith in
    rw (range_snoc 1 n, e) (omega (arith, tally-append p (positions n) (suc n ∷ [])))

-- tests that agree on a range count alike on it
pub tally-range_cong : (p q : ℕ → Bool) (a n : ℕ) → ((i : ℕ) → a ≤ i → i < a + n → p i ≡ q i) → tally p (range a n) ≡ tally q (range a n)
unfolding tally range
tally-range_cong p q a zero h = refl
tally-range_cong p q a (suc n) h =
    omega (arith, ap one (h a (omega arith) (omega arith)), tally-range_cong p q (suc a) n (λ i k l. h i (omega arith) (omega arith)))

-- What a count says of the elements. `d` is what `get_or` gives past the end, and is never met.
module _ {ℓ} {A : Type ℓ} (p : A → Bool) (d : A) where
  -- one element replaced: its test goes, and that of the new one comes
  pub tally-set : (s : List A) (i : ℕ) (v : A) → i < length s → tally p (set s i v) + one (p (get_or s i d)) ≡ tally p s + one (p v)
  unfolding tally
  tally-set [] i v h = absurd (omega arith)
  tally-set (x ∷ s) zero v h = omega arith
  tally-set (x ∷ s) (suc i) v h = let k : i < length s = omega arith in omega (arith, tally-set s i v k)

  -- a count of 0: no element passes
  pub none_passes : (s : List A) → tally p s ≡ 0 → (i : ℕ) → i < length s → p (get_or s i d) ≡ false
  unfolding tally
  none_passes [] e i h = absurd (omega arith)
  none_passes (x ∷ s) e zero h = refuted (p x) (λ t. omega (arith, ap one t))
  none_passes (x ∷ s) e (suc i) h = none_passes s (omega arith) i (omega arith)

  -- and the converse
  pub tally-none : (s : List A) → ((i : ℕ) → i < length s → p (get_or s i d) ≡ false) → tally p s ≡ 0
  unfolding tally
  tally-none [] h = refl
  tally-none (x ∷ s) h = omega (arith, ap one (h 0 (omega arith)), tally-none s (λ i k. h (suc i) (omega arith)))

  -- every element passes: a count of all
  pub tally-all : (s : List A) → ((i : ℕ) → i < length s → p (get_or s i d) ≡ true) → tally p s ≡ length s
  unfolding tally
  tally-all [] h = refl
  tally-all (x ∷ s) h = omega (arith, ap one (h 0 (omega arith)), tally-all s (λ i k. h (suc i) (omega arith)))

  -- a count of at least 1: some element passes
  pub some-passes : (s : List A) → 1 ≤ tally p s → (i : ℕ) × (i < length s) × (p (get_or s i d) ≡ true)
  unfolding tally
  some-passes [] h = absurd (omega arith)
  some-passes (x ∷ s) h =
      cases
      (p x)
      (λ t. (0, omega arith, t))
      (λ f. let r = some-passes s (omega (arith, ap one f)) in (suc r.0, omega arith, r.2))

  -- and the converse
  pub one_passes : (s : List A) (i : ℕ) → i < length s → p (get_or s i d) ≡ true → 1 ≤ tally p s
  unfolding tally
  one_passes [] i h e = absurd (omega arith)
  one_passes (x ∷ s) zero h e = omega (arith, ap one e)
  one_passes (x ∷ s) (suc i) h e = omega (arith, one_passes s i (omega arith) e)

  -- two elements that pass count 2
  pub two-pass : (s : List A) (i j : ℕ) → i < j → j < length s → p (get_or s i d) ≡ true → p (get_or s j d) ≡ true → 2 ≤ tally p s
  unfolding tally
  two-pass [] i j l h e f = absurd (omega arith)
  two-pass (x ∷ s) i zero l h e f = absurd (omega arith)
  two-pass (x ∷ s) zero (suc j) l h e f = omega (arith, ap one e, one_passes s j (omega arith) f)
  two-pass (x ∷ s) (suc i) (suc j) l h e f = omega (arith, two-pass s i j (omega arith) (omega arith) e f)

  -- the converse: where no two pass, the count is at most 1
  pub at_most_one : (s : List A) → ((i j : ℕ) → i < j → j < length s → p (get_or s i d) ≡ true → p (get_or s j d) ≡ true → ⊥) → tally p s ≤ 1
  unfolding tally
  at_most_one [] h = omega arith
  at_most_one (x ∷ s) h =
      cases
      (p x)
      (λ t. omega (arith, ap one t, tally-none s (λ i k. refuted (p (get_or s i d)) (h 0 (suc i) (omega arith) (omega arith) t))))
      (λ f. omega (arith, ap one f, at_most_one s (λ i j l k. h (suc i) (suc j) (omega arith) (omega arith))))

-- a count of all: every element passes
pub all_pass {ℓ} : {A : Type ℓ} (p : A → Bool) (d : A) (s : List A) → tally p s ≡ length s → (i : ℕ) → i < length s → p (get_or s i d) ≡ true
all_pass p d s e i h = not-false (p (get_or s i d)) (none_passes (λ x. not (p x)) d s (omega (arith, tally-not p s)) i h)

-- a count of 0 on a range: none of its numbers passes
pub range_none_passes : (p : ℕ → Bool) (a n : ℕ) → tally p (range a n) ≡ 0 → (i : ℕ) → a ≤ i → i < a + n → p i ≡ false
range_none_passes p a n e i h k =
    let l = length-range a n in
    let r : i - a < n = omega arith in
    let q : get_or (range a n) (i - a) 0 ≡ i = omega (arith, get_or-range a n (i - a) r) in
    rw q at (none_passes p 0 (range a n) e (i - a) (omega arith))

-- and the converse
pub range-tally_none : (p : ℕ → Bool) (a n : ℕ) → ((i : ℕ) → a ≤ i → i < a + n → p i ≡ false) → tally p (range a n) ≡ 0
range-tally_none p a n h =
    let l = length-range a n in
    tally-none p 0 (range a n) (λ i k. let r : i < n = omega arith in rw (get_or-range a n i r) (h (a + i) (omega arith) (omega arith)))
