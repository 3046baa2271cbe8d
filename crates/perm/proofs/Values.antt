-- What a permutation's values are: within 1 to n, different at different positions, and each at some position; and the converse. One pigeonhole lemma,
-- that entries and missing values are n together, serves for all. Assumes nothing.
use mathlib.Core.Path.{◌≡◌, refl, sym, ap, ◌∙◌}
use Prim.Native.Nat.{ℕ, zero, suc, ◌+◌, ◌-◌, ◌≤◌, ◌<◌}
use native.Mathlib.Omega.{arith}
use mathlib.Core.Bool.{Bool, true, false, true≢false}
use mathlib.Core.List.{List, map}
use lib.Dec.{eqb}
use lib.ListN.{length, get_or, length-map}
use lib.Seq.{ext_get_or}
use borrow.Table.Steps.{cases}
use borrow.Author.Tests.{eqb-true, eqb-false, eq-eqb, ne_eqb}
use Rattle.stirling.specs.Refusal.{within}
use Rattle.stirling.proofs.Refusals.{within_holds, within_fails, within-true}
use Rattle.perm.specs.Lists.{one, tally, positions}
use Rattle.perm.specs.Permutation.{IsPermutation, at}
use Rattle.perm.proofs.Tally.{tally-map, tally-sum, length-range, get_d_map, get_or-range, tally-positions, tally-none, tally-all, all_pass, some-passes, two-pass, at_most_one, range_none_passes, range-tally_none}

-- a number that is not within 1 to n is within 1 to n + 1 just if it is n + 1
within_top : (n x : ℕ) → within 1 n x ≡ false → one (within 1 (suc n) x) ≡ one (eqb (suc n) x)
within_top n x out =
    cases
    (eqb (suc n) x)
    (λ t. let e = eqb-true (suc n) x t in omega (arith, ap one t, ap one (within_holds 1 (suc n) x (omega arith) (omega arith))))
    (λ f. omega (arith, ap one f, ap one (within_fails 1 (suc n) x (past (eqb-false (suc n) x f)))))
  where
    past : (suc n ≡ x → ⊥) → 1 ≤ x → x ≤ suc n → ⊥
    past d h k = true≢false (sym (within_holds 1 n x h (omega arith)) ∙ out)

-- within 1 to n + 1 is within 1 to n, or n + 1
within-suc : (n x : ℕ) → one (within 1 (suc n) x) ≡ one (within 1 n x) + one (eqb (suc n) x)
within-suc n x =
    cases
    (within 1 n x)
    (λ t. let b = within-true 1 n x t in omega (arith, ap one t, ap one (within_holds 1 (suc n) x b.0 (omega arith)), ap one (ne_eqb (suc n) x (omega arith))))
    (λ f. omega (arith, ap one f, within_top n x f))

-- no entry has value v
missing : List ℕ → ℕ → Bool
missing s v = eqb (tally (eqb v) s) 0

one_missing : (k : ℕ) → k ≤ 1 → k + one (eqb k 0) ≡ 1
one_missing zero h = refl
one_missing (suc k) h = omega (arith, ap one (ne_eqb (suc k) 0 (omega arith)))

-- The pigeonhole: where no value 1 to n occurs twice, the entries within 1 to n and the missing values are n together
pigeonhole : (s : List ℕ) (n : ℕ) → ((v : ℕ) → 1 ≤ v → v ≤ n → tally (eqb v) s ≤ 1) → tally (within 1 n) s + tally (missing s) (positions n) ≡ n
unfolding missing
pigeonhole s zero h =
    omega
    (arith, tally-none (within 1 0) 0 s (λ i k. within_fails 1 0 (get_or s i 0) (λ a b. omega arith)), range-tally_none (missing s) 1 0 (λ i a b. absurd (omega arith)))
pigeonhole s (suc n) h =
    omega (
      arith,
      tally-positions (missing s) n,
      tally-sum (within 1 (suc n)) (within 1 n) (eqb (suc n)) s (within-suc n),
      one_missing (tally (eqb (suc n)) s) (h (suc n) (omega arith) (omega arith)),
      pigeonhole s n (λ v a b. h v a (omega arith)),
    )

-- position i + 1 is index i
pub at_suc : (s : List ℕ) (i : ℕ) → at s (suc i) ≡ get_or s i 0
at_suc s i = let e : suc i - 1 ≡ i = omega arith in rw e

-- as many entries of a permutation are within 1 to m as there are such values
pub values-within : {n : ℕ} {s : List ℕ} → IsPermutation n s → (m : ℕ) → m ≤ n → tally (within 1 m) s ≡ m
unfolding missing
values-within {n} {s} p m l =
    omega (
      arith,
      pigeonhole s m (λ v h k. omega (arith, p.once v h (omega arith))),
      range-tally_none (missing s) 1 m (λ v h k. ne_eqb (tally (eqb v) s) 0 (omega (arith, p.once v h (omega arith)))),
    )

-- the value at a position is within 1 to n
pub in_range : {n : ℕ} {s : List ℕ} → IsPermutation n s → (i : ℕ) → 1 ≤ i → i ≤ n → (1 ≤ at s i) × (at s i ≤ n)
in_range {n} {s} p i h k =
    let z = p.size in
    within-true 1 n (at s i) (all_pass (within 1 n) 0 s (omega (arith, values-within p n (omega arith))) (i - 1) (omega arith))

-- a value past n stands nowhere
pub beyond : {n : ℕ} {s : List ℕ} → IsPermutation n s → (v : ℕ) → n < v → tally (eqb v) s ≡ 0
beyond {n} {s} p v h =
    let z = p.size in
    tally-none (eqb v) 0 s (λ i k. ne_eqb v (get_or s i 0) (omega (arith, at_suc s i, in_range p (suc i) (omega arith) (omega arith))))

-- no value stands at two positions
not-twice : {n : ℕ} {s : List ℕ} → IsPermutation n s → (i j : ℕ) → 1 ≤ i → i < j → j ≤ n → at s i ≡ at s j → ⊥
not-twice {n} {s} p i j h l k e =
    let z = p.size in
    let r = in_range p i h (omega arith) in
    let two = two-pass (eqb (at s i)) 0 s (i - 1) (j - 1) (omega arith) (omega arith) (eq-eqb (at s i) (at s i) refl) (eq-eqb (at s i) (at s j) e) in
    omega (arith, p.once (at s i) r.0 r.1)

-- different positions have different values
pub injective : {n : ℕ} {s : List ℕ} → IsPermutation n s → (i j : ℕ) → 1 ≤ i → i ≤ n → 1 ≤ j → j ≤ n → at s i ≡ at s j → i ≡ j
injective {n} {s} p i j hi ki hj kj e =
    let not-below : i < j → ⊥ = λ l. not-twice p i j hi l kj e in
    let not-above : j < i → ⊥ = λ l. not-twice p j i hj l ki (sym e) in
    omega arith

-- each value 1 to n stands at some position
pub onto : {n : ℕ} {s : List ℕ} → IsPermutation n s → (v : ℕ) → 1 ≤ v → v ≤ n → (i : ℕ) × (1 ≤ i) × (i ≤ n) × (at s i ≡ v)
onto {n} {s} p v h k =
    let z = p.size in
    let r = some-passes (eqb v) 0 s (omega (arith, p.once v h k)) in
    (suc r.0, omega arith, omega arith, at_suc s r.0 ∙ sym (eqb-true v (get_or s r.0 0) r.2))

-- a list of n values within 1 to n
module _ {n : ℕ} (s : List ℕ) (e : length s ≡ n) (r : (i : ℕ) → 1 ≤ i → i ≤ n → (1 ≤ at s i) × (at s i ≤ n)) where
  -- the values at positions, as entries that pass the test
  pub entries-within : (i : ℕ) → i < length s → within 1 n (get_or s i 0) ≡ true
  entries-within i k =
      let b = r (suc i) (omega arith) (omega arith) in
      within_holds 1 n (get_or s i 0) (omega (arith, at_suc s i)) (omega (arith, at_suc s i))

  -- values within 1 to n, and none of them twice, make a permutation
  pub counted : ((v : ℕ) → 1 ≤ v → v ≤ n → tally (eqb v) s ≤ 1) → IsPermutation n s
  unfolding missing
  counted h =
      let none : tally (missing s) (positions n) ≡ 0 = omega (arith, pigeonhole s n h, tally-all (within 1 n) 0 s entries-within) in
      record {
        size = e;
        once = λ v a b. omega (arith, h v a b, eqb-false (tally (eqb v) s) 0 (range_none_passes (missing s) 1 n none v a (omega arith)));
      }

-- the converse: values within 1 to n, and different at different positions, make a permutation
pub permutation : {n : ℕ} {s : List ℕ} → length s ≡ n → ((i : ℕ) → 1 ≤ i → i ≤ n → (1 ≤ at s i) × (at s i ≤ n))
    → ((i j : ℕ) → 1 ≤ i → i ≤ n → 1 ≤ j → j ≤ n → at s i ≡ at s j → i ≡ j) → IsPermutation n s
permutation {n} {s} e r d = counted s e r (λ v a b. at_most_one (eqb v) 0 s (apart v))
  where
    apart : (v i j : ℕ) → i < j → j < length s → eqb v (get_or s i 0) ≡ true → eqb v (get_or s j 0) ≡ true → ⊥
    apart v i j l k t u =
        let same : at s (suc i) ≡ at s (suc j) = omega (arith, at_suc s i, at_suc s j, eqb-true v (get_or s i 0) t, eqb-true v (get_or s j 0) u) in
        omega (arith, d (suc i) (suc j) (omega arith) (omega arith) (omega arith) (omega arith) same)

-- the value of a mapped list at a position
pub at_map : (f : ℕ → ℕ) (s : List ℕ) (i : ℕ) → 1 ≤ i → i ≤ length s → at (map f s) i ≡ f (at s i)
at_map f s i h k = get_d_map f s (i - 1) (omega arith)

-- and of the identity
pub at-positions : (n i : ℕ) → 1 ≤ i → i ≤ n → at (positions n) i ≡ i
at-positions n i h k = omega (arith, get_or-range 1 n (i - 1) (omega arith))

-- two lists of one length with the same value at each position are equal
pub same_at : (s t : List ℕ) → length s ≡ length t → ((i : ℕ) → 1 ≤ i → i ≤ length s → at s i ≡ at t i) → s ≡ t
same_at s t e h = ext_get_or 0 s t e (λ i k. sym (at_suc s i) ∙ h (suc i) (omega arith) (omega arith) ∙ at_suc t i)

-- the values at the positions 1 to n, one after another, are the list
pub map_at : {n : ℕ} (s : List ℕ) → length s ≡ n → map (at s) (positions n) ≡ s
map_at {n} s e =
    let l : length (map (at s) (positions n)) ≡ n = length-map (positions n) (at s) ∙ length-range 1 n in
    same_at (map (at s) (positions n)) s (l ∙ sym e) (λ i h k. at_map (at s) (positions n) i h (omega (arith, length-range 1 n)) ∙ ap (at s) (at-positions n i h (omega arith)))

-- so a test counts alike on the values and on the positions
pub tally_at : {n : ℕ} (p : ℕ → Bool) (s : List ℕ) → length s ≡ n → tally (λ i. p (at s i)) (positions n) ≡ tally p s
tally_at {n} p s e = sym (tally-map p (at s) (positions n)) ∙ ap (tally p) (map_at s e)
