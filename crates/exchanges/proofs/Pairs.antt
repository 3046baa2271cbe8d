-- The pairs of an array one after another: what the loops that count and write them keep. Assumes nothing.
use mathlib.Core.Path.{◌≡◌, refl, sym, ap, ap₂, ◌∙◌}
use Prim.Native.Nat.{ℕ, zero, suc, ◌+◌, ◌-◌, ◌≤◌, ◌<◌}
use native.Mathlib.Numerals.{add-one, one-add}
use native.Mathlib.Nat.{add-zero, zero-add, add-suc, suc-add, le_refl}
use native.Mathlib.Omega.{arith}
use mathlib.Core.Bool.{Bool, not}
use mathlib.Core.List.{List, [], ◌∷◌, ◌++◌, append-nil}
use lib.Dec.{eqb}
use Rattle.std.specs.List.{filter, count_by, enumerate_from}
use Rattle.std.proofs.lemmas.List.Sums.{length-filter}
use lib.ListN.{length, get_or, length-append}
use borrow.Table.Steps.{cases}
use borrow.Author.Tests.{eqb-true, eqb-false, eq-eqb, ne_eqb}
use Rattle.perm.specs.Lists.{one, tally, range, positions}
use Rattle.perm.specs.Permutation.{at}
use Rattle.perm.proofs.Tally.{tally-positions, tally-not, length-range}
use Rattle.perm.proofs.Values.{at_suc}
use Rattle.perm.specs.Pairs.{Pair}
use Rattle.exchanges.specs.Pairs.{pair_at, pairs_to, pairs_of}

-- what holds of no pair where an entry is fixed, and of its pair where it is not, holds of what the entry gives
pub by_entry : (P : List Pair → Type 0) (p : List ℕ) (i : ℕ) → (at p i ≡ i → P []) → ((at p i ≡ i → ⊥) → P ((at p i, i) ∷ [])) → P (pair_at p i)
by_entry P p i fixed moved = cases (eqb (at p i) i) (λ t. rw t (fixed (eqb-true (at p i) i t))) (λ f. rw f (moved (eqb-false (at p i) i f)))

-- an entry that is not fixed gives one
pub pairs-moved : (p : List ℕ) (i : ℕ) → (get_or p i 0 ≡ i + 1 → ⊥) → pairs_to p (i + 1) ≡ pairs_to p i ++ ((get_or p i 0, i + 1) ∷ [])
unfolding pairs_to
pairs-moved p i d = rw (add-one, at_suc p i, ne_eqb (get_or p i 0) (suc i) (rw add-one at d)) refl

-- a fixed entry gives none
pub pairs-fixed : (p : List ℕ) (i : ℕ) → get_or p i 0 ≡ i + 1 → pairs_to p (i + 1) ≡ pairs_to p i
unfolding pairs_to
pairs-fixed p i e = rw (add-one, at_suc p i, eq-eqb (get_or p i 0) (suc i) (rw add-one at e)) (append-nil (pairs_to p i))

-- so there is one more for an entry that is not fixed
pub length_moved : (p : List ℕ) (i : ℕ) → (get_or p i 0 ≡ i + 1 → ⊥) → length (pairs_to p (i + 1)) ≡ length (pairs_to p i) + 1
length_moved p i d = ap length (pairs-moved p i d) ∙ length-append (pairs_to p i) ((get_or p i 0, i + 1) ∷ [])

-- in all, one for each such entry
pub length_pairs : (p : List ℕ) (m : ℕ) → length (pairs_to p m) ≡ tally (λ i. not (eqb (at p i) i)) (positions m)
unfolding pairs_to tally range
length_pairs p zero = refl
length_pairs p (suc m) =
    length-append (pairs_to p m) (pair_at p (suc m))
    ∙ ap₂ ◌+◌ (length_pairs p m) (by_entry counts p (suc m) (λ e. rw (eq-eqb (at p (suc m)) (suc m) e)) (λ d. rw (ne_eqb (at p (suc m)) (suc m) d)))
    ∙ sym (tally-positions (λ i. not (eqb (at p i) i)) m)
  where
    counts : List Pair → Type 0
    counts x = length x ≡ one (not (eqb (at p (suc m)) (suc m)))

-- the pairs and the fixed entries are as many as the entries
pub pairs_number : (p : List ℕ) (m : ℕ) → length (pairs_to p m) + tally (λ i. eqb (at p i) i) (positions m) ≡ m
pairs_number p m = omega (arith, length_pairs p m, tally-not (λ i. eqb (at p i) i) (positions m), length-range 1 m)

-- so there are no more pairs than entries
pub pairs_few : (p : List ℕ) (m : ℕ) {k : ℕ} → k ≡ length (pairs_to p m) → k ≤ m
pairs_few p m e = omega (arith, e, pairs_number p m)

-- and no fewer with more entries
pairs_more : (p : List ℕ) (m d : ℕ) → length (pairs_to p m) ≤ length (pairs_to p (m + d))
unfolding pairs_to
pairs_more p m zero = rw (add-zero m) (le_refl (length (pairs_to p m)))
pairs_more p m (suc d) =
    rw (add-suc m d)
    (omega (arith, pairs_more p m d, length-append (pairs_to p (m + d)) (pair_at p (suc (m + d)))))

-- so a pair that is still to come is one of all
pub pairs_room : (p : List ℕ) (i n : ℕ) → i < n → (get_or p i 0 ≡ i + 1 → ⊥) → length (pairs_to p i) + 1 ≤ length (pairs_to p n)
pairs_room p i n h d =
    let e : i + 1 + (n - (i + 1)) ≡ n = omega arith in
    omega (arith, length_moved p i d, pairs_more p (i + 1) (n - (i + 1)), ap (λ (m : ℕ). length (pairs_to p m)) e)

-- elements with their indices, from index k on: those that pass a test are as many as pass it at the positions that follow
passing_indexed : (p : ℕ × ℕ → Bool) (q : ℕ → Bool) (k : ℕ) (xs : List ℕ) → ((i : ℕ) → i < length xs → p (k + i, get_or xs i 0) ≡ q (suc (k + i)))
    → length (filter p (enumerate_from k xs)) ≡ tally q (range (suc k) (length xs))
unfolding tally range
passing_indexed p q k [] e = refl
passing_indexed p q k (x ∷ xs) e =
    let rest : length (filter p (enumerate_from (k + 1) xs)) ≡ tally q (range (suc (suc k)) (length xs)) =
    rw add-one (passing_indexed p q (suc k) xs (λ i h. rw suc-add (rw add-suc at (e (suc i) (omega arith))))) in
    let here : p (k, x) ≡ q (suc k) = rw add-zero at (e 0 (omega arith)) in
    cases (q (suc k)) (λ t. rw (here, t, rest, one-add) refl) (λ f. rw (here, f, rest, zero-add) refl)

-- so the entries that are not one more than their index are as many as the pairs
pub count_unfixed : (p : List ℕ) → count_by (λ x. not (eqb x.1 (x.0 + 1))) (enumerate_from 0 p) ≡ length (pairs_of p)
count_unfixed p =
    sym (length-filter (λ x. not (eqb x.1 (x.0 + 1))) (enumerate_from 0 p))
    ∙ passing_indexed _ (λ i. not (eqb (at p i) i)) 0 p (λ i h. rw (zero-add, add-one, at_suc) refl)
    ∙ sym (length_pairs p (length p))
