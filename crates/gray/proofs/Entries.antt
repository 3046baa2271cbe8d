-- Runs of permutations as arrays: the array of E(γ) is that of γ with n appended, of I(i,γ) with i appended. So the arrays of neighbours in S(n,k) differ in at most
-- three entries, and those of t(n,k) neighbours in exactly three. Assumes nothing.
use mathlib.Core.Path.{◌≡◌, refl, sym, ap, ◌∙◌}
use mathlib.Core.Logic.{⊎_elim}
use Prim.Native.Nat.{ℕ, zero, suc, ◌+◌, ◌-◌, ◌≤◌, ◌<◌}
use native.Mathlib.Omega.{arith}
use mathlib.Core.Bool.{Bool, true, false, not, cond}
use mathlib.Core.List.{List, [], ◌∷◌, ◌++◌}
use lib.Dec.{eqb}
use lib.ListN.{length}
use borrow.Author.Tests.{eq-eqb, ne_eqb}
use Rattle.perm.specs.Lists.{one, tally}
use Rattle.perm.specs.Permutation.{IsPermutation, extend, insert, distance}
use Rattle.perm.specs.Array.{array_of, entries_changed}
use Rattle.perm.proofs.Split.{extend_permutation, insert_permutation}
use Rattle.perm.proofs.ArrayOf.{without_extend, without_insert, array_without}
use Rattle.perm.proofs.Distance.{distance_self, distance-sym, length_last, distance_last}
use Rattle.gray.specs.Order.{Row, S, odd}
use Rattle.gray.specs.Listing.{row_at}
use Rattle.gray.specs.Threes.{pairs, threes, t}
use Rattle.gray.proofs.Run.{Kind, Run, single, more, end, run-first}
use Rattle.gray.proofs.Ends.{place, place_two, identity, first, last, last_one, Seams}
use Rattle.gray.proofs.Threes.{t_none, t_beyond}
use Rattle.gray.proofs.Induction.{run-S}
use Rattle.gray.proofs.Extent.{inside, no_cycles, each-neighbour, last-first}

-- s is a permutation of n, and p its array
record HasArray (n : ℕ) (s : Row) (p : List ℕ) : Type 0 where
  permutation : IsPermutation n s
  array : array_of n s ≡ p

-- two arrays of one length differ in d entries
record Differ (d : ℕ) (p q : List ℕ) : Type 0 where
  size : length p ≡ length q
  number : distance p q ≡ d

differ_none : (p : List ℕ) → Differ 0 p p
differ_none p = record { size = refl; number = distance_self p }

differ_back : {d : ℕ} {p q : List ℕ} → Differ d p q → Differ d q p
differ_back {p = p} {q = q} w = record { size = sym w.size; number = distance-sym q p (sym w.size) ∙ w.number }

-- an entry more on each
differ_equal : {d : ℕ} {p q : List ℕ} (x y : ℕ) → x ≡ y → Differ d p q → Differ d (p ++ (x ∷ [])) (q ++ (y ∷ []))
differ_equal {p = p} {q = q} x y e w =
    record { size = length_last p q x y w.size; number = distance_last p q x y w.size ∙ omega (arith, w.number, ap (λ b. one (not b)) (eq-eqb x y e)) }

differ_more : {d : ℕ} {p q : List ℕ} (x y : ℕ) → (x ≡ y → ⊥) → Differ d p q → Differ (suc d) (p ++ (x ∷ [])) (q ++ (y ∷ []))
differ_more {p = p} {q = q} x y e w =
    record { size = length_last p q x y w.size; number = distance_last p q x y w.size ∙ omega (arith, w.number, ap (λ b. one (not b)) (ne_eqb x y e)) }

-- a step changes at most three entries, and counts if it changes three
record Changes (c : ℕ) (p q : List ℕ) : Type 0 where
  d : ℕ
  differ : Differ d p q
  few : d ≤ 3
  count : c ≡ one (eqb d 3)

changes : {c : ℕ} {p q : List ℕ} (d : ℕ) → d ≤ 3 → c ≡ one (eqb d 3) → Differ d p q → Changes c p q
changes d h e w = record { d = d; differ = w; few = h; count = e }

has_none : HasArray 0 [] []
unfolding array_of
has_none = record { permutation = record { size = refl; once = λ v h k. absurd (omega arith) }; array = refl }

has_extend : {n : ℕ} {s : Row} {p : List ℕ} → HasArray n s p → HasArray (suc n) (extend (suc n) s) (p ++ (suc n ∷ []))
has_extend {n} r = record {
  permutation = extend_permutation r.permutation;
  array = array_without (without_extend r.permutation) ∙ ap (λ p. p ++ (suc n ∷ [])) r.array;
}

has_insert : {n : ℕ} {s : Row} {p : List ℕ} (i : ℕ) → (1 ≤ i) × (i ≤ n) → HasArray n s p → HasArray (suc n) (insert (suc n) i s) (p ++ (i ∷ []))
has_insert i h r = record {
  permutation = insert_permutation i h.0 h.1 r.permutation;
  array = array_without (without_insert i h.0 h.1 r.permutation) ∙ ap (λ p. p ++ (i ∷ [])) r.array;
}

-- the end of a row is its array
abbrev arrays : Kind
arrays = record {
  End = List ℕ;
  Has = HasArray;
  Step = λ n c p q. Changes c p q;
  none = [];
  extended = λ n p. p ++ (n ∷ []);
  inserted = λ n i p. p ++ (i ∷ []);
  has_one = λ r q. sym r.array ∙ q.array;
  has_none = has_none;
  has_extend = has_extend;
  has_insert = has_insert;
  step_back = λ st. changes st.d st.few st.count (differ_back st.differ);
  step-extend = λ st. changes st.d st.few st.count (differ_equal _ _ refl st.differ);
  step-insert = λ i h st. changes st.d st.few st.count (differ_equal i i refl st.differ);
  step-position = λ p i j h. changes 1 (omega arith) refl (differ_more i j (omega (arith, h)) (differ_none p));
  step_twice = λ f a p m h l. changes 2 (omega arith) refl (differ_more p m (omega (arith, h)) (differ_more a p (omega (arith, h)) (differ_none f)));
}

-- the arrays of the first rows of S(n,k+1) and S(n,k), n = k + d + 1: 1, 2, …, k+1, 1, …, 1 and 1, 2, …, k, 1, 1, …, 1
first_less : (k d : ℕ) → 1 ≤ k → Differ 1 (first arrays (suc k) d) (first arrays k (suc d))
unfolding identity first
first_less k zero h = differ_more (suc k) 1 (omega arith) (differ_none (identity arrays k))
first_less k (suc d) h = differ_equal 1 1 refl (first_less k d h)

-- of the last rows, n = k + d + 3: the last entry is 2, but 3 for k = 1
last_less : (k d : ℕ) → 1 ≤ k → Differ (suc (one (eqb (suc k) 2))) (last arrays (suc k) (suc (suc d))) (last arrays k (suc (suc (suc d))))
unfolding last place
last_less zero d h = absurd (omega arith)
last_less (suc zero) d h = differ_more (place 2 d) 3 (omega (arith, place_two 2 d (omega arith))) (first_less 1 (suc d) (omega arith))
last_less (suc (suc k)) d h =
    rw (ne_eqb (suc (suc (suc k))) 2 (omega arith))
    (differ_equal
    (place (suc (suc (suc k))) d)
    (2 + (2 - suc (suc k)))
    (omega (arith, place_two (suc (suc (suc k))) d (omega arith)))
    (first_less (suc (suc k)) (suc d) (omega arith)))

-- of two rows in (e), either both first or both last: one entry, and two between last rows for k = 2
either_less : (j d e : ℕ) → 1 ≤ j
    → Differ
    (suc (cond (odd e) (one (eqb (suc j) 2)) 0))
    (end e (first arrays (suc j) (suc (suc d))) (last arrays (suc j) (suc (suc d))))
    (end e (first arrays j (suc (suc (suc d)))) (last arrays j (suc (suc (suc d)))))
either_less j d e h = go (odd e)
  where
    go : (t : Bool)
        → Differ
        (suc (cond t (one (eqb (suc j) 2)) 0))
        (cond t (last arrays (suc j) (suc (suc d))) (first arrays (suc j) (suc (suc d))))
        (cond t (last arrays j (suc (suc (suc d)))) (first arrays j (suc (suc (suc d)))))
    go true = last_less j d h
    go false = first_less j (suc (suc d)) h

-- a number that is 0 either way
cond_none : (t : Bool) → ◌≡◌ {A = ℕ} (cond t 0 0) 0
cond_none true = refl
cond_none false = refl

-- k = 2 is even: so two entries differ from E to I(k,·), where both rows are last, and not from I(k+1,·) to E, where both are first
to-extend : (j : ℕ) → 1 ≤ j → cond (odd (suc j)) (one (eqb (suc j) 2)) 0 ≡ 0
unfolding odd
to-extend zero h = absurd (omega arith)
to-extend (suc zero) h = refl
to-extend (suc (suc j)) h = rw (ne_eqb (suc (suc (suc j))) 2 (omega arith)) (cond_none (odd (suc (suc (suc j)))))

from-extend : (j : ℕ) → 1 ≤ j → cond (odd (suc (suc j))) (one (eqb (suc j) 2)) 0 ≡ one (eqb (suc j) 2)
unfolding odd
from-extend zero h = absurd (omega arith)
from-extend (suc zero) h = refl
from-extend (suc (suc j)) h = rw (ne_eqb (suc (suc (suc j))) 2 (omega arith)) (cond_none (odd (suc (suc (suc (suc j))))))

-- a step that changes three entries if a test passes, and otherwise two
changes_by : (t : Bool) {p q : List ℕ} → Differ (suc (suc (one t))) p q → Changes (one t) p q
changes_by true w = changes 3 (omega arith) refl w
changes_by false w = changes 2 (omega arith) refl w

-- S(k+1,k) ends with 1, 2, …, k−1, 1, k+1, where k = j + 1 ≥ 2
last_suc : (j : ℕ) → 1 ≤ j → last arrays (suc j) 1 ≡ first arrays j 1 ++ (suc (suc j) ∷ [])
last_suc zero h = absurd (omega arith)
last_suc (suc i) h = last_one arrays i

module _ (j : ℕ) (h : 1 ≤ j) where
  -- (c), n = j + 3
  from-identity : Changes 0 (identity arrays (suc (suc j)) ++ (suc j ∷ [])) (last arrays (suc j) 1 ++ (suc (suc (suc j)) ∷ []))
  unfolding identity first
  from-identity =
      rw (last_suc j h)
      (changes 2 (omega arith) refl (differ_more (suc j) (suc (suc (suc j))) (omega arith) (differ_equal (suc (suc j)) (suc (suc j)) refl (first_less j 0 h))))

  -- (d)
  from_first : Changes 0 (first arrays (suc j) 1 ++ (suc (suc j) ∷ [])) (first arrays j 2 ++ (suc (suc (suc j)) ∷ []))
  from_first = changes 2 (omega arith) refl (differ_more (suc (suc j)) (suc (suc (suc j))) (omega arith) (first_less j 1 h))

  from_last : Changes 0 (last arrays (suc j) 1 ++ (suc (suc j) ∷ [])) (first arrays j 2 ++ (suc (suc (suc j)) ∷ []))
  unfolding first
  from_last =
      rw (last_suc j h)
      (changes 2 (omega arith) refl
      (differ_more (suc (suc j)) (suc (suc (suc j))) (omega arith) (differ_more (suc (suc j)) 1 (omega arith) (differ_none (first arrays j 1)))))

  to_last : Changes 0 (last arrays j 2 ++ (suc (suc (suc j)) ∷ [])) (last arrays (suc j) 1 ++ (2 ∷ []))
  unfolding last place
  to_last =
      rw (last_suc j h)
      (changes 2 (omega arith) refl
      (differ_more (suc (suc (suc j))) 2 (omega arith) (differ_more 2 (suc (suc j)) (omega arith) (differ_none (first arrays j 1)))))

  -- from the last row of S(n,n−1) to the first, n = j + 2
  around : Changes 0 (last arrays (suc j) 1) (first arrays (suc j) 1)
  unfolding first
  around = rw (last_suc j h) (changes 2 (omega arith) refl (differ_more (suc (suc j)) 1 (omega arith) (differ_back (first_less j 0 h))))

-- the steps between blocks
seams : Seams arrays
unfolding first
seams = record {
  c_three = changes 2 (omega arith) refl (differ_more 2 3 (omega arith) (first_less 1 0 (omega arith)));
  c_more = from-identity;
  d_first = from_first;
  d_last = from_last;
  d_back = to_last;
  e_to = λ j d n h.
      changes_by false
      (differ_more (suc (suc j)) (suc n) (omega arith)
      (rw (to-extend j h.1) at (either_less j d (suc j) h.1)));
  e_from = λ j d n h.
      changes_by (eqb (suc j) 2)
      (differ_more (suc n) (suc j) (omega arith)
      (differ_back (rw (from-extend j h.1) at (either_less j d (suc (suc j)) h.1))));
  ring_one = around;
}

-- the arrays of rows a step apart differ in at most three entries
few_changed : {n c : ℕ} {s u : Row} {p q : List ℕ} → HasArray n s p → HasArray n u q → Changes c p q → entries_changed n s u ≤ 3
few_changed r q st = rw (r.array, q.array) (omega (arith, st.differ.number, st.few))

-- and a step counts if they differ in three
three_changed : {n c : ℕ} {s u : Row} {p q : List ℕ} → HasArray n s p → HasArray n u q → Changes c p q → one (eqb (entries_changed n s u) 3) ≡ c
three_changed r q st = rw (r.array, q.array, st.differ.number) (sym st.count)

-- the neighbours in a list that begins with s, where others follow
threes_more : {n m : ℕ} {f g : List ℕ} {rows : List Row} (s : Row) → Run arrays n m f g rows
    → threes n (s ∷ rows) ≡ one (eqb (entries_changed n s (row_at rows 0)) 3) + threes n rows
unfolding threes pairs tally
threes_more s (single r q z) = refl
threes_more s (more r st xs z) = refl

-- what the steps of a run count
run_threes : {n m : ℕ} {f g : List ℕ} {rows : List Row} → Run arrays n m f g rows → threes n rows ≡ m
unfolding threes pairs tally
run_threes (single r q z) = sym z
run_threes (more {s = s} r st xs z) = threes_more s xs ∙ omega (arith, three_changed r (run-first xs) st, run_threes xs)

-- a list of one row or none has no neighbours
threes_few : (n : ℕ) (rows : List Row) → length rows ≤ 1 → threes n rows ≡ 0
unfolding threes pairs tally
threes_few n [] h = refl
threes_few n (s ∷ []) h = refl
threes_few n (s ∷ u ∷ rows) h = absurd (omega arith)

-- the arrays of neighbours in S(n,k) differ in at most three entries
pub at_most_three : (n k place : ℕ) → suc place < length (S n k) → entries_changed n (row_at (S n k) place) (row_at (S n k) (suc place)) ≤ 3
at_most_three n k = each-neighbour arrays seams (λ c s u f g r q st. few_changed r q st) k

-- those of t(n,k) neighbours in exactly three
pub exactly_three : (n k : ℕ) → threes n (S n k) ≡ t n k
exactly_three n k =
    ⊎_elim
    (λ none. threes_few n (S n k) (no_cycles n k none) ∙ sym (⊎_elim (λ e. rw e (t_none n)) (t_beyond n k) none))
    (λ some. run_threes (run-S arrays seams n k (n - k) (omega arith)))
    (inside n k)

-- and those of its last and its first row in at most three
pub ring_at_most_three : (n k : ℕ) → 2 ≤ length (S n k) → entries_changed n (row_at (S n k) (length (S n k) - 1)) (row_at (S n k) 0) ≤ 3
ring_at_most_three n k = last-first arrays seams (λ c s u f g r q st. few_changed r q st) k
