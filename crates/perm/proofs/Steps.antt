-- One step of each way between a permutation and its array, as the code makes it on a slice: what is done so far is one record. Assumes nothing.
use Prim.Native.Nat.{ℕ, suc, ◌+◌, ◌-◌, ◌≤◌, ◌<◌}
use native.Mathlib.Omega.{arith}
use native.Mathlib.Numerals.{add-one}
use native.Mathlib.Decide.{dec_le}
use mathlib.Core.Path.{◌≡◌, refl, sym, ap, ◌∙◌}
use mathlib.Core.List.{List, [], ◌∷◌, ◌++◌, append_assoc, append-nil}
use borrow.Table.Steps.{cases}
use borrow.Author.Tests.{eqb-true, eqb-false}
use lib.Dec.{eqb}
use lib.ListN.{length, get_or, take, drop, set, replicate, length-set, get_or-append}
use lib.Seq.{take-length, drop-length, take-set-le, take-set-lt, take-take, drop-set-lt, drop-cons, get_or-set_same, get_or-set_other, get_or-take, length-take-le, set-get_or, set-set, set-append_left, get_or_at, take_at, take-suc, take-suc-set, take_all}
use Rattle.perm.specs.Lists.{range}
use Rattle.perm.specs.Permutation.{IsPermutation, extend, insert}
use Rattle.perm.specs.Array.{IsArray, IsArrayOf, product, partial}
use Rattle.perm.proofs.Values.{in_range, injective, onto, at_suc}
use Rattle.perm.proofs.Split.{Split, extended, inserted, split}
use Rattle.perm.proofs.Arrays.{product-extend, product-insert, array_append}

-- two indices of a permutation with one value are one
same_index : {n : ℕ} {s : List ℕ} → IsPermutation n s → (i j : ℕ) → i < n → j < n → get_or s i 0 ≡ get_or s j 0 → i ≡ j
same_index {s = s} p i j hi hj e =
    let f = injective p (suc i) (suc j) (omega arith) (omega arith) (omega arith) (omega arith) (at_suc s i ∙ e ∙ sym (at_suc s j)) in
    omega arith

-- the value at an index is 1 to n
pub value_bound : {n : ℕ} {s : List ℕ} → IsPermutation n s → (i : ℕ) → i < n → (1 ≤ get_or s i 0) × (get_or s i 0 ≤ n)
value_bound {s = s} p i h = rw at_suc at (in_range p (suc i) (omega arith) h)

-- the entry at index m
pub entry_bound : {a : List ℕ} → IsArray (length a) a → (m : ℕ) → m < length a → (1 ≤ get_or a m 0) × (get_or a m 0 ≤ suc m)
entry_bound {a = a} i m h = rw at_suc at (i.bound (suc m) (omega arith) h)

-- the first entries of an array
array_take : {n : ℕ} {p : List ℕ} (m : ℕ) → m ≤ n → IsArray n p → IsArray m (take m p)
array_take {n = n} {p = p} m h a =
    record {
      size = length-take-le m p (omega (arith, a.size));
      bound = λ i hi ki. rw (get_or-take m p (i - 1) 0 (omega arith)) (a.bound i hi (omega arith));
    }

-- what a permutation w of m + 1 comes from, by the last entry x of its array
abbrev Peeled : ℕ → List ℕ → ℕ → List ℕ → Type 0
Peeled m w x γ = IsPermutation m γ × ((p : List ℕ) → IsArrayOf γ p → IsArrayOf w (p ++ (x ∷ [])))

-- so it is where the product with the entry x added is w
peeled : {m : ℕ} {γ w : List ℕ} (x : ℕ) → 1 ≤ x → x ≤ suc m → IsPermutation (suc m) w → IsPermutation m γ
    → ((p : List ℕ) → IsArray m p → product p ≡ γ → product (p ++ (x ∷ [])) ≡ w) → Peeled m w x γ
peeled x h k p q f =
    (q, λ r a. let b = rw q.size at a.array in record { array = rw p.size (array_append x h k b); equal = f r b a.equal })

-- the value m + 1 of E(γ) or I(i,γ) stands at index j: with the last value put there, the first m are γ
extend_back : {m : ℕ} {γ : List ℕ} (j : ℕ) → j ≤ m → get_or (extend (suc m) γ) j 0 ≡ suc m → IsPermutation (suc m) (extend (suc m) γ) → IsPermutation m γ
    → (j ≡ m) × (take m (set (extend (suc m) γ) j (get_or (extend (suc m) γ) m 0)) ≡ γ)
unfolding extend
extend_back {m = m} {γ = γ} j h e p q =
    let f : j ≡ m = same_index p j m (omega arith) (omega arith) (e ∙ sym (get_or_at γ (suc m) [] 0 m q.size)) in
    (f, rw (f, set-get_or) (take_at γ (suc m ∷ []) m q.size))

insert_back : {m : ℕ} {γ : List ℕ} (i j : ℕ) → 1 ≤ i → i ≤ m → j ≤ m → get_or (insert (suc m) i γ) j 0 ≡ suc m → IsPermutation (suc m) (insert (suc m) i γ)
    → IsPermutation m γ → (suc j ≡ i) × (take m (set (insert (suc m) i γ) j (get_or (insert (suc m) i γ) m 0)) ≡ γ)
unfolding insert
insert_back {m = m} {γ = γ} i j hi ki h e p q =
    let k = i - 1 in
    let x = get_or γ k 0 in
    let w = set γ k (suc m) in
    let d : length w ≡ m = length-set γ k (suc m) ∙ q.size in
    let there = get_or-append w (x ∷ []) 0 k (omega arith) ∙ get_or-set_same γ k (suc m) 0 (omega (arith, q.size)) in
    let f : j ≡ k = same_index p j k (omega arith) (omega arith) (e ∙ sym there) in
    let g = set-append_left w (x ∷ []) k x (omega arith) in
    (omega arith, rw (f, get_or_at w x [] 0 m d, g, set-set γ k (suc m) x, set-get_or γ k 0) (take_at γ (x ∷ []) m q.size))

-- so a permutation of m + 1 whose value m + 1 stands at index j comes from that one, and the last entry of its array is j + 1
peel : {m : ℕ} {w : List ℕ} (j : ℕ) → j ≤ m → get_or w j 0 ≡ suc m → IsPermutation (suc m) w → Split m w → Peeled m w (suc j) (take m (set w j (get_or w m 0)))
peel j h e p (extended γ q) =
    let b = extend_back j h e p q in
    rw (b.1, b.0) (peeled _ (omega arith) (omega arith) p q (λ r a i. product-extend a ∙ rw i))
peel j h e p (inserted i γ hi ki q) =
    let b = insert_back i j hi ki h e p q in
    rw (b.1, b.0) (peeled i hi (omega arith) p q (λ r a e'. product-insert i hi ki a ∙ rw e'))

-- from a permutation s to its array, from the last entry down: `out` holds what is left to be done, a permutation of m, and the entries of s after the m-th
pub record Left (s out : List ℕ) (m : ℕ) : Type 0 where
  pub size : length out ≡ length s
  pub bound : m ≤ length out
  pub rest : IsPermutation m (take m out)
  pub entries : (p : List ℕ) → IsArrayOf (take m out) p → IsArrayOf s (p ++ drop m out)

-- at first all of s is left
pub left_all : {s : List ℕ} → IsPermutation (length s) s → Left s s (length s)
left_all p =
    record {
      size = refl;
      bound = omega arith;
      rest = rw take-length p;
      entries = λ q a. rw (drop-length, append-nil) (rw take-length at a);
    }

-- the slice after a step: index j gets the last value that is left, whose place gets entry j + 1
abbrev moved : List ℕ → ℕ → ℕ → List ℕ
moved out m j = set (set out j (get_or out m 0)) m (suc j)

-- its first m are those of the permutation that `peel` gives
moved_front : (out : List ℕ) (m j : ℕ) → j ≤ m → take m (set (take (suc m) out) j (get_or (take (suc m) out) m 0)) ≡ take m (moved out m j)
moved_front out m j h =
    let y = get_or out m 0 in
    rw (get_or-take (suc m) out m 0 (omega arith), ← take-set-lt (suc m) out j y (omega arith), take-take m (suc m) (set out j y) (omega arith))
    (sym (take-set-le m (set out j y) m (suc j) (omega arith)))

-- the new entry stands before the entries so far
moved_back : (out : List ℕ) (m j : ℕ) → j ≤ m → m < length out → drop m (moved out m j) ≡ suc j ∷ drop (suc m) out
moved_back out m j h k =
    let w = set out j (get_or out m 0) in
    let l : m < length w = simp length-set k in
    drop-cons (moved out m j) m 0 (simp length-set k)
    ∙ rw (get_or-set_same w m (suc j) 0 l, drop-set-lt (suc m) w m (suc j) (omega arith), drop-set-lt (suc m) out j (get_or out m 0) (omega arith))

-- one value less is left
step : {s out : List ℕ} (m j : ℕ) → Left s out (suc m) → j ≤ m → get_or out j 0 ≡ suc m → Left s (moved out m j) m
step {s = s} {out = out} m j l h e =
    let k = peel j h (get_or-take (suc m) out j 0 (omega arith) ∙ e) l.rest (split l.rest) in
    let f = moved_front out m j h in
    let g = moved_back out m j h l.bound in
    record {
      size = simp length-set l.size;
      bound = simp length-set (omega (arith, l.bound));
      rest = rw (← f) k.0;
      entries = λ p a. rw (g, ← append_assoc p (suc j ∷ []) (drop (suc m) out)) (l.entries (p ++ (suc j ∷ [])) (k.1 p (rw f a)));
    }

-- the same in the code's terms
pub left_step : {s out : List ℕ} (m j : ℕ) → Left s out m → j < m → get_or out j 0 ≡ m → Left s (set (set out j (get_or out (m - 1) 0)) (m - 1) (j + 1)) (m - 1)
left_step m j l h e = let k : m ≡ suc (m - 1) = omega arith in rw add-one (step (m - 1) j (rw k at l) (omega arith) (e ∙ k))

-- at last nothing is left
pub left_none : {s out : List ℕ} → Left s out 0 → IsArrayOf s out
unfolding product partial range
left_none l = l.entries [] (record { array = record { size = refl; bound = λ i h k. omega arith }; equal = refl })

-- what the way to the array looks up: the index of each of the first m values, by the value
pub record Indexed (s index : List ℕ) (m : ℕ) : Type 0 where
  pub size : length index ≡ 21
  pub index_of : (j : ℕ) → j < m → get_or index (get_or s j 0) 0 ≡ j

-- at first no value has its index
pub indexed_none : (s : List ℕ) → Indexed s (replicate 21 0) 0
indexed_none s = record { size = refl; index_of = λ j h. absurd (omega arith) }

-- the value v gets the index i, and the value x at another index j keeps its own
index-set : (index : List ℕ) (v i x j : ℕ) → v < length index → (j ≡ i → x ≡ v) → ((j ≡ i → ⊥) → (x ≡ v → ⊥) × (get_or index x 0 ≡ j)) → get_or (set index v i) x 0 ≡ j
index-set index v i x j h here other =
    cases
    (eqb j i)
    (λ t. let e = eqb-true j i t in rw (here e) (get_or-set_same index v i 0 h ∙ sym e))
    (λ f. let o = other (eqb-false j i f) in get_or-set_other index v x i 0 o.0 ∙ o.1)

-- the value at index i has its index next
pub indexed_step : {s index : List ℕ} (i v : ℕ) → length s ≤ 20 → IsPermutation (length s) s → i < length s → v ≡ get_or s i 0 → Indexed s index i
    → Indexed s (set index v i) (i + 1)
indexed_step {s = s} {index = index} i v k p h e x = record { size = simp length-set x.size; index_of = next }
  where
    next : (j : ℕ) → j < i + 1 → get_or (set index v i) (get_or s j 0) 0 ≡ j
    next j l =
        index-set
        index
        v
        i
        (get_or s j 0)
        j
        (omega (arith, x.size, value_bound p i h))
        (λ q. rw q (sym e))
        (λ d. (λ q. d (same_index p j i (omega arith) h (q ∙ e)), x.index_of j (omega arith)))

-- the first m values are a permutation of m, and have their indices
module _ {out index : List ℕ} (m : ℕ) (p : IsPermutation m (take m out)) (x : Indexed out index m) where
  -- the value m is found
  pub index-found : 0 < m → (get_or index m 0 < m) × (get_or out (get_or index m 0) 0 ≡ m)
  index-found h =
      let t = onto p m h (omega arith) in
      let j = t.0 - 1 in
      let there : get_or out j 0 ≡ m = sym (get_or-take m out j 0 (omega arith)) ∙ t.3 in
      let e : get_or index m 0 ≡ j = ap (λ (v : ℕ). get_or index v 0) (sym there) ∙ x.index_of j (omega arith) in
      (omega arith, rw e there)

  -- the last value is at most m
  pub last-bound : 0 < m → get_or out (m - 1) 0 ≤ m
  last-bound h = omega (arith, value_bound p (m - 1) (omega arith), get_or-take m out (m - 1) 0 (omega arith))

  -- the last value v moves to index i, and so has its index: the first m - 1 have theirs
  pub indexed-move : (i v : ℕ) → m ≤ length out → length out ≤ 20 → i < m → v ≡ get_or out (m - 1) 0
      → Indexed (set (set out i (get_or out (m - 1) 0)) (m - 1) (i + 1)) (set index v i) (m - 1)
  indexed-move i v b k h e = record { size = simp length-set x.size; index_of = next }
    where
      y : ℕ
      y = get_or out (m - 1) 0

      after : List ℕ
      after = set (set out i y) (m - 1) (i + 1)

      front : (j : ℕ) → j < m - 1 → get_or after j 0 ≡ get_or (set out i y) j 0
      front j l = get_or-set_other (set out i y) (m - 1) j (i + 1) 0 (omega arith)

      apart : (j : ℕ) → j < m - 1 → get_or out j 0 ≡ v → ⊥
      apart j l q =
          let f = same_index p j (m - 1) (omega arith) (omega arith) (get_or-take m out j 0 (omega arith) ∙ q ∙ e ∙ sym (get_or-take m out (m - 1) 0 (omega arith))) in
          omega arith

      next : (j : ℕ) → j < m - 1 → get_or (set index v i) (get_or after j 0) 0 ≡ j
      next j l =
          index-set
          index
          v
          i
          (get_or after j 0)
          j
          (omega (arith, x.size, last-bound (omega arith)))
          (λ q. front j l ∙ rw q (get_or-set_same out i y 0 (omega arith)) ∙ sym e)
          (λ d. rw (front j l, get_or-set_other out i j y 0 d) (apart j l, x.index_of j (omega arith)))

-- from an array a to its permutation, from the first entry up: the first m of `out` are the product of the first m entries
pub record Made (a out : List ℕ) (m : ℕ) : Type 0 where
  pub size : length out ≡ length a
  pub bound : m ≤ length a
  pub front : take m out ≡ product (take m a)

-- at first nothing is made
pub made_none : {a out : List ℕ} → length out ≡ length a → Made a out 0
unfolding product partial range
made_none e = record { size = e; bound = omega arith; front = refl }

-- the value m + 1 put in at index j, whose own value goes to index m: the first m + 1 are E or I of the first m
pub extended_at : (out : List ℕ) (m y : ℕ) → m < length out → take (suc m) (set (set out m y) m (suc m)) ≡ extend (suc m) (take m out)
unfolding extend
extended_at out m y h = rw (set-set out m y (suc m)) (take-suc-set out m (suc m) h)

pub inserted_at : (out : List ℕ) (m j : ℕ) → m < length out → j < m
    → take (suc m) (set (set out m (get_or out j 0)) j (suc m)) ≡ insert (suc m) (suc j) (take m out)
unfolding insert
inserted_at out m j h l =
    let y = get_or out j 0 in
    let e : suc j - 1 ≡ j = omega arith in
    let k : length (take m out) ≡ m = length-take-le m out (omega arith) in
    take-set-lt (suc m) (set out m y) j (suc m) (omega arith)
    ∙ rw (take-suc-set out m y h, set-append_left (take m out) (y ∷ []) j (suc m) (omega arith), e, get_or-take m out j 0 l)

-- the first m + 1 after a step
made-front : {a out : List ℕ} (m j : ℕ) → IsArray (length a) a → m < length a → Made a out m → get_or a m 0 ≡ suc j → j ≤ m
    → take (suc m) (set (set out m (get_or out j 0)) j (suc m)) ≡ product (take (suc m) a)
made-front {a = a} {out = out} m j i h d e k = by_last (dec_le m j) ∙ rw (take-suc a m 0 h, e)
  where
    b : IsArray m (take m a)
    b = array_take m d.bound i

    l : m < length out
    l = omega (arith, d.size)

    by_last : Dec (m ≤ j) → take (suc m) (set (set out m (get_or out j 0)) j (suc m)) ≡ product (take m a ++ (suc j ∷ []))
    by_last (yes t) = let f : j ≡ m = omega arith in rw f (extended_at out m (get_or out m 0) l ∙ rw (d.front, product-extend b))
    by_last (no t) = inserted_at out m j l (omega arith) ∙ rw (d.front, product-insert (suc j) (omega arith) (omega arith) b)

-- one entry x more is used, in the code's terms
pub made-step : {a out : List ℕ} (m x : ℕ) → IsArray (length a) a → m < length a → x ≡ get_or a m 0 → Made a out m
    → Made a (set (set out m (get_or out (x - 1) 0)) (x - 1) (m + 1)) (m + 1)
made-step {a = a} {out = out} m x i h e d =
    let b = entry_bound i m h in
    let f : get_or a m 0 ≡ suc (x - 1) = omega arith in
    rw add-one (record {
      size = simp length-set d.size;
      bound = h;
      front = made-front m (x - 1) i h d f (omega arith);
    })

-- at last all of the permutation is made
pub made_all : {a out : List ℕ} → Made a out (length a) → out ≡ product a
made_all {a = a} {out = out} d = sym (take_all (length a) out (omega (arith, d.size))) ∙ d.front ∙ rw take-length
