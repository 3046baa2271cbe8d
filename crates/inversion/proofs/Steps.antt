-- What the loops keep: the higher elements counted so far, the entries written so far, the elements raised so far, the sequence of the entries used so far. Assumes
-- nothing.
use mathlib.Core.Path.{◌≡◌, refl, sym, ap, ◌∙◌}
use Prim.Native.Nat.{ℕ, suc, ◌+◌, ◌-◌, ◌≤◌, ◌<◌}
use native.Mathlib.Numerals.{add-one, one-add}
use native.Mathlib.Nat.{zero-add}
use borrow.Table.Steps.{cases}
use native.Mathlib.Omega.{arith}
use native.Mathlib.Decide.{ℕ_discrete}
use mathlib.Core.Bool.{Bool}
use mathlib.Core.List.{List, [], ◌∷◌, ◌++◌, map, map-append}
use lib.Dec.{ltb}
use lib.ListN.{length, get_or, take, drop, set, length-set, length-map, length-append, length-drop}
use lib.Seq.{get_or-set_same, get_or-set_other, get_or-drop, drop-set-lt, drop-drop, take-suc, take-suc-set, take_all, take-length, length-take-le, get_or-take, take_at}
use Rattle.perm.specs.Permutation.{at}
use Rattle.perm.specs.Array.{IsArray}
use Rattle.std.specs.List.{filter, count_by}
use Rattle.std.proofs.lemmas.List.Sums.{length-filter}
use Rattle.perm.specs.Lists.{tally}
use Rattle.perm.proofs.Tally.{tally-range_cong}
use Rattle.perm.proofs.Values.{at_suc, tally_at}
use Rattle.perm.proofs.Steps.{entry_bound, value_bound}
use Rattle.inversion.specs.Table.{higher, IsTable, IsSequence}
use Rattle.inversion.proofs.Tables.{higher-suc}
use Rattle.inversion.proofs.Appended.{raise, appended}
use Rattle.inversion.proofs.Sequences.{sequence_none, sequence-next}

-- a chain counts the elements that pass a test
passing : (p : ℕ → Bool) (s : List ℕ) → length (filter p s) ≡ tally p s
unfolding tally
passing p [] = refl
passing p (x ∷ s) = cases (p x) (λ t. rw (t, passing p s, one-add) refl) (λ f. rw (f, passing p s, zero-add) refl)

-- so it counts, among the first i elements, those that are higher than the one at index i
pub counted-higher : (q : List ℕ) (i : ℕ) → i < length q → count_by (ltb (get_or q i 0)) (take i q) ≡ higher q (i + 1)
counted-higher q i h =
    sym (length-filter (ltb (get_or q i 0)) (take i q))
    ∙ passing (ltb (get_or q i 0)) (take i q)
    ∙ sym (tally_at (ltb (get_or q i 0)) (take i q) (length-take-le i q (omega arith)))
    ∙ tally-range_cong _ (λ j. ltb (at q (suc i)) (at q j)) 1 i (λ j a b. rw (at_suc q i, get_or-take i q (j - 1) 0 (omega arith)) refl)
    ∙ rw add-one (sym (higher-suc q i))

-- the first i entries of the table of q are written
pub record Written (q out : List ℕ) (i : ℕ) : Type 0 where
  pub size : length out ≡ length q
  pub entries : (j : ℕ) → j < i → get_or out j 0 ≡ 1 + higher q (suc j)

-- at first none
pub written_none : {q out : List ℕ} → length out ≡ length q → Written q out 0
written_none e = record { size = e; entries = λ j h. absurd (omega arith) }

-- one entry x more
pub written_step : {q out : List ℕ} (i x : ℕ) → i < length q → x ≡ higher q (i + 1) → Written q out i → Written q (set out i (x + 1)) (i + 1)
written_step {q = q} {out = out} i x h e w = record { size = simp length-set w.size; entries = λ j l. by_index j l (ℕ_discrete j i) }
  where
    by_index : (j : ℕ) → j < i + 1 → Dec (j ≡ i) → get_or (set out i (x + 1)) j 0 ≡ 1 + higher q (suc j)
    by_index j l (yes s) =
        let one_more : x ≡ higher q (suc i) = rw add-one at e in
        rw (s, get_or-set_same out i (x + 1) 0 (omega (arith, w.size))) (omega arith)
    by_index j l (no d) = get_or-set_other out i j (x + 1) 0 d ∙ w.entries j (omega arith)

-- at last all
pub written_all : {q out : List ℕ} (i : ℕ) → length q ≤ i → Written q out i → IsTable q out
written_all {q = q} {out = out} i h w = record {
  size = w.size;
  entry = λ j a b. let y : suc (j - 1) ≡ j = omega arith in w.entries (j - 1) (omega arith) ∙ ap (λ (t : ℕ). 1 + higher q t) y;
}

-- the first j elements are raised, and the others are as they were
pub record Raised (v : ℕ) (before out : List ℕ) (j : ℕ) : Type 0 where
  pub size : length out ≡ length before
  pub front : take j out ≡ map (raise v) (take j before)
  pub rest : drop j out ≡ drop j before

-- at first none
pub raised_none : (v : ℕ) (before : List ℕ) → Raised v before before 0
raised_none v before = record { size = refl; front = refl; rest = refl }

-- the next element is not raised yet
pub raised_at : {v : ℕ} {before out : List ℕ} (j : ℕ) → Raised v before out j → get_or out j 0 ≡ get_or before j 0
raised_at {before = before} {out = out} j w =
    let y : j + 0 ≡ j = omega arith in
    rw y at (sym (get_or-drop j out 0 0) ∙ ap (λ (l : List ℕ). get_or l 0 0) w.rest ∙ get_or-drop j before 0 0)

-- one element more
pub raised_step : {v : ℕ} {before out : List ℕ} (j x : ℕ) → j < length before → x ≡ raise v (get_or before j 0) → Raised v before out j
    → Raised v before (set out j x) (j + 1)
raised_step {v} {before} {out} j x h e w = record {
  size = simp length-set w.size;
  front =
      rw (add-one, take-suc-set out j x (omega (arith, w.size)), w.front, take-suc before j 0 h, map-append (raise v) (take j before) (get_or before j 0 ∷ []), e);
  rest = drop-set-lt (j + 1) out j x (omega arith) ∙ sym (drop-drop 1 j out) ∙ ap (drop 1) w.rest ∙ drop-drop 1 j before;
}

-- at last all are
pub raised_all : {v : ℕ} {before out : List ℕ} (j : ℕ) → length before ≤ j → Raised v before out j → out ≡ map (raise v) before
raised_all {v} {before} {out} j h w =
    sym (take_all j out (omega (arith, w.size))) ∙ w.front ∙ ap (map (raise v)) (take_all j before h)

-- and v after them
v_after : (v : ℕ) (q rest : List ℕ) (m : ℕ) → length q ≡ m → m < length (map (raise v) q ++ rest)
    → take (m + 1) (set (map (raise v) q ++ rest) m v) ≡ appended v q
unfolding appended
v_after v q rest m e h =
    rw (add-one, take-suc-set (map (raise v) q ++ rest) m v h, take_at (map (raise v) q) rest m (length-map q (raise v) ∙ e))

-- the sequence of the first m entries is made
pub record Made (a out : List ℕ) (m : ℕ) : Type 0 where
  pub size : length out ≡ length a
  pub bound : m ≤ length a
  pub front : IsSequence (take m a) (take m out)

-- at first nothing is made
pub made_none : {a out : List ℕ} → length out ≡ length a → Made a out 0
made_none e = record { size = e; bound = omega arith; front = sequence_none }

-- an element that is to be raised is one of 1 to m
pub raised_bound : {v : ℕ} {p before out : List ℕ} (m j : ℕ) → length p ≡ m → j < m → IsSequence p before → Raised v before out j → get_or out j 0 ≤ m
raised_bound m j e h s w =
    let b = value_bound s.permutation j (omega arith) in
    omega (arith, b.1, raised_at j w)

-- one entry more is used: what `append` writes is the sequence of one entry more
pub appended_sequence : (a before : List ℕ) (m v : ℕ) → IsArray (length a) a → length before ≡ length a → m < length a → v ≡ m + 2 - get_or a m 0
    → IsSequence (take m a) (take m before)
    → IsSequence (take (m + 1) a) (take (m + 1) (set (map (raise v) (take m before) ++ drop m before) m v))
appended_sequence a before m v i z h e s =
    let b = entry_bound i m h in
    let l = length-take-le m before (omega arith) in
    let n = sequence-next (get_or a m 0) b.0 b.1 s (length-take-le m a (omega arith)) in
    let room : m < length (map (raise v) (take m before) ++ drop m before) = omega (arith, length-append (map (raise v) (take m before)) (drop m before), length-map (take m before) (raise v), length-drop m before) in
    rw (v_after v (take m before) (drop m before) m l room, add-one, take-suc a m 0 h, e) n

-- at last all of it is made
pub made_all : {a out : List ℕ} → Made a out (length a) → IsSequence a out
made_all {a} {out} d = let l = take_all (length a) out (omega (arith, d.size)) in rw (take-length a, l) at d.front
