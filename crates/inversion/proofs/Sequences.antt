-- Every inversion table has one sequence and only one: entry after entry, each tells the element that comes next. Assumes nothing.
use mathlib.Core.Path.{◌≡◌, refl, sym, ◌∙◌}
use Prim.Native.Nat.{ℕ, zero, suc, ◌+◌, ◌-◌, ◌≤◌}
use native.Mathlib.Omega.{arith}
use native.Mathlib.Decide.{ℕ_discrete}
use mathlib.Core.List.{List, [], ◌∷◌, ◌++◌}
use lib.ListN.{length, length-append}
use Rattle.perm.specs.Permutation.{IsPermutation, at}
use Rattle.perm.specs.Array.{IsArray}
use Rattle.perm.proofs.Split.{at-snoc_low, at-snoc_top}
use Rattle.perm.proofs.Arrays.{Last, fixed, moved, last, empty}
use Rattle.inversion.specs.Table.{higher, IsSequence}
use Rattle.inversion.proofs.Appended.{appended, higher-earlier, higher-last, appended-permutation, Appended, one_more, is-appended}

-- the table of no entries
pub sequence_none : IsSequence [] []
sequence_none = record {
  permutation = record { size = refl; once = λ v h k. absurd (omega arith) };
  table = record { size = refl; entry = λ i h k. absurd (omega arith) };
}

-- one entry x more: of the values 1 to m + 1 the element is the x-th from the highest
module _ {m : ℕ} (x : ℕ) (h : 1 ≤ x) (k : x ≤ suc m) {p q : List ℕ} (s : IsSequence p q) (e : length p ≡ m) where
  element : ℕ
  element = m + 2 - x

  element-within : (1 ≤ element) × (element ≤ suc m)
  unfolding element
  element-within = (omega arith, omega arith)

  permutation-m : IsPermutation m q
  permutation-m = rw e at s.permutation

  entry_at : (i : ℕ) → 1 ≤ i → i ≤ suc m → Dec (i ≡ suc m) → at (p ++ (x ∷ [])) i ≡ 1 + higher (appended element q) i
  unfolding element
  entry_at i a b (yes y) =
      let w = element-within in
      rw (y, at-snoc_top p x e) (omega (arith, higher-last element w.0 w.1 permutation-m))
  entry_at i a b (no y) =
      rw (at-snoc_low p x i a (omega arith), higher-earlier element q permutation-m.size i a (omega arith))
      (s.table.entry i a (omega (arith, permutation-m.size)))

  pub sequence-next : IsSequence (p ++ (x ∷ [])) (appended (m + 2 - x) q)
  unfolding element
  sequence-next =
      let w = element-within in
      let l : length (p ++ (x ∷ [])) ≡ suc m = omega (arith, length-append p (x ∷ [])) in
      let r : IsPermutation (suc m) (appended element q) = appended-permutation element w.0 w.1 permutation-m in
      record {
        permutation = rw l r;
        table = record {
          size = l ∙ sym r.size;
          entry = λ i a b. entry_at i a (omega (arith, r.size)) (ℕ_discrete i (suc m));
        };
      }

-- every table has a sequence; by the last entry, with the statement for n at hand
has_last : {n : ℕ} {p : List ℕ} → ((r : List ℕ) → IsArray n r → (q : List ℕ) × IsSequence r q) → Last n p → (q : List ℕ) × IsSequence p q
has_last {n} ih (fixed p a) = let (q, s) = ih p a in (appended (n + 2 - suc n) q, sequence-next (suc n) (omega arith) (omega arith) s a.size)
has_last {n} ih (moved i p h k a) = let (q, s) = ih p a in (appended (n + 2 - i) q, sequence-next i h (omega arith) s a.size)

pub has_sequence : {n : ℕ} {p : List ℕ} → IsArray n p → (q : List ℕ) × IsSequence p q
has_sequence {n = zero} {p} a = ([], rw (empty p a.size) sequence_none)
has_sequence {n = suc n} a = has_last (λ r b. has_sequence b) (last a)

-- two permutations of n that have as many higher elements before each are one
abbrev Alike : ℕ → List ℕ → List ℕ → Type 0
Alike n q r = (i : ℕ) → 1 ≤ i → i ≤ n → higher q i ≡ higher r i

alike_appended : {m : ℕ} {q r : List ℕ} → ((q r : List ℕ) → IsPermutation m q → IsPermutation m r → Alike m q r → q ≡ r)
    → Appended m q
    → Appended m r
    → Alike (suc m) q r
    → q ≡ r
alike_appended {m} ih (one_more v q h k a) (one_more w r l u b) e =
    let same : v ≡ w = omega (arith, e (suc m) (omega arith) (omega arith), higher-last v h k a, higher-last w l u b) in
    let rest : q ≡ r = ih q r a b (λ i x y. sym (higher-earlier v q a.size i x y) ∙ e i x (omega arith) ∙ higher-earlier w r b.size i x y) in
    rw (same, rest)

alike : (n : ℕ) (q r : List ℕ) → IsPermutation n q → IsPermutation n r → Alike n q r → q ≡ r
alike zero q r a b e = empty q a.size ∙ sym (empty r b.size)
alike (suc n) q r a b e = alike_appended (alike n) (is-appended a) (is-appended b) e

-- no table has two sequences
pub one_sequence : {p q r : List ℕ} → IsSequence p q → IsSequence p r → q ≡ r
one_sequence {p} {q} {r} s t =
    alike (length p) q r s.permutation t.permutation
    (λ i h k. let x = s.table.entry i h (omega (arith, s.table.size)) in
    let y = t.table.entry i h (omega (arith, t.table.size)) in
    omega arith)
