-- Inversion tables by their definition: every sequence has one and only one, it is an array, and its fixed entries are as many as the record lows. Assumes nothing.
use mathlib.Core.Path.{◌≡◌, refl, sym, ap, ◌∙◌}
use Prim.Native.Nat.{ℕ, suc, ◌+◌, ◌-◌, ◌≤◌}
use native.Mathlib.Omega.{arith}
use mathlib.Core.Bool.{not}
use mathlib.Core.List.{List, map}
use lib.Dec.{eqb, ltb}
use lib.ListN.{length, length-map}
use borrow.Table.Steps.{cases}
use borrow.Author.Tests.{ltb-true, ltb-false, eq-eqb, ne_eqb}
use Rattle.perm.specs.Lists.{tally, positions}
use Rattle.perm.specs.Permutation.{at, fixed}
use Rattle.perm.specs.Array.{IsArray}
use Rattle.perm.proofs.Tally.{tally-not, length-range, tally-range_cong}
use Rattle.perm.proofs.Values.{same_at, at_map, at-positions}
use Rattle.inversion.specs.Table.{higher, IsTable, record_low, record_lows}

-- what stands before element i + 1 are the first i elements
pub higher-suc : (q : List ℕ) (i : ℕ) → higher q (suc i) ≡ tally (λ j. ltb (at q (suc i)) (at q j)) (positions i)
unfolding higher
higher-suc q i = let y : suc i - 1 ≡ i = omega arith in ap (λ (n : ℕ). tally (λ j. ltb (at q (suc i)) (at q j)) (positions n)) y

-- the elements before the i-th are i − 1: those that are higher, and those that are not
earlier : (q : List ℕ) (i : ℕ) → higher q i + tally (λ j. not (ltb (at q i) (at q j))) (positions (i - 1)) ≡ i - 1
unfolding higher
earlier q i = tally-not (λ j. ltb (at q i) (at q j)) (positions (i - 1)) ∙ length-range 1 (i - 1)

-- so an entry of a table is 1 to i
pub table_array : {n : ℕ} {q p : List ℕ} → length q ≡ n → IsTable q p → IsArray n p
table_array {q = q} e t = record {
  size = t.size ∙ e;
  bound = λ i h k. let x = t.entry i h (omega arith) in (omega arith, omega (arith, earlier q i));
}

-- the i-th element is a record low just if all before it are higher
low_entry : (q : List ℕ) (i : ℕ) → 1 ≤ i → record_low q i ≡ eqb (1 + higher q i) i
unfolding record_low
low_entry q i h =
    let others : ℕ = tally (λ j. not (ltb (at q i) (at q j))) (positions (i - 1)) in
    let low : record_low q i ≡ not (ltb 0 others) = refl in
    cases
    (ltb 0 others)
    (λ t. low ∙ ap not t ∙ sym (ne_eqb (1 + higher q i) i (λ e. omega (arith, earlier q i, ltb-true 0 others t))))
    (λ f. low ∙ ap not f ∙ sym (eq-eqb (1 + higher q i) i (omega (arith, earlier q i, ltb-false 0 others f))))

-- a table has as many fixed entries as its sequence has record lows
pub record_lows_lem : {q p : List ℕ} → IsTable q p → record_lows q ≡ fixed p
unfolding record_lows fixed
record_lows_lem {q} {p} t =
    rw t.size
    (tally-range_cong
    (record_low q)
    (λ i. eqb (at p i) i)
    1
    (length q)
    (λ i h k. low_entry q i h ∙ ap (λ (v : ℕ). eqb v i) (sym (t.entry i h (omega arith)))))

-- no sequence has two tables
pub one_table : {q p r : List ℕ} → IsTable q p → IsTable q r → p ≡ r
one_table {q} {p} {r} t u =
    same_at p r (t.size ∙ sym u.size) (λ i h k. let l : i ≤ length q = omega (arith, t.size) in t.entry i h l ∙ sym (u.entry i h l))

-- and every one has a table
pub has_table : (q : List ℕ) → (p : List ℕ) × IsTable q p
has_table q =
    let entry_at : ℕ → ℕ = λ i. 1 + higher q i in
    let n = length q in (
      map entry_at (positions n),
      record {
        size = length-map (positions n) entry_at ∙ length-range 1 n;
        entry = λ i h k. at_map entry_at (positions n) i h (omega (arith, length-range 1 n)) ∙ ap entry_at (at-positions n i h k);
      },
    )
