-- What the loop that counts record lows keeps: the lowest of the elements passed, or 256 where none was, tells which bytes are below all of them. Assumes nothing.
use mathlib.Core.Path.{◌≡◌, refl, ap, ◌∙◌}
use Prim.Native.Nat.{ℕ, suc, ◌+◌, ◌-◌, ◌≤◌, ◌<◌}
use native.Mathlib.Numerals.{add-one}
use native.Mathlib.Omega.{arith}
use mathlib.Core.Bool.{true, false, not}
use mathlib.Core.List.{List}
use borrow.Author.Tests.{lt-ltb, le-ltb}
use lib.Dec.{ltb}
use lib.ListN.{length, get_or}
use Rattle.perm.specs.Lists.{one, tally, range, positions}
use Rattle.perm.specs.Permutation.{at}
use Rattle.perm.proofs.Tally.{tally-positions}
use Rattle.perm.proofs.Counted.{CountedTo}
use Rattle.perm.proofs.Values.{at_suc}
use Rattle.inversion.specs.Table.{record_low, record_lows}

-- how many of the first i elements are not above x
pub reached : List ℕ → ℕ → ℕ → ℕ
reached q x i = tally (λ j. not (ltb x (at q j))) (positions i)

-- one element more
reached_next : (q : List ℕ) (x i : ℕ) → reached q x (i + 1) ≡ reached q x i + one (not (ltb x (get_or q i 0)))
unfolding reached
reached_next q x i = rw (add-one, tally-positions, at_suc q i)

-- none of the first i elements is below `low`, and one of them is `low`, or `low` is 256 and there is none
pub record Lowest (q : List ℕ) (low i : ℕ) : Type 0 where
  pub above : (x : ℕ) → x < low → reached q x i ≡ 0
  pub here : (x : ℕ) → x < 256 → low ≤ x → 1 ≤ reached q x i

-- of none it is 256
pub lowest_none : (q : List ℕ) → Lowest q 256 0
unfolding reached tally range
lowest_none q = record { above = λ x h. refl; here = λ x h k. absurd (omega arith) }

module _ {q : List ℕ} {low : ℕ} (i : ℕ) (w : Lowest q low i) where
  -- the element at index i is below it
  pub lowest-lower : get_or q i 0 < low → Lowest q (get_or q i 0) (i + 1)
  lowest-lower l =
      let e = get_or q i 0 in
      record {
        above = λ x h. omega (arith, reached_next q x i, w.above x (omega arith), ap (λ b. one (not b)) (lt-ltb x e h));
        here = λ x h k. omega (arith, reached_next q x i, ap (λ b. one (not b)) (le-ltb x e k));
      }

  -- or it is not
  pub lowest-same : low ≤ get_or q i 0 → Lowest q low (i + 1)
  lowest-same l =
      let e = get_or q i 0 in
      record {
        above = λ x h. omega (arith, reached_next q x i, w.above x h, ap (λ b. one (not b)) (lt-ltb x e (omega arith)));
        here = λ x h k. omega (arith, reached_next q x i, w.here x h k);
      }

  -- element i + 1 is a record low where none of the first i is at or below it
  low-at : record_low q (i + 1) ≡ not (ltb 0 (reached q (get_or q i 0) i))
  unfolding record_low reached
  low-at = let y : suc i - 1 ≡ i = omega arith in rw (add-one, y)

  pub low-hit : get_or q i 0 < low → record_low q (i + 1) ≡ true
  low-hit l = low-at ∙ rw (w.above (get_or q i 0) l)

  pub low-miss : get_or q i 0 < 256 → low ≤ get_or q i 0 → record_low q (i + 1) ≡ false
  low-miss b l = low-at ∙ ap not (lt-ltb 0 (reached q (get_or q i 0) i) (w.here (get_or q i 0) b l))

-- at last all are counted
pub lows_all : (q : List ℕ) {i count : ℕ} → i ≡ length q → CountedTo (record_low q) i count → count ≡ record_lows q
unfolding record_lows
lows_all q e w = rw e at w.counted
