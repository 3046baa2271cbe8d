-- Where the entries of a table of the counts stand: the two counts that c(n,k) is made from stand side by side, and are inside it, so that they are read without a test.
-- Assumes nothing.
use Prim.Native.Nat.{ℕ, ◌+◌, ◌-◌, ◌*◌, ◌≤◌, ◌<◌}
use native.Mathlib.Omega.{arith}
use mathlib.Core.Path.{◌≡◌}
use mathlib.Core.List.{List}
use lib.Dec.{ltb}
use lib.ListN.{length, get_or, get_or-eq_default}
use borrow.Table.Steps.{cases}
use borrow.Author.Tests.{le-leb, ltb-true, ltb-false}
use Rattle.stirling.specs.Count.{c, IsTable}
use Rattle.stirling.proofs.Counts.{one_each}

module _ {counts : List ℕ} (w : IsTable counts) where
  entry_at : (n k : ℕ) → n ≤ 20 → k ≤ 20 → get_or counts (n * 21 + k) 0 ≡ c n k
  entry_at n k h l =
      let e = w.holds n k h in
      rw (le-leb n 20 h, le-leb k 20 l) at e

  -- the entry for n and n is not 0, so it is inside, and so are those before it
  in_table : (n at : ℕ) → n ≤ 20 → at ≤ n * 21 + n → at < length counts
  in_table n at h l =
      cases (ltb at (length counts)) (ltb-true at (length counts))
      (λ t.
      let out : length counts ≤ n * 21 + n = omega (arith, ltb-false at (length counts) t) in
      absurd (omega (arith, entry_at n n h h, one_each n, get_or-eq_default counts 0 out)))

  -- where the code looks, both counts that c(n,k) is made from stand side by side
  pub side_by_side : (n k : ℕ) → 1 ≤ n → n ≤ 20 → 1 ≤ k → k ≤ n
      → ((n - 1) * 21 + k < length counts) × (get_or counts ((n - 1) * 21 + k) 0 ≡ c (n - 1) k) × (get_or counts ((n - 1) * 21 + k - 1) 0 ≡ c (n - 1) (k - 1))
  side_by_side n k some h one l =
      let at : (n - 1) * 21 + k - 1 ≡ (n - 1) * 21 + (k - 1) = omega arith in (
        in_table n ((n - 1) * 21 + k) h (omega arith),
        entry_at (n - 1) k (omega arith) (omega arith),
        rw at (entry_at (n - 1) (k - 1) (omega arith) (omega arith)),
      )
