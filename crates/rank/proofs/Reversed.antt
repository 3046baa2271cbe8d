-- The row at a place of a list read backward, and what a row of S(n,k) is in either reading. Assumes nothing.
use mathlib.Core.Path.{◌≡◌, sym, ◌∙◌}
use Prim.Native.Nat.{ℕ, zero, suc, ◌+◌, ◌-◌, ◌<◌}
use native.Mathlib.Omega.{arith}
use mathlib.Core.Bool.{Bool, true, false, cond}
use mathlib.Core.List.{List, [], ◌∷◌, reverse, reverse-cons}
use lib.ListN.{length, get_or, length-reverse, get_or-append}
use lib.Seq.{get_or_at}
use Rattle.stirling.specs.Count.{c}
use Rattle.gray.specs.Order.{S}
use Rattle.gray.specs.Listing.{row_at, HasCycles}
use Rattle.gray.proofs.Once.{length-S, complete}

-- the element with q others after it stands at q in the reversed list
pub get_d_reverse {ℓ} : {A : Type ℓ} (l : List A) (d : A) (r q : ℕ) → suc (r + q) ≡ length l → get_or (reverse l) r d ≡ get_or l q d
get_d_reverse [] d r q e = absurd (omega arith)
get_d_reverse (x ∷ l) d r zero e = rw reverse-cons (get_or_at (reverse l) x [] d r (rw length-reverse (omega arith)))
get_d_reverse (x ∷ l) d r (suc q) e =
    rw reverse-cons (get_or-append (reverse l) (x ∷ []) d r (rw length-reverse (omega arith)) ∙ get_d_reverse l d r q (omega arith))

-- read backward, the row at a place of S(n,k) is the one with as many rows after it
pub row_at-reverse : (n k r q : ℕ) → suc (r + q) ≡ c n k → row_at (reverse (S n k)) r ≡ row_at (S n k) q
row_at-reverse n k r q e = get_d_reverse (S n k) [] r q (e ∙ sym (length-S n k))

-- a row of S(n,k) is a permutation of n with k cycles, in either reading
pub row-cycles : (n k r : ℕ) (b : Bool) → r < c n k → HasCycles n k (row_at (cond b (reverse (S n k)) (S n k)) r)
row-cycles n k r false h = (complete n k).sound r (rw (length-S n k) h)
row-cycles n k r true h =
    let q = c n k - 1 - r in
    rw (row_at-reverse n k r q (omega arith)) ((complete n k).sound q (rw (length-S n k) (omega arith)))

-- so it has n values
pub row-size : (n k r : ℕ) (b : Bool) → r < c n k → length (row_at (cond b (reverse (S n k)) (S n k)) r) ≡ n
row-size n k r b h = (row-cycles n k r b h).permutation.size
