-- What document 02, c), says of the exchanges, of whatever the call answers and writes. Assumes nothing.
use mathlib.Core.Path.{◌≡◌, refl, sym, ap, ◌∙◌}
use Prim.Native.Nat.{ℕ, ◌+◌, ◌*◌, ◌≤◌}
use native.Mathlib.Omega.{arith}
use native.Mathlib.Decide.{ℕ_discrete}
use mathlib.Core.List.{List, [], ◌∷◌}
use lib.Dec.{ltb}
use lib.ListN.{length, take}
use borrow.Author.Tests.{le-ltb}
use Rattle.stirling.specs.Refusal.{◌then◌}
use Rattle.stirling.specs.Count.{check_size}
use Rattle.stirling.proofs.Refusals.{then_passed, refuse_passes}
use Rattle.perm.specs.Permutation.{IsPermutation}
use Rattle.perm.specs.Cycle.{cycles}
use Rattle.perm.specs.Array.{IsArrayOf, array_of}
use Rattle.perm.specs.Checks.{check_values, check_twice, check_permutation}
use Rattle.perm.specs.Pairs.{Pair, bytes_of, front, pairs_in}
use Rattle.perm.proofs.ArrayOf.{is_array_of}
use Rattle.perm.proofs.Refused.{lent_passes}
use Rattle.perm.proofs.Checked.{checked}
use Rattle.perm.proofs.Pairs.{pairs-bytes, take-front, length_front}
use Rattle.exchanges.specs.declared.Exchanges.{Exchanges}
use Rattle.exchanges.specs.Carrying.{Carries, carrying}
use Rattle.exchanges.specs.Pairs.{pairs_of, exchange_all, Inside}
use Rattle.exchanges.specs.Between.{pairs_between, check_lengths, check_contents, check_room, Exchanged}
use Rattle.exchanges.proofs.Both.{Both, between_passed}
use Rattle.exchanges.proofs.Carrying.{carries, one-carries}
use Rattle.exchanges.proofs.Exchanging.{inside, turned, counted, fewest}

module _ {s t before after : List ℕ} {r : Exchanges} (x : Exchanged s t before r after) where
  -- where nothing is refused
  module _ (z : r.refusal ≡ 0) where
    -- there are two permutations of one n, and the buffer holds the pairs
    passed : Both s t × (2 * length (pairs_between s t) ≤ length before)
    passed = between_passed s t (length before) (sym x.refusal ∙ z)

    -- the pairs are those of any array of any permutation that carries s to t
    pub literal : {u p : List ℕ} → Carries (length s) s t u → IsArrayOf u p
        → (r.count ≡ length (pairs_of p)) × (after ≡ front (pairs_of p) before)
    literal {u} {p} c a =
        let b = passed.0 in
        let e : p ≡ array_of (length s) (carrying s t) =
        is_array_of a c.permutation ∙ ap (array_of (length s)) (one-carries b.from b.to c (carries b.from b.to)) in
        rw e (x.count z, x.written z)

    -- the bytes written, read as pairs, are the pairs from s to t
    written-pairs : pairs_in (take r.written after) ≡ pairs_between s t
    written-pairs =
        rw (x.size z, x.written z, take-front (pairs_between s t) before) (pairs-bytes (pairs_between s t))

    -- they name positions 1 to n, and turn s into t
    pub turns : Inside (length s) (pairs_in (take r.written after)) × (exchange_all (pairs_in (take r.written after)) s ≡ t)
    turns = let b = passed.0 in rw written-pairs (inside b.from b.to, turned b.from b.to)

    -- their number is n less the cycles of the permutation that carries s to t
    pub number : {u : List ℕ} → Carries (length s) s t u → r.count + cycles u ≡ length s
    number c = let b = passed.0 in rw (x.count z) (counted b.from b.to c)

    -- no list of pairs that turns s into t has fewer
    pub least : (y : List Pair) → Inside (length s) y → exchange_all y s ≡ t → r.count ≤ length y
    least y i e = let b = passed.0 in rw (x.count z) (fewest b.from b.to y i e)

  -- the buffer is as long as it was, and what was written is a part of it
  pub fits : (length after ≡ length before) × (r.written ≤ length after)
  fits = by-refusal (ℕ_discrete r.refusal 0)
    where
      by-refusal : Dec (r.refusal ≡ 0) → (length after ≡ length before) × (r.written ≤ length after)
      by-refusal (yes z) =
          let l = ap length (x.written z) ∙ length_front (pairs_between s t) before (passed z).1 in
          (l, omega (arith, l, x.size z, (passed z).1))
      by-refusal (no d) = (ap length (x.kept d), omega (arith, (x.zeros d).1))

-- from a permutation to itself: no pairs
no_pairs : {n : ℕ} {s : List ℕ} → IsPermutation n s → pairs_between s s ≡ []
unfolding exchange_all Inside
no_pairs {n} {s} p = empty (pairs_between s s) (fewest p p [] tt refl)
  where
    empty : (y : List Pair) → length y ≤ 0 → y ≡ []
    empty [] h = refl
    empty (a ∷ y) h = absurd (omega arith)

-- equal permutations give none and write nothing, whatever buffer is lent
pub none : {s before after : List ℕ} {r : Exchanges} → check_permutation s ≡ 0 → Exchanged s s before r after
    → (r ≡ record { refusal = 0; count = 0; written = 0 }) × (after ≡ before)
unfolding bytes_of
none {s} {before} {after} {r} e x =
    let d = then_passed (check_size (length s) then check_values s) (check_twice s) e in
    let c = then_passed (check_size (length s)) (check_values s) d.0 in
    let fit : check_lengths (length s) (length s) ≡ 0 = rw c.0 (sym (lent_passes (length s) (length s) refl)) in
    let held : check_contents s s ≡ 0 = rw (c.1, d.1) refl in
    let no = no_pairs (checked s c.1 d.1) in
    let room : check_room s s (length before) ≡ 0 = rw no (refuse_passes (ltb (length before) 0) 5 (le-ltb (length before) 0 (omega arith))) in
    let zero : r.refusal ≡ 0 = x.refusal ∙ rw (fit, held) room in
    let count : r.count ≡ 0 = x.count zero ∙ ap length no in
    let written : r.written ≡ 0 = x.size zero ∙ ap (λ (y : List Pair). 2 * length y) no in
    (λ i. record { refusal = zero i; count = count i; written = written i }, x.written zero ∙ ap (λ (y : List Pair). front y before) no)
