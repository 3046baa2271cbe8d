-- Rows filled up with zeros to 20 bytes: what the calls of crates rank and perm write to the front of 20 zeros. Assumes nothing.
use mathlib.Core.Path.{◌≡◌, refl, ◌∙◌}
use mathlib.Core.List.{List, ◌++◌}
use Prim.Native.Nat.{ℕ, ◌-◌, ◌≤◌}
use native.Mathlib.Omega.{arith}
use lib.ListN.{length, take, drop, replicate, length-append}
use lib.Seq.{take_at, length-take-le}
use borrow.Author.Tests.{eq-eqb}
use mathlib.Core.Bool.{true}
use Rattle.std.specs.Prelude.{Result, Ok, Err}
use Rattle.std.specs.Result.{is_ok}
use Rattle.stirling.specs.declared.Refusal.{Refusal}
use Rattle.stirling.specs.Count.{check_size, check_place}
use Rattle.stirling.proofs.Counts.{size-passed, place-passed}
use Rattle.stirling.proofs.Refusals.{number_some}
use Rattle.perm.specs.Permutation.{IsPermutation, fixed}
use Rattle.perm.specs.Array.{array_of}
use Rattle.perm.specs.Checks.{check_lent, answer_of, ToArray}
use Rattle.perm.specs.declared.Array.{Array}
use Rattle.perm.proofs.Checked.{passes_values, passes_twice}
use Rattle.perm.proofs.ArrayOf.{is_array_of}
use Rattle.perm.proofs.Distance.{length_array}
use Rattle.gray.specs.Order.{S}
use Rattle.gray.specs.Listing.{row_at}
use Rattle.rank.specs.Place.{Unranked}
use Rattle.rank.proofs.Stands.{drop-replicate}
use Rattle.cursor.specs.Machine.{Machine, padded, row_of, observe, moved}
use Rattle.cursor.specs.Walk.{start}
use Rattle.cursor.proofs.Calls.{OnPlace, placed}
use Rattle.cursor.proofs.Steps.{row_permutation}

-- the part of 20 zeros that is lent
pub length_front : {n : ℕ} → n ≤ 20 → length (take {A = ℕ} n (replicate 20 0)) ≡ n
length_front {n} h = length-take-le n (replicate 20 0) h

-- n bytes written there are filled up with zeros
front-padded : {n : ℕ} (s : List ℕ) → length s ≡ n → n ≤ 20 → s ++ drop n (replicate 20 0) ≡ padded s
front-padded {n} s e h = rw (drop-replicate {A = ℕ} 0 20 n h, e)

-- and are its first n
pub take-padded : {n : ℕ} (s : List ℕ) → length s ≡ n → take n (padded s) ≡ s
take-padded {n} s e = take_at s (replicate (20 - length s) 0) n e

-- so there are at least n
length-padded : {n : ℕ} (s : List ℕ) → length s ≡ n → n ≤ length (padded s)
length-padded s e = omega (arith, length-append s (replicate (20 - length s) 0))

-- the row at a place that is not refused is a permutation
pub row-placed : (n k place : ℕ) → check_place n k place ≡ 0 → IsPermutation n (row_at (S n k) place)
row-placed n k place e = row_permutation (moved (start n k) place) (placed n k place e)

-- the record that shows a machine on its place holds at least n bytes of permutation
pub length-shown : (m : Machine) → OnPlace m → m.n ≤ length (observe m).perm
unfolding observe
length-shown m on = length-padded (row_of m) (row_permutation m on).size

-- and the first n are its row
pub take-shown : (m : Machine) → OnPlace m → take m.n (observe m).perm ≡ row_of m
unfolding observe
take-shown m on = take-padded (row_of m) (row_permutation m on).size

-- of its array it holds at least n bytes too
pub length-shown_array : (m : Machine) → OnPlace m → m.n ≤ length (observe m).array
unfolding observe
length-shown_array m on = length-padded (array_of m.n (row_of m)) (length_array (row_permutation m on))

-- and the first n are the array of its row
pub take-shown_array : (m : Machine) → OnPlace m → take m.n (observe m).array ≡ array_of m.n (row_of m)
unfolding observe
take-shown_array m on = take-padded (array_of m.n (row_of m)) (length_array (row_permutation m on))

-- check 5 passes on a slice of n bytes
lent_passes : {n : ℕ} (before : List ℕ) → length before ≡ n → check_lent n (length before) ≡ 0
lent_passes {n} before e = rw (eq-eqb (length before) n e)

-- the row that is written to the front
pub row-padded : {n k place r : ℕ} {before after : List ℕ} → check_place n k place ≡ 0 → length before ≡ n → Unranked n k place before r after
    → after ++ drop n (replicate 20 0) ≡ padded (row_at (S n k) place)
row-padded {n} {k} {place} {r} {before} e z u =
    let zero : r ≡ 0 = rw (e, lent_passes before z) at u.refusal in
    rw (u.written zero) (front-padded (row_at (S n k) place) (row-placed n k place e).size (place-passed n k place e).0)

-- no check refuses the permutation of n
made : {n : ℕ} {r : Array} {s before after : List ℕ} → check_size n ≡ 0 → IsPermutation n s → length before ≡ n → ToArray s before r after → r.refusal ≡ 0
made {n} {r} {s} {before} {after} e p z t =
    let size : check_size (length s) ≡ 0 = rw p.size e in
    rw (size, lent_passes {n = length s} before (omega (arith, p.size)), passes_values p, passes_twice p) at t.refusal

-- an answer with no refusal gives the number
given : (r : Result ℕ Refusal) → (answer_of r).refusal ≡ 0 → is_ok r ≡ true
given (Ok fixed) e = refl
given (Err refusal) e = absurd (number_some refusal e)

-- so its array is made
pub array_served : {n : ℕ} (r : Result ℕ Refusal) {s before after : List ℕ} → check_size n ≡ 0 → IsPermutation n s → length before ≡ n → ToArray s before (answer_of r) after
    → is_ok r ≡ true
array_served r e p z t = given r (made e p z t)

-- the array that is written to the front, and what its making reports
pub array_padded : {n : ℕ} {r : Array} {s before after : List ℕ} → check_size n ≡ 0 → IsPermutation n s → length before ≡ n → ToArray s before r after
    → (after ++ drop n (replicate 20 0) ≡ padded (array_of n s)) × (r.fixed ≡ fixed s)
array_padded {n} {r} {s} {before} {after} e p z t =
    let zero = made e p z t in
    let a = t.written zero in
    (rw (← is_array_of a p) (front-padded after (a.array.size ∙ p.size) (size-passed n e)), rw zero at t.number)
