-- From place to permutation and back. Assumes nothing.
use mathlib.Core.Path.{◌≡◌, refl, ap}
use Prim.Native.Nat.{ℕ, ◌≤◌, ◌<◌}
use native.Mathlib.Omega.{arith}
use mathlib.Core.List.{List}
use lib.ListN.{length}
use Rattle.perm.specs.Lists.{tally, positions}
use Rattle.perm.proofs.Tally.{range-tally_none}
use Rattle.perm.proofs.Checked.{passes}
use Rattle.stirling.proofs.Counts.{size_passes}
use Rattle.tree.specs.Kind.{rule_of, listed, breaks, IsOf}
use Rattle.tree.specs.Listing.{row_at, place_in}
use Rattle.tree.specs.Calls.{check_rank, rank_of}
use Rattle.tree.specs.declared.Kind.{Kind}
use Rattle.tree.proofs.PerKind.{complete}
use Rattle.tree.proofs.Checked.{rank_passed, placed}

-- the checks of a permutation that is read pass where it is of the kind
pub rank_passes : {kind : Kind} {n : ℕ} {s : List ℕ} → n ≤ 20 → IsOf kind n s → check_rank kind s ≡ 0
rank_passes {kind} {n} {s} u k =
    let z = k.permutation.size in
    let none : tally (breaks kind s) (positions (length s)) ≡ 0 = range-tally_none (breaks kind s) 1 (length s) (λ i a b. k.fits i a (omega arith)) in
    rw (passes (size_passes n u) k.permutation, none)

-- the row at a place has that place
pub place_back : (kind : Kind) (n place : ℕ) → n ≤ 20 → place < length (listed kind n) → rank_of kind (row_at (listed kind n) place) ≡ record { refusal = 0; place = place }
place_back kind n place u v =
    let s = row_at (listed kind n) place in
    let k = (complete kind n).sound place v in
    let here : place_in s (listed kind n) ≡ place = placed (rule_of kind) n place s v refl in
    rw (rank_passes u k) (ap (λ (x : ℕ). record { refusal = 0; place = x }) (rw k.permutation.size here))

-- and where nothing is refused, the row at the place found is the permutation
pub row_back : (kind : Kind) (s : List ℕ) → check_rank kind s ≡ 0
    → ((rank_of kind s).place < length (listed kind (length s))) × (row_at (listed kind (length s)) (rank_of kind s).place ≡ s)
row_back kind s e =
    let (u, k) = rank_passed kind s e in
    let (r, v, f) = (complete kind (length s)).place s k in
    let here : (rank_of kind s).place ≡ r = rw e (placed (rule_of kind) (length s) r s v f) in
    rw here (v, f)
