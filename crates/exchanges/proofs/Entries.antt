-- The transposition array of the permutation that carries one permutation to another, as it is written to a slice of its length. Assumes nothing.
use mathlib.Core.Path.{◌≡◌, refl, sym, ap, ◌∙◌}
use Prim.Native.Nat.{ℕ}
use mathlib.Core.Bool.{true}
use mathlib.Core.List.{List}
use lib.ListN.{length}
use Rattle.std.specs.Prelude.{Result, Ok, Err}
use Rattle.std.specs.Result.{is_ok}
use Rattle.stirling.specs.declared.Refusal.{Refusal}
use Rattle.stirling.specs.Count.{check_size}
use Rattle.stirling.proofs.Counts.{size_passes}
use Rattle.stirling.proofs.Refusals.{number_some}
use Rattle.perm.specs.Permutation.{IsPermutation}
use Rattle.perm.specs.Array.{IsArrayOf, array_of}
use Rattle.perm.specs.Checks.{ToArray, check_lent, answer_of}
use Rattle.perm.specs.declared.Array.{Array}
use Rattle.perm.proofs.ArrayOf.{is_array_of}
use Rattle.perm.proofs.Refused.{lent_passes}
use Rattle.perm.proofs.Checked.{passes_values, passes_twice}
use Rattle.exchanges.specs.Carrying.{carrying}
use Rattle.exchanges.specs.Between.{pairs_between}
use Rattle.exchanges.specs.Pairs.{pairs_of}
use Rattle.exchanges.proofs.Both.{Both}
use Rattle.exchanges.proofs.Carrying.{carries}

-- an answer with no refusal gives the number
given : (r : Result ℕ Refusal) → (answer_of r).refusal ≡ 0 → is_ok r ≡ true
given (Ok fixed) e = refl
given (Err refusal) e = absurd (number_some refusal e)

module _ {s t : List ℕ} (b : Both s t) {u before after : List ℕ} {r : Array} (c : u ≡ carrying s t) (l : length before ≡ length s) (w : ToArray u before r after) where
  carrier : IsPermutation (length s) u
  carrier = rw c (carries b.from b.to).permutation

  -- the carrying permutation is not refused
  served : r.refusal ≡ 0
  served =
      let size : check_size (length u) ≡ 0 = rw carrier.size (size_passes (length s) b.small) in
      let lent : check_lent (length u) (length before) ≡ 0 = sym (lent_passes _ _ (l ∙ sym carrier.size)) in
      w.refusal ∙ rw (size, lent, passes_values carrier, passes_twice carrier)

  written : IsArrayOf u after
  written = w.written served

  pub entries_size : length after ≡ length s
  entries_size = written.array.size ∙ carrier.size

  -- so the pairs of its array are those from s to t
  pub entries-between : pairs_of after ≡ pairs_between s t
  entries-between = ap pairs_of (is_array_of written carrier ∙ ap (array_of (length s)) c)

-- and the call that makes it has an answer
pub array_served : (r : Result ℕ Refusal) {s t u before after : List ℕ} → Both s t → u ≡ carrying s t → length before ≡ length s → ToArray u before (answer_of r) after
    → is_ok r ≡ true
array_served r b c l w = given r (served b c l w)
