-- What the two calls add up to: from table to sequence and back. Assumes nothing.
use mathlib.Core.Path.{◌≡◌, refl, sym, ◌∙◌}
use Prim.Native.Nat.{ℕ}
use mathlib.Core.List.{List}
use lib.ListN.{length}
use Rattle.stirling.specs.Refusal.{◌then◌}
use Rattle.stirling.specs.Count.{check_size}
use Rattle.stirling.proofs.Refusals.{then_passed}
use Rattle.perm.specs.Permutation.{IsPermutation}
use Rattle.perm.specs.Checks.{check_lent, check_values, check_twice, check_entries}
use Rattle.perm.proofs.Checked.{checked, passes_values, passes_twice, passes_array}
use Rattle.perm.proofs.Refused.{lent_passes}
use Rattle.inversion.specs.Table.{IsTable, IsSequence}
use Rattle.inversion.specs.Calls.{FromInversions, ToInversions}
use Rattle.inversion.proofs.Tables.{table_array, one_table}
use Rattle.inversion.proofs.Sequences.{one_sequence}

-- a slice of n bytes is lent for n
lent : (n : ℕ) {size : ℕ} → size ≡ n → check_lent n size ≡ 0
lent n {size} e = sym (lent_passes n size e)

-- from table to sequence: the call back serves, and gives the table
pub table_back : {p before after : List ℕ} → FromInversions p before 0 after
    → {again table : List ℕ} {r : ℕ}
    → length again ≡ length p
    → ToInversions after again r table
    → (r ≡ 0) × (table ≡ p)
table_back {p} {before} {after} f {again} {r = r} e t =
    let s : IsSequence p after = f.written refl in
    let l : length after ≡ length p = s.permutation.size in
    let size : check_size (length after) ≡ 0 = rw l (size_of f) in
    let served : r ≡ 0 = t.refusal ∙ rw (size, lent (length after) (e ∙ sym l), passes_values s.permutation, passes_twice s.permutation) in
    (served, one_table (t.written served) s.table)
  where
    size_of : FromInversions p before 0 after → check_size (length p) ≡ 0
    size_of f =
        let both = then_passed (check_size (length p) then check_lent (length p) (length before)) (check_entries p) (sym f.refusal) in
        (then_passed (check_size (length p)) (check_lent (length p) (length before)) both.0).0

-- from sequence to table: the call back serves, and gives the sequence
pub sequence_back : {q before after : List ℕ} → ToInversions q before 0 after
    → {again sequence : List ℕ} {r : ℕ}
    → length again ≡ length q
    → FromInversions after again r sequence
    → (r ≡ 0) × (sequence ≡ q)
sequence_back {q} {before} {after} t {again} {r = r} e f =
    let checks = checks-of t in
    let table : IsTable q after = t.written refl in
    let l : length after ≡ length q = table.size in
    let size : check_size (length after) ≡ 0 = rw l checks.0 in
    let served : r ≡ 0 = f.refusal ∙ rw (size, lent (length after) (e ∙ sym l), passes_array (table_array refl table)) in
    (served, one_sequence (f.written served) (record { permutation = rw l checks.1; table = table }))
  where
    checks-of : ToInversions q before 0 after → (check_size (length q) ≡ 0) × IsPermutation (length q) q
    checks-of t =
        let n = length q in
        let last = then_passed (check_size n then check_lent n (length before) then check_values q) (check_twice q) (sym t.refusal) in
        let values = then_passed (check_size n then check_lent n (length before)) (check_values q) last.0 in
        ((then_passed (check_size n) (check_lent n (length before)) values.0).0, checked q values.1 last.1)
