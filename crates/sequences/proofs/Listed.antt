-- The sequences made from the arrays of S(n,k), row by row: there is one such list and only one, and it holds every sequence of n with exactly k record lows exactly
-- once, and nothing else. Assumes nothing.
use mathlib.Core.Path.{◌≡◌, refl, sym, ap, subst, ◌∙◌}
use Prim.Native.Nat.{ℕ, zero, suc, ◌<◌}
use native.Mathlib.Omega.{arith}
use mathlib.Core.List.{List, [], ◌∷◌}
use lib.ListN.{length}
use lib.Seq.{ext_get_or}
use Rattle.stirling.specs.Count.{c}
use Rattle.perm.specs.Permutation.{IsPermutation, fixed}
use Rattle.perm.specs.Cycle.{cycles}
use Rattle.perm.specs.Array.{IsArray, IsArrayOf, product}
use Rattle.perm.proofs.Arrays.{product_permutation, has_array, one_array, cycles-product}
use Rattle.gray.specs.Order.{Row, S}
use Rattle.gray.specs.Listing.{row_at, HasCycles}
use Rattle.gray.proofs.Once as Once
use Rattle.inversion.specs.Table.{IsSequence, record_lows}
use Rattle.inversion.proofs.Tables.{table_array, record_lows_lem, one_table, has_table}
use Rattle.inversion.proofs.Sequences.{has_sequence, one_sequence}
use Rattle.sequences.specs.Listed.{Made, HasLows, CompleteLows}

-- an array of a permutation of n has n entries
array_of_n : {n : ℕ} {s p : List ℕ} → IsPermutation n s → IsArrayOf s p → IsArray n p
array_of_n g a = rw g.size at a.array

-- whichever array of a permutation is taken, its sequence is the same
row_sequence : {n : ℕ} {s : List ℕ} → IsPermutation n s → (q : List ℕ) × ((p : List ℕ) → IsArrayOf s p → IsSequence p q)
row_sequence g =
    let (p, a) = has_array g in
    let (q, t) = has_sequence (array_of_n g a) in
    (q, λ r b. subst (λ (x : List ℕ). IsSequence x q) (one_array (array_of_n g a) (array_of_n g b) (a.equal ∙ sym b.equal)) t)

-- one row more
made-next : {s q : Row} {rows sequences : List Row} → ((p : List ℕ) → IsArrayOf s p → IsSequence p q) → Made rows sequences → Made (s ∷ rows) (q ∷ sequences)
made-next {s} {q} {rows} {sequences} t m = record { size = ap suc m.size; row = by_place }
  where
    by_place : (place : ℕ) → place < suc (length rows) → (p : List ℕ) → IsArrayOf (row_at (s ∷ rows) place) p → IsSequence p (row_at (q ∷ sequences) place)
    by_place zero h = t
    by_place (suc place) h = m.row place (omega arith)

-- a list of permutations of n
module _ {n : ℕ} where
  -- has its list of sequences
  pub made : (rows : List Row) → ((place : ℕ) → place < length rows → IsPermutation n (row_at rows place)) → (sequences : List Row) × Made rows sequences
  made [] g = ([], record { size = refl; row = λ place h. absurd (omega arith) })
  made (s ∷ rows) g =
      let (q, t) = row_sequence (g 0 (omega arith)) in
      let (sequences, m) = made rows (λ place h. g (suc place) (omega arith)) in
      (q ∷ sequences, made-next t m)

  -- and only one
  pub one-made : {rows xs ys : List Row} → ((place : ℕ) → place < length rows → IsPermutation n (row_at rows place)) → Made rows xs → Made rows ys → xs ≡ ys
  one-made {rows} {xs} {ys} g x y = ext_get_or [] xs ys (x.size ∙ sym y.size) same
    where
      same : (place : ℕ) → place < length xs → row_at xs place ≡ row_at ys place
      same place h =
          let b : place < length rows = omega (arith, x.size) in
          let (p, a) = has_array (g place b) in
          one_sequence (x.row place b p a) (y.row place b p a)

-- an array has as many fixed entries as its product has cycles
fixed-cycles : {n : ℕ} {p : List ℕ} → IsArray n p → fixed p ≡ cycles (product p)
unfolding fixed
fixed-cycles a = rw a.size (sym (cycles-product a))

-- so the sequence made from the array of a permutation has as many record lows as the permutation has cycles
pub lows_cycles : {n : ℕ} {s p q : List ℕ} → IsPermutation n s → IsArrayOf s p → IsSequence p q → record_lows q ≡ cycles s
lows_cycles g a t = record_lows_lem t.table ∙ fixed-cycles (array_of_n g a) ∙ ap cycles a.equal

-- the row of S(n,k) that a sequence q is made from, with its array
record From (n k : ℕ) (s q : Row) : Type 0 where
  array : List ℕ
  row : HasCycles n k s
  is_array : IsArrayOf s array
  sequence : IsSequence array q

-- the sequences made from the arrays of S(n,k)
module _ (n k : ℕ) {sequences : List Row} (m : Made (S n k) sequences) where
  from : (place : ℕ) → place < length sequences → From n k (row_at (S n k) place) (row_at sequences place)
  from place h =
      let b : place < length (S n k) = omega (arith, m.size) in
      let g = (Once.complete n k).sound place b in
      let (p, a) = has_array g.permutation in
      record { array = p; row = g; is_array = a; sequence = m.row place b p a }

  -- it has n elements and k record lows
  has-lows : (place : ℕ) → place < length sequences → HasLows n k (row_at sequences place)
  has-lows place h =
      let f = from place h in
      let a = array_of_n f.row.permutation f.is_array in
      record {
        permutation = rw a.size at f.sequence.permutation;
        count = lows_cycles f.row.permutation f.is_array f.sequence ∙ f.row.count;
      }

  -- every sequence of n with k record lows is made: from the permutation whose array is its table
  there : (q : Row) → HasLows n k q → (r : ℕ) × (r < length sequences) × (row_at sequences r ≡ q)
  there q l =
      let (p, t) = has_table q in
      let a = table_array l.permutation.size t in
      let g : HasCycles n k (product p) =
      record { permutation = product_permutation a; count = sym (fixed-cycles a) ∙ sym (record_lows_lem t) ∙ l.count } in
      let (r, b, e) = (Once.complete n k).place (product p) g in
      let of_row : IsArrayOf (row_at (S n k) r) p = rw e (record { array = rw (product_permutation a).size a; equal = refl }) in
      let own : IsSequence p q = record { permutation = rw a.size l.permutation; table = t } in
      (r, omega (arith, m.size), one_sequence (m.row r b p of_row) own)

  -- and from no two rows is the same one made
  apart : (r s : ℕ) → r < length sequences → s < length sequences → row_at sequences r ≡ row_at sequences s → r ≡ s
  apart r s hr hs e =
      let f = from r hr in
      let g = from s hs in
      let arrays : f.array ≡ g.array = one_table (rw e at f.sequence.table) g.sequence.table in
      let rows : row_at (S n k) r ≡ row_at (S n k) s = sym f.is_array.equal ∙ ap product arrays ∙ g.is_array.equal in
      (Once.complete n k).only r s (omega (arith, m.size)) (omega (arith, m.size)) rows

  pub complete-lows : CompleteLows n k sequences
  complete-lows = record { sound = has-lows; place = there; only = apart }

  -- they are c(n,k)
  pub length-sequences : length sequences ≡ c n k
  length-sequences = m.size ∙ Once.length-S n k

-- for all n and k there is such a list
pub sequences_of : (n k : ℕ) → (sequences : List Row) × Made (S n k) sequences
sequences_of n k = made (S n k) (λ place h. ((Once.complete n k).sound place h).permutation)

-- and only one
pub one_list : (n k : ℕ) {xs ys : List Row} → Made (S n k) xs → Made (S n k) ys → xs ≡ ys
one_list n k = one-made (λ place h. ((Once.complete n k).sound place h).permutation)
