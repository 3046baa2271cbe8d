-- Document 02, c): the exchanges from one permutation to another, for every input. These are definitions; nothing is assumed.
use Rattle.std.specs.Prelude.{◌≡◌, ℕ, ◌*◌, List, ltb, length, Result, Ok, Err}
use Rattle.stirling.specs.Refusal.{refuse, ◌then◌, number}
use Rattle.stirling.specs.declared.Refusal.{Refusal}
use Rattle.stirling.specs.Count.{check_size}
use Rattle.perm.specs.Array.{array_of}
use Rattle.perm.specs.Checks.{check_lent, check_values, check_twice}
use Rattle.perm.specs.Pairs.{Pair, front}
use Rattle.exchanges.specs.declared.Exchanges.{Exchanges}
use Rattle.exchanges.specs.declared.Written.{Written}
use Rattle.exchanges.specs.Carrying.{carrying}
use Rattle.exchanges.specs.Pairs.{pairs_of}

-- the pairs from s to t: those of the array of the permutation that carries s to t
abbrev pub pairs_between : List ℕ → List ℕ → List Pair
pairs_between s t = pairs_of (array_of (length s) (carrying s t))

-- 1 for either of two permutations of n and m values, then 5 for unequal lengths
abbrev pub check_lengths : ℕ → ℕ → ℕ
check_lengths n m = check_size n then check_size m then check_lent n m

-- 6 for either, then 7 for either
abbrev pub check_contents : List ℕ → List ℕ → ℕ
check_contents s t = check_values s then check_values t then check_twice s then check_twice t

-- 5 for a buffer shorter than twice the count
abbrev pub check_room : List ℕ → List ℕ → ℕ → ℕ
check_room s t size = refuse (ltb size (2 * length (pairs_between s t))) 5

-- the checks in their order: 1, 5 for unequal lengths, 6, 7, and last 5 for the buffer
abbrev pub check_between : List ℕ → List ℕ → ℕ → ℕ
check_between s t size = check_lengths (length s) (length t) then check_contents s t then check_room s t size

-- a call's numbers as C has them: no refusal and the two, or the refusal's number and zeros
abbrev pub answer_of : Result Written Refusal → Exchanges
answer_of (Ok pairs) = record { refusal = 0; count = pairs.count; written = pairs.written }
answer_of (Err refusal) = record { refusal = number refusal; count = 0; written = 0 }

-- the pairs from s to t in the front of a buffer that held `before` and then holds `after`, with the answer r: their number, and twice it as the number of bytes
-- written; the bytes after them stay. Or a refusal with zeros, and every byte stays
pub record Exchanged (s t before : List ℕ) (r : Exchanges) (after : List ℕ) : Type 0 where
  pub refusal : r.refusal ≡ check_between s t (length before)
  pub count : r.refusal ≡ 0 → r.count ≡ length (pairs_between s t)
  pub size : r.refusal ≡ 0 → r.written ≡ 2 * length (pairs_between s t)
  pub written : r.refusal ≡ 0 → after ≡ front (pairs_between s t) before
  pub zeros : (r.refusal ≡ 0 → ⊥) → (r.count ≡ 0) × (r.written ≡ 0)
  pub kept : (r.refusal ≡ 0 → ⊥) → after ≡ before
