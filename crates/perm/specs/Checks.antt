-- The checks 5, 6 and 7 on slices, and what the calls between permutations and arrays give, for every input. These are definitions; nothing is assumed.
use Rattle.std.specs.Prelude.{◌≡◌, ℕ, not, List, eqb, ltb, length, Result, Ok, Err}
use Rattle.stirling.specs.Refusal.{refuse, ◌then◌, unless, within, number}
use Rattle.stirling.specs.declared.Refusal.{Refusal}
use Rattle.stirling.specs.Count.{check_size}
use Rattle.perm.specs.Lists.{tally, some, positions}
use Rattle.perm.specs.Permutation.{at, fixed}
use Rattle.perm.specs.Array.{IsArrayOf, product}
use Rattle.perm.specs.declared.Array.{Array}

-- check 5: the written slice is not n long
abbrev pub check_lent : ℕ → ℕ → ℕ
check_lent n size = refuse (not (eqb size n)) 5

-- check 6 on a permutation: a value not 1 to n
abbrev pub check_values : List ℕ → ℕ
check_values s = refuse (some (λ v. not (within 1 (length s) v)) s) 6

-- check 7: a value twice
abbrev pub check_twice : List ℕ → ℕ
check_twice s = refuse (some (λ v. ltb 1 (tally (eqb v) s)) (positions (length s))) 7

-- check 6 on an array: an entry i not 1 to i
abbrev pub check_entries : List ℕ → ℕ
check_entries p = refuse (some (λ i. not (within 1 i (at p i))) (positions (length p))) 6

-- the checks of a permutation that is read: 1, 6, 7
abbrev pub check_permutation : List ℕ → ℕ
check_permutation s = check_size (length s) then check_values s then check_twice s

-- permutation to array: checks 1, 5, 6, 7
abbrev pub check_to_array : List ℕ → ℕ → ℕ
check_to_array s size = check_size (length s) then check_lent (length s) size then check_values s then check_twice s

-- array to permutation: checks 1, 5, 6
abbrev pub check_from_array : List ℕ → ℕ → ℕ
check_from_array p size = check_size (length p) then check_lent (length p) size then check_entries p

-- a call's number of fixed points as C has it: no refusal and the number, or the refusal's number and 0
abbrev pub answer_of : Result ℕ Refusal → Array
answer_of (Ok fixed) = record { refusal = 0; fixed = fixed }
answer_of (Err refusal) = record { refusal = number refusal; fixed = 0 }

-- permutation to array, from s into a slice that held `before` and then holds `after`: the refusal, and the number of fixed points of s, 0 on a refusal
pub record ToArray (s before : List ℕ) (r : Array) (after : List ℕ) : Type 0 where
  pub refusal : r.refusal ≡ check_to_array s (length before)
  pub number : r.fixed ≡ unless r.refusal (fixed s) 0
  pub written : r.refusal ≡ 0 → IsArrayOf s after
  pub kept : (r.refusal ≡ 0 → ⊥) → after ≡ before

-- array to permutation, from p into a slice that held `before` and then holds `after`, with the refusal r
pub record FromArray (p before : List ℕ) (r : ℕ) (after : List ℕ) : Type 0 where
  pub refusal : r ≡ check_from_array p (length before)
  pub written : r ≡ 0 → after ≡ product p
  pub kept : (r ≡ 0 → ⊥) → after ≡ before
