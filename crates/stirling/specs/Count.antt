-- Document 01's *count* c(n,k), and the checks 1, 2 and 3 on numbers, which rest on it. These are definitions; nothing is assumed.
use Rattle.std.specs.Prelude.{◌≡◌, ℕ, zero, suc, ◌+◌, ◌*◌, ◌≤◌, Bool, not, cond, ◌&&◌, List, eqb, leb, ltb, get_or, Result, Ok, Err}
use Rattle.stirling.specs.Refusal.{refuse, ◌then◌, unless, within, number}
use Rattle.stirling.specs.declared.Refusal.{Refusal}
use Rattle.stirling.specs.declared.Counted.{Counted}

-- c(0,0) = 1; zero if just one of n, k is 0; otherwise c(n,k) = (n−1)×c(n−1,k) + c(n−1,k−1)
unfoldable pub c : ℕ → ℕ → ℕ
c zero zero = 1
c zero (suc k) = 0
c (suc n) zero = 0
c (suc n) (suc k) = n * c n (suc k) + c n k

-- check 1, as document 02, a), has it: n above 20
abbrev pub check_size : ℕ → ℕ
check_size n = refuse (ltb 20 n) 1

-- the k that check 2 takes, as document 02, a), has it: 0 with n = 0, and 1 to n with n ≥ 1
abbrev pub cycles_taken : ℕ → ℕ → Bool
cycles_taken n k = cond (eqb n 0) (eqb k 0) (within 1 n k)

-- check 1, then check 2: k not one of these
abbrev pub check_cycles : ℕ → ℕ → ℕ
check_cycles n k = check_size n then refuse (not (cycles_taken n k)) 2

-- checks 1 and 2, then check 3: place ≥ c(n,k)
abbrev pub check_place : ℕ → ℕ → ℕ → ℕ
check_place n k place = check_cycles n k then refuse (leb (c n k) place) 3

-- the entry for n and k of a flat table of 21 × 21 numbers, and 0 outside it
abbrev pub entry_of : List ℕ → ℕ → ℕ → ℕ
entry_of counts n k = cond (leb n 20 && leb k 20) (get_or counts (n * 21 + k) 0) 0

-- such a table holds the counts for n up to 20
pub record IsTable (counts : List ℕ) : Type 0 where
  pub holds : (n k : ℕ) → n ≤ 20 → entry_of counts n k ≡ c n k

-- checks 1 and 2, then check 3 by the count that a table has
abbrev pub check_place_in : List ℕ → ℕ → ℕ → ℕ → ℕ
check_place_in counts n k place = check_cycles n k then refuse (leb (entry_of counts n k) place) 3

-- the count where n is at most 20, as the table has it
abbrev pub lookup_of : ℕ → ℕ → ℕ
lookup_of n k = cond (leb n 20) (c n k) 0

-- document 01's call Count, for every n and k: checks 1 and 2, then c(n,k); 0 on a refusal
abbrev pub count_of : ℕ → ℕ → Counted
count_of n k = record { refusal = check_cycles n k; count = unless (check_cycles n k) (c n k) 0 }

-- a call's count as C has it: no refusal and the count, or the refusal's number and 0
abbrev pub counted : Result ℕ Refusal → Counted
counted (Ok count) = record { refusal = 0; count = count }
counted (Err refusal) = record { refusal = number refusal; count = 0 }
