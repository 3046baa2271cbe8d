-- The calls of document 02, j) and k), for every kind and every input: count, permutation at a place, place of a permutation. These are definitions; nothing is assumed.
use Rattle.std.specs.Prelude.{ℕ, List, leb, length, Result, Ok, Err}
use Rattle.stirling.specs.Refusal.{refuse, ◌then◌, unless, number}
use Rattle.stirling.specs.declared.Refusal.{Refusal}
use Rattle.stirling.specs.Count.{check_size}
use Rattle.stirling.specs.declared.Counted.{Counted}
use Rattle.perm.specs.Lists.{some, positions}
use Rattle.perm.specs.Checks.{check_lent, check_permutation}
use Rattle.tree.specs.Kind.{listed, breaks, refusal_of}
use Rattle.tree.specs.Listing.{row_at, place_in}
use Rattle.tree.specs.declared.Kind.{Kind}
use Rattle.tree.specs.declared.Place.{Place}

-- count: check 1, then how many rows the list has; 0 on a refusal
abbrev pub count_of : Kind → ℕ → Counted
count_of kind n = record { refusal = check_size n; count = unless (check_size n) (length (listed kind n)) 0 }

-- check 1, then check 3 by this list's count
abbrev pub check_place : Kind → ℕ → ℕ → ℕ
check_place kind n place = check_size n then refuse (leb (length (listed kind n)) place) 3

-- permutation at a place, into a slice of `size` bytes: checks 1, 3, 5
abbrev pub check_unrank : Kind → ℕ → ℕ → ℕ → ℕ
check_unrank kind n place size = check_place kind n place then check_lent n size

-- what the slice then holds: the row at the place, and on a refusal what it held before
abbrev pub written_by : Kind → ℕ → ℕ → ℕ → List ℕ → List ℕ
written_by kind n place refusal before = unless refusal (row_at (listed kind n) place) before

-- check 15 or 16: a cycle longer than two, or one that does not fall
abbrev pub check_kind : Kind → List ℕ → ℕ
check_kind kind s = refuse (some (breaks kind s) (positions (length s))) (refusal_of kind)

-- place of a permutation: checks 1, 6, 7, and 15 or 16
abbrev pub check_rank : Kind → List ℕ → ℕ
check_rank kind s = check_permutation s then check_kind kind s

-- the refusal, and the place; 0 on a refusal
abbrev pub rank_of : Kind → List ℕ → Place
rank_of kind s = record { refusal = check_rank kind s; place = unless (check_rank kind s) (place_in s (listed kind (length s))) 0 }

-- a call's place as C has it: no refusal and the place, or the refusal's number and 0
abbrev pub answer_of : Result ℕ Refusal → Place
answer_of (Ok place) = record { refusal = 0; place = place }
answer_of (Err refusal) = record { refusal = number refusal; place = 0 }
