-- The first row at or after a place that meets the wishes: document 02, i), for every input. These are definitions; nothing is assumed.
use Rattle.std.specs.Prelude.{ℕ, not, ◌||◌, List, eqb, ltb, length, drop, Result, Ok, Err}
use Rattle.stirling.specs.Refusal.{refuse, ◌then◌, unless, number}
use Rattle.stirling.specs.declared.Refusal.{Refusal}
use Rattle.stirling.specs.Count.{check_place}
use Rattle.perm.specs.Lists.{some}
use Rattle.gray.specs.Order.{S}
use Rattle.gray.specs.Listing.{row_at}
use Rattle.find.specs.declared.Found.{Found}
use Rattle.find.specs.Meeting.{meets, least_from}

-- check 5: the wishes or the written slice are not n long
abbrev pub check_lengths : ℕ → ℕ → ℕ → ℕ
check_lengths n values size = refuse (not (eqb values n) || not (eqb size n)) 5

-- check 6 on wishes: a wish above n
abbrev pub check_pattern : ℕ → List ℕ → ℕ
check_pattern n w = refuse (some (ltb n) w) 6

-- the checks of what is asked, before anything is looked for: 1, 2, 3, 5, 6
abbrev pub check_asked : ℕ → ℕ → ℕ → List ℕ → ℕ → ℕ
check_asked n k place w size = check_place n k place then check_lengths n (length w) size then check_pattern n w

-- check 14: no row from the place to the end meets the wishes
abbrev pub check_met : ℕ → ℕ → ℕ → List ℕ → ℕ
check_met n k place w = refuse (not (some (meets w) (drop place (S n k)))) 14

-- all checks, in document 02's order: 1, 2, 3, 5, 6, and last of all 14
abbrev pub check_find : ℕ → ℕ → ℕ → List ℕ → ℕ → ℕ
check_find n k place w size = check_asked n k place w size then check_met n k place w

-- what a call gives, as C has it: no refusal and the place, or the refusal's number and 0
abbrev pub answer_of : Result ℕ Refusal → Found
answer_of (Ok place) = record { refusal = 0; place = place }
answer_of (Err refusal) = record { refusal = number refusal; place = 0 }

-- what the call gives: the refusal, and the first place at or after `place` whose row meets the wishes, 0 on a refusal
abbrev pub find_of : ℕ → ℕ → ℕ → List ℕ → ℕ → Found
find_of n k place w size = record {
  refusal = check_find n k place w size;
  place = unless (check_find n k place w size) (least_from (meets w) (S n k) place) 0;
}

-- what the written slice holds: the row found, and on a refusal what it held before
abbrev pub written_by : ℕ → ℕ → Found → List ℕ → List ℕ
written_by n k found before = unless found.refusal (row_at (S n k) found.place) before
