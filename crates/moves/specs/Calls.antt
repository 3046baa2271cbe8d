-- The calls of document 02, l), for every input: the moves to a permutation, and the check of a list of moves. These are definitions; nothing is assumed.
use Rattle.std.specs.Prelude.{ℕ, ◌*◌, ◌%◌, Bool, List, eqb, ltb, length, take, Result, Ok, Err}
use Rattle.stirling.specs.Refusal.{refuse, ◌then◌, unless, number}
use Rattle.stirling.specs.declared.Refusal.{Refusal}
use Rattle.stirling.specs.Count.{check_size}
use Rattle.perm.specs.Lists.{one, some}
use Rattle.perm.specs.Checks.{check_values, check_twice, check_permutation}
use Rattle.perm.specs.Pairs.{front, pairs_in}
use Rattle.moves.specs.declared.Moves.{Moves}
use Rattle.moves.specs.declared.Checked.{Checked}
use Rattle.moves.specs.State.{leads}
use Rattle.moves.specs.Written.{moves_of}

-- the moves to s, into a buffer of `size` bytes: checks 1, 6, 7, and last 5 for a buffer shorter than twice their number
abbrev pub check_moves : List ℕ → ℕ → ℕ
check_moves s size = check_permutation s then refuse (ltb size (2 * length (moves_of s))) 5

-- the refusal, and the number of moves; 0 on a refusal
abbrev pub list_of : List ℕ → ℕ → Moves
list_of s size = record { refusal = check_moves s size; count = unless (check_moves s size) (length (moves_of s)) 0 }

-- what the buffer then holds: the moves in front, the bytes after them as before; on a refusal all as before
abbrev pub written_by : List ℕ → ℕ → List ℕ → List ℕ
written_by s refusal before = unless refusal (front (moves_of s) before) before

-- the bytes of it that the answer counts, two a move
abbrev pub bytes_counted : List ℕ → List ℕ → List ℕ
bytes_counted s before = take (2 * (list_of s (length before)).count) (written_by s (list_of s (length before)).refusal before)

-- 6 for a list of moves: a position above n
abbrev pub check_positions : ℕ → List ℕ → ℕ
check_positions n list = refuse (some (ltb n) list) 6

-- the check of a list of moves: 1, 5 for a list of odd length, 6 for a value of s or for a position of the list, 7
abbrev pub check_list : List ℕ → List ℕ → ℕ
check_list s list =
    check_size (length s) then refuse (eqb (length list % 2) 1) 5 then check_values s then check_positions (length s) list then check_twice s

-- the refusal, and 1 for yes or 0 for no; 0 on a refusal
abbrev pub verdict_of : List ℕ → List ℕ → Checked
verdict_of s list = record { refusal = check_list s list; valid = unless (check_list s list) (one (leads s (pairs_in list))) 0 }

-- a call's number of moves as C has it: no refusal and the number, or the refusal's number and 0
abbrev pub answer_of : Result ℕ Refusal → Moves
answer_of (Ok count) = record { refusal = 0; count = count }
answer_of (Err refusal) = record { refusal = number refusal; count = 0 }

-- and what a call says of a list of moves
abbrev pub verdict_in : Result Bool Refusal → Checked
verdict_in (Ok valid) = record { refusal = 0; valid = one valid }
verdict_in (Err refusal) = record { refusal = number refusal; valid = 0 }
