-- The request's demands 2 and 3 as theorems, and what document 02, b) to m), adds, to be read from top to bottom beside them. Each is a law of a crate below, stated
-- in full here so that nothing has to be looked up but the definitions in specs/. What demand 1 asks is met by the proofs of the functions themselves
-- (docs/DEMANDS.md says how). Assumes nothing.
use mathlib.Core.Path.{◌≡◌, ◌∙◌, sym, ap}
use mathlib.Core.Logic.{◌⊎◌}
use native.Mathlib.Omega.{arith}
use Prim.Native.Nat.{ℕ, suc, ◌+◌, ◌-◌, ◌*◌, ◌≤◌, ◌<◌, ◌^◌}
use mathlib.Core.Bool.{Bool, true, false}
use mathlib.Core.List.{List, ◌∷◌, ◌++◌}
use lib.Dec.{eqb, ltb}
use lib.ListN.{length, get_or, take, replicate}
use Rattle.stirling.specs.Refusal.{refuse, unless}
use Rattle.stirling.specs.Count.{c, count_of, check_cycles, check_place}
use Rattle.stirling.proofs.Counts.{size_passes, cycles_passes, cycles-passed, fits}
use Rattle.perm.specs.Lists.{tally, positions}
use Rattle.perm.specs.Permutation.{IsPermutation, IsPartial, at, fixed, exchange, distance}
use Rattle.perm.specs.Cycle.{cycles, follow}
use Rattle.perm.specs.Array.{IsArray, IsArrayOf, product, position, entries_changed}
use Rattle.perm.specs.declared.Array.{Array}
use Rattle.perm.specs.Checks.{check_to_array, check_permutation, ToArray}
use Rattle.perm.specs.Pairs.{Pair, bytes_of, front, pairs_in}
use Rattle.perm.proofs.Arrays.{product_permutation, has_array, one_array, cycles-product}
use Rattle.perm.proofs.Apart as Apart
use Rattle.perm.proofs.Distance.{changed-arrays}
use Rattle.perm.proofs.Cases as PermCases
use Rattle.gray.specs.declared.Block.TheVariants.{Extend as E}
use Rattle.gray.specs.Order.{Row, S, letter}
use Rattle.gray.specs.Blocks.{blocks}
use Rattle.gray.specs.Listing.{row_at, HasCycles, Complete, Neighbours, Closed}
use Rattle.gray.specs.Threes.{threes, t}
use Rattle.gray.proofs.Once as Once
use Rattle.gray.proofs.Neighbours as Neighbours
use Rattle.gray.proofs.Entries as Entries
use Rattle.gray.proofs.Cases as Cases
use Rattle.rank.specs.Search.{reading_of, cycles_of, size_of, blocks_read, rows_read, before}
use Rattle.rank.specs.Descent.{step, block_with, shorter, passed}
use Rattle.rank.specs.Place.{Unranked, Ranked}
use Rattle.rank.specs.declared.Standing.{Standing}
use Rattle.rank.proofs.Starts.{before-none, before-suc}
use Rattle.rank.proofs.Around.{starts_at}
use Rattle.rank.proofs.Passed.{enough}
use Rattle.rank.proofs.RoundTrip.{place_back, permutation_back}
use Rattle.explain.specs.declared.Level.{Level}
use Rattle.explain.specs.declared.Explanation.{Explanation}
use Rattle.explain.specs.Levels.{letter_byte, level, levels, total}
use Rattle.explain.specs.Following.{Leads}
use Rattle.explain.specs.Explain.{Explains}
use Rattle.explain.proofs.Following.{leads_one}
use Rattle.explain.proofs.Unchanged.{NoChoice, no_choice, at_three}
use Rattle.explain.proofs.Answered.{adds-up, lead, as-ranked}
use Rattle.explain.proofs.Cases as Levels
use Rattle.exchanges.specs.declared.Exchanges.{Exchanges}
use Rattle.exchanges.specs.Carrying.{Carries, carrying}
use Rattle.exchanges.specs.Pairs.{pairs_of, exchange_all, Inside}
use Rattle.exchanges.specs.Between.{Exchanged}
use Rattle.exchanges.proofs.Carrying.{carries, one-carries}
use Rattle.exchanges.proofs.Answered.{literal, turns, number, least, none}
use Rattle.exchanges.proofs.Cases as Pairs
use Rattle.inversion.specs.Table.{IsTable, IsSequence, record_lows}
use Rattle.inversion.specs.Calls.{FromInversions, ToInversions}
use Rattle.inversion.proofs.Tables.{table_array, record_lows_lem, one_table, has_table}
use Rattle.inversion.proofs.Sequences.{has_sequence, one_sequence}
use Rattle.inversion.proofs.Calls.{table_back, sequence_back}
use Rattle.inversion.proofs.Cases as Inversions
use Rattle.sequences.specs.Listed.{Made, CompleteLows}
use Rattle.sequences.proofs.Listed.{lows_cycles, sequences_of, one_list, complete-lows, length-sequences}
use Rattle.find.specs.Meeting.{meets}
use Rattle.find.specs.Find.{check_asked, check_find, find_of}
use Rattle.find.specs.Counting.{meeting}
use Rattle.find.proofs.Counting.{counted, none_meets}
use Rattle.find.proofs.Results as Results
use Rattle.find.proofs.Cases as Searches
use Rattle.tree.specs.Tree.{Rule, home, tail, every, highest, each, subtree, permutations}
use Rattle.tree.specs.Involution.{longer}
use Rattle.tree.specs.Bell.{IsHighest, FallsFrom}
use Rattle.tree.specs.Kind.{listed, involutions, bells, IsOf, IsInvolution, IsBell}
use Rattle.tree.specs.Listing.{Holds, IsRooted}
use Rattle.tree.specs.Calls.{count_of as listCount, check_rank, rank_of}
use Rattle.tree.specs.Numbers.{AreBellNumbers}
use Rattle.tree.specs.Sizes.{size}
use Rattle.tree.specs.declared.Kind.{Kind}
use Rattle.tree.specs.declared.Kind.TheVariants.{Involution, Bell}
use Rattle.tree.proofs.Settled.{highest_settled, highest-away}
use Rattle.tree.proofs.Subtree as Subtrees
use Rattle.tree.proofs.Parent.{rooted}
use Rattle.tree.proofs.Every as Every
use Rattle.tree.proofs.Involution.{longer_open, longer_closed}
use Rattle.tree.proofs.Followed as Followed
use Rattle.tree.proofs.PerKind as PerKind
use Rattle.tree.proofs.Places.{size-listed}
use Rattle.tree.proofs.Numbers as Numbers
use Rattle.tree.proofs.Checked.{rank_passed}
use Rattle.tree.proofs.RoundTrip as Trips
use Rattle.tree.proofs.Cases as Trees
use Rattle.moves.specs.State.{home as homeState, after, IsPossible, LeadsTo}
use Rattle.moves.specs.Written.{around, away, long_cycles, HasValues, IsDrawn}
use Rattle.moves.specs.Calls.{check_moves, list_of, bytes_counted, check_list, verdict_of}
use Rattle.moves.proofs.Total.{one_more}
use Rattle.moves.proofs.Said as Moves
use Rattle.moves.proofs.Cases as MoveCases
use Rattle.cursor.specs.declared.Cursor.{Cursor}
use Rattle.cursor.specs.declared.Opening.{Opening}
use Rattle.cursor.specs.declared.Opening.TheVariants.{Whole, Section}
use Rattle.cursor.specs.Machine.{Machine, InSection, Call, forward, back, show, Steps, observe, row_of, whole, refusal_of, moved, turn, IsStep, step_to, answered}
use Rattle.cursor.specs.Walk.{machine_of, sound, called, start, start_of, check_opening, opened, walk_run, plain_run, Each, KeepsTo, permutation_of, ShowsOther, Undone, forwards, Round}
use Rattle.cursor.proofs.Calls as Calls
use Rattle.cursor.proofs.Steps as Steps
use Rattle.cursor.proofs.Reported.{shown_number, no_number}
use Rattle.cursor.proofs.Changed as Changed
use Rattle.cursor.proofs.Undone.{undone, by-back, by-forward}
use Rattle.cursor.proofs.Round as Round
use Rattle.cursor.proofs.Sections as Sections
use Rattle.cursor.proofs.Cases as Walks
use Rattle.sheet.specs.declared.Grammar.{Grammar}
use Rattle.sheet.specs.declared.Grammar.TheVariants.{Current, Filed}
use Rattle.sheet.specs.Asked.{Rows, Unreadable, asked_in, asked, asked_filed}
use Rattle.sheet.specs.Sheet.{refused_line, answer_to, answer}
use Rattle.sheet.specs.Rewriting.{rewritten_to, rewritten}
use Rattle.sheet.specs.Form.{IsSheet, Plain}
use Rattle.sheet.proofs.Outcome.{eleven_only, not-filed}
use Rattle.sheet.proofs.Reader.{rows_read_lem, numbers, reads, only}
use Rattle.sheet.proofs.Rewriting as Rewriting
use Rattle.sheet.proofs.Answers as SheetCases

-- ---- Demand 2: the counts, the lists, the places and the transposition arrays equal those of relations (a) to (e), from place to permutation and back

-- the counts: for all n and k that the checks 1 and 2 pass the call Count serves c(n,k), which fits 64 bits and is the length of S(n,k)
pub counts : (n k : ℕ) → check_cycles n k ≡ 0 → (count_of n k ≡ record { refusal = 0; count = c n k }) × (c n k < 2 ^ 64) × (length (S n k) ≡ c n k)
counts n k e = (rw e, fits n k (cycles-passed n k e).0, Once.length-S n k)

-- and no list is lost by the checks: for n up to 20 they pass every k for which some permutation of n has k cycles, n = 0 with k = 0 among them
pub served : (n k : ℕ) → n ≤ 20 → 0 < c n k → check_cycles n k ≡ 0
served n k = cycles_passes n k 0

-- from place to permutation and back: a permutation written for a place of S(n,k) is ranked k and that place, with its number of fixed points
pub place_to_place : {n k place : ℕ} {before after : List ℕ} → Unranked n k place before 0 after
    → (r : Standing)
    → Ranked after r
    → r ≡ record { refusal = 0; k = k; place = place; fixed = fixed after }
place_to_place = place_back

-- from permutation to place and back: what is written for the place of a permutation is that permutation, and it is not refused
pub permutation_to_permutation : {s before after : List ℕ} {r : Standing} {q : ℕ} → Ranked s r
    → r.refusal ≡ 0
    → length before ≡ length s
    → Unranked (length s) r.k r.place before q after
    → (q ≡ 0) × (after ≡ s)
permutation_to_permutation = permutation_back

-- the arrays: every array gives a permutation, every permutation has an array, and only one; its fixed entries are as many as the cycles
pub array_to_permutation : {n : ℕ} {p : List ℕ} → IsArray n p → IsPermutation n (product p)
array_to_permutation = product_permutation

pub permutation_to_array : {n : ℕ} {s : List ℕ} → IsPermutation n s → (p : List ℕ) × IsArrayOf s p
permutation_to_array = has_array

pub one_array_only : {n : ℕ} {p q : List ℕ} → IsArray n p → IsArray n q → product p ≡ product q → p ≡ q
one_array_only = one_array

pub fixed-entries : {n : ℕ} {p : List ℕ} → IsArray n p → cycles (product p) ≡ tally (λ i. eqb (at p i) i) (positions n)
fixed-entries = cycles-product

-- ---- Demand 3, first half: every list of calls

-- for either open that is not refused, of the whole list or, as document 02, h), has it, of a section, and every list of calls after it, each call getting the record
-- that the one before handed back: after the open and after each call, the record, with both bounds, and the answer (refusal, three positions, the number of entries
-- changed, what show hands out, the number of fixed points with it) are the plain machine's. One claim about the whole list
pub calls : (opening : Opening) → check_opening opening ≡ 0 → (cs : List Call) → walk_run opening cs ≡ plain_run opening cs
calls = Calls.calls

-- from every place of every section, the whole list among them: at each forward or back that is not refused the three positions are different, the first is the
-- smallest, new = old·⟨i,j,l⟩, and no other three are so
pub steps : (m : Machine) (call : Call) → InSection m → Steps call → refusal_of m call ≡ 0
    → IsStep m.n (row_of m) (row_of (turn m call)) (answered m call).i (answered m call).j (answered m call).l
steps = Steps.steps

-- ---- Demand 3, second half: the lists. For all n and k, so for all that the checks pass, n = 0 with k = 0 among them

-- S(n,k) holds every permutation of n with exactly k cycles, counted by following, exactly once, and nothing else
pub complete : (n k : ℕ) → Complete n k (S n k)
complete = Once.complete

-- neighbours in it differ by three values going round on three positions
pub neighbours : (n k : ℕ) → Neighbours n (S n k)
neighbours = Neighbours.neighbours

-- last and first too, where it has two rows or more
pub closed : (n k : ℕ) → Closed n (S n k)
closed = Neighbours.closed

-- every two different permutations of n with k cycles differ on at least three positions
pub three_apart : (n k : ℕ) (s t : Row) → HasCycles n k s → HasCycles n k t → (s ≡ t → ⊥) → 3 ≤ distance s t
three_apart n k s t p q different = Apart.three_apart p.permutation q.permutation (p.count ∙ sym q.count) different

-- ---- Document 01's "What is proved of the cases", with its edges, and the empty list of document 02, a)

pub cases : Cases.Table
cases = Cases.table

-- the steps among them, and every call on the walk of the empty list
pub walk-cases : Walks.Table
walk-cases = Walks.table

-- ---- Document 02, b): what made it this place. Of whatever the call that explains a place answers and writes, where it does not refuse

-- the last column of the first n rows adds up to the place
pub column : {s : List ℕ} {before after : List Level} {r : Explanation} → Explains s before r after → r.refusal ≡ 0
    → total (take (length s) after) ≡ r.place
column = adds-up

-- these rows, followed downward from n and k, lead to the permutation, and any permutation that they lead to is this one
pub followed : {s : List ℕ} {before after : List Level} {r : Explanation} → Explains s before r after → r.refusal ≡ 0
    → Leads (length s) r.k false (take (length s) after) s
    × ((t : Row) → Leads (length s) r.k false (take (length s) after) t → t ≡ s)
followed = lead

-- no rows at all lead to two permutations
pub lead_to_one : (n k : ℕ) (rows : List Level) (t u : Row) → Leads n k false rows t → Leads n k false rows u → t ≡ u
lead_to_one n k = leads_one n k false

-- k and the place are those that the call for the place gives, which has the number of fixed points beside them
pub same_as_rank : {s : List ℕ} {before after : List Level} {r : Explanation} → Explains s before r after → r.refusal ≡ 0
    → {q : Standing}
    → Ranked s q
    → q ≡ record { refusal = 0; k = r.k; place = r.place; fixed = fixed s }
same_as_rank = as-ranked

-- (b), and (a) at 1 and 2, give block 0 and 0 before, and the reading passes down unchanged
pub without_choice : {m k : ℕ} {s : Row} (backward : Bool) → NoChoice (suc m) k → HasCycles (suc m) k s
    → levels (suc m) k backward s
    ≡ record { letter = letter_byte (letter (suc m) k); backward = backward; block = 0; before = 0 }
    ∷ levels m (cycles_of k (block_with (suc m) k (position (suc m) s))) backward (shorter m s)
without_choice = no_choice

-- below (a) at 3 it passes down unchanged too
pub below_three : {s : Row} (backward : Bool) → HasCycles 3 1 s
    → levels 3 1 backward s ≡ level 3 (step 3 1 backward (position 3 s)) ∷ levels 2 (cycles_of 1 (block_with 3 1 (position 3 s))) backward (shorter 2 s)
below_three = at_three

-- examples, with place 38
pub level-cases : Levels.Table
level-cases = Levels.table

-- ---- Document 02, c): exchanges from one permutation to another

-- for any two permutations of n there is one that, as a product on the right, carries the first to the second, and only one
pub one-carrying : {n : ℕ} {s t : List ℕ} → IsPermutation n s → IsPermutation n t
    → Carries n s t (carrying s t) × ((u : List ℕ) → Carries n s t u → u ≡ carrying s t)
one-carrying p q = (carries p q, λ u c. one-carries p q c (carries p q))

-- of whatever the call for exchanges answers and writes, where it does not refuse: in the front of the buffer stand pi, i for each i, rising, where the array p of the
-- permutation u that carries the first to the second has pi other than i, and the bytes after them are as before
pub entries-moved : {s t before after : List ℕ} {r : Exchanges} → Exchanged s t before r after → r.refusal ≡ 0
    → {u p : List ℕ}
    → Carries (length s) s t u
    → IsArrayOf u p
    → (r.count ≡ length (pairs_of p)) × (after ≡ front (pairs_of p) before)
entries-moved = literal

-- the bytes written, read as pairs, name positions 1 to n, and exchanging the values at them, one pair after another, turns the first permutation into the second
pub turned : {s t before after : List ℕ} {r : Exchanges} → Exchanged s t before r after → r.refusal ≡ 0
    → Inside (length s) (pairs_in (take r.written after)) × (exchange_all (pairs_in (take r.written after)) s ≡ t)
turned = turns

-- the count is n less the cycles, by following, of the permutation that carries the first to the second
pub less_cycles : {s t before after : List ℕ} {r : Exchanges} → Exchanged s t before r after → r.refusal ≡ 0
    → {u : List ℕ}
    → Carries (length s) s t u
    → r.count + cycles u ≡ length s
less_cycles = number

-- every list of pairs of positions 1 to n, equal ones in a pair included, that turns the first into the second has at least as many
pub fewest : {s t before after : List ℕ} {r : Exchanges} → Exchanged s t before r after → r.refusal ≡ 0
    → (x : List Pair)
    → Inside (length s) x
    → exchange_all x s ≡ t
    → r.count ≤ length x
fewest = least

-- equal permutations give none, write nothing and are not refused, whatever buffer is lent
pub equal_none : {s before after : List ℕ} {r : Exchanges} → check_permutation s ≡ 0 → Exchanged s s before r after
    → (r ≡ record { refusal = 0; count = 0; written = 0 }) × (after ≡ before)
equal_none = none

-- examples
pub pair_cases : Pairs.Table
pair_cases = Pairs.table

-- ---- Document 02, d): the running start of a block, `before`: the sum of the sizes of the blocks before it in the reading at hand

-- going on to the next block adds one count to it: the size of the block that is passed
pub next-block : (n k : ℕ) (backward : Bool) (j : ℕ) → j < length (blocks n k)
    → (before n k backward 0 ≡ 0)
    × (before n k backward (suc j) ≡ before n k backward j + size_of n k (get_or (blocks_read n k backward) j (E 0)))
next-block n k backward j l = (before-none n k backward, before-suc n k backward j l)

-- it is the number of rows before the block in the reading at hand: the list, as it is read, is so many rows, then the rows of the block, read that way too, then others
pub start_of_block : (n k : ℕ) (backward : Bool) (j : ℕ) → 1 ≤ n → j < length (blocks n k)
    → (earlier : List Row) × (later : List Row)
    × (reading_of backward n k ≡ earlier ++ (rows_read n k backward (get_or (blocks_read n k backward) j (E 0)) ++ later))
    × (length earlier ≡ before n k backward j)
start_of_block = starts_at

-- the additions that find a permutation, or its place, one for each block passed at each size (`passed`; the contracts of the two descents say that they make so many):
-- n×(n−1)÷2 in all are enough
pub additions_enough : (n k : ℕ) (backward : Bool) (s : Row) → HasCycles n k s → 2 * passed n k backward s ≤ n * (n - 1)
additions_enough = enough

-- ---- Document 02, e): how many values stand at their own position, `fixed`: the number of i with s(i) = i, and not of those with pi = i

-- of whatever permutation to array and the call for the place answer for one permutation: both report its number of fixed points, and on a refusal 0
pub fixed_points : {s before after : List ℕ} {r : Array} {q : Standing} → ToArray s before r after → Ranked s q
    → (r.fixed ≡ unless (check_to_array s (length before)) (fixed s) 0) × (q.fixed ≡ unless (check_permutation s) (fixed s) 0)
fixed_points {s} a b = (a.number ∙ ap (λ refusal. unless refusal (fixed s) 0) a.refusal, b.number ∙ ap (λ refusal. unless refusal (fixed s) 0) b.refusal)

-- whatever record is handed in, a show that is not refused reports it of the permutation that it hands out
pub fixed-shown : (w : Cursor) → (called w show).answer.refusal ≡ 0 → (called w show).answer.fixed ≡ fixed (take w.n (called w show).answer.perm)
fixed-shown = shown_number

-- and every other call, and every call that is refused, reports 0
pub fixed_silent : (w : Cursor) (call : Call) → (call ≡ show → ⊥) ⊎ ((called w call).answer.refusal ≡ 0 → ⊥) → (called w call).answer.fixed ≡ 0
fixed_silent = no_number

-- examples: fixed points and fixed entries of the array are two numbers
pub fixed-cases : PermCases.Table
fixed-cases = PermCases.table

-- ---- Document 02, f): an array read as an inversion table: entry i is one more than the number of earlier elements of the sequence that are higher than the i-th

-- every table, that is every array, has a sequence, and only one
pub table_to_sequence : {n : ℕ} {p : List ℕ} → IsArray n p → (q : List ℕ) × IsSequence p q × ((r : List ℕ) → IsSequence p r → r ≡ q)
table_to_sequence a = let (q, s) = has_sequence a in (q, s, λ r t. one_sequence t s)

-- every sequence has a table, which is an array, and only one
pub sequence_to_table : {n : ℕ} {q : List ℕ} → IsPermutation n q → (p : List ℕ) × IsArray n p × IsTable q p × ((r : List ℕ) → IsTable q r → r ≡ p)
sequence_to_table {q = q} g = let (p, t) = has_table q in (p, table_array g.size t, t, λ r u. one_table u t)

-- from table to sequence and back: what is written for the sequence of a table is that table, and it is not refused
pub table_to_table : {p before after : List ℕ} → FromInversions p before 0 after
    → {again table : List ℕ} {r : ℕ}
    → length again ≡ length p
    → ToInversions after again r table
    → (r ≡ 0) × (table ≡ p)
table_to_table = table_back

-- from sequence to table and back: what is written for the table of a sequence is that sequence, and it is not refused
pub sequence_to_sequence : {q before after : List ℕ} → ToInversions q before 0 after
    → {again sequence : List ℕ} {r : ℕ}
    → length again ≡ length q
    → FromInversions after again r sequence
    → (r ≡ 0) × (sequence ≡ q)
sequence_to_sequence = sequence_back

-- a sequence has as many record lows as its table p has i with pi = i
pub lows_of_table : {q p : List ℕ} → IsTable q p → record_lows q ≡ tally (λ i. eqb (at p i) i) (positions (length p))
unfolding fixed
lows_of_table = record_lows_lem

-- so the array of a permutation of k cycles, read as a table, gives a sequence of k record lows
pub lows_of_cycles : {n : ℕ} {s p q : List ℕ} → IsPermutation n s → IsArrayOf s p → IsSequence p q → record_lows q ≡ cycles s
lows_of_cycles = lows_cycles

-- for all n and k there is a list of the sequences made from the arrays of S(n,k), row by row, and only one
pub one_list_of_sequences : (n k : ℕ) → (sequences : List Row) × Made (S n k) sequences × ((others : List Row) → Made (S n k) others → others ≡ sequences)
one_list_of_sequences n k = let (sequences, m) = sequences_of n k in (sequences, m, λ others o. one_list n k o m)

-- it holds every sequence of n with exactly k record lows exactly once, and nothing else, and so it has c(n,k) rows
pub sequences_complete : (n k : ℕ) {sequences : List Row} → Made (S n k) sequences → CompleteLows n k sequences × (length sequences ≡ c n k)
sequences_complete n k m = (complete-lows n k m, length-sequences n k m)

-- examples
pub inversion_cases : Inversions.Table
inversion_cases = Inversions.table

-- ---- Document 02, g): the list is closed. `calls` and `steps` above have the step between its last place and place 0 among theirs

-- forward from the last place of a list of two rows or more hands back the record of place 0, with the three positions of the step from the last row to the first
pub last_to_first : (n k : ℕ) → check_cycles n k ≡ 0 → 2 ≤ c n k
    → called (observe (moved (start n k) (c n k - 1))) forward ≡ step_to (moved (start n k) (c n k - 1)) 0
last_to_first = Round.last_to_first

-- and back from place 0 that of the last place, with those from the first row to the last
pub first_to_last : (n k : ℕ) → check_cycles n k ≡ 0 → 2 ≤ c n k
    → called (observe (start n k)) back ≡ step_to (start n k) (c n k - 1)
first_to_last = Round.first_to_last

-- on a record of the whole list that passes check 8 forward is refused 9 and back 10 on a list of one permutation, the empty list of n = 0 among them, and on no other
pub refused_alone : (w : Cursor) → sound w ≡ true → whole (machine_of w) ≡ true
    → ((called w forward).answer.refusal ≡ refuse (eqb (c w.n w.k) 1) 9) × ((called w back).answer.refusal ≡ refuse (eqb (c w.n w.k) 1) 10)
refused_alone w e all = let (last, first) = Round.refused_ends w e in (last ∙ rw all, first ∙ rw all)

-- forward then back gives the record that it started from, with the three positions the other way round, and back then forward too: on the whole list at every place,
-- and in a section wherever the first step is not refused
pub forward_back : (w : Cursor) → ((called w forward).answer.refusal ≡ 0) ⊎ (whole (machine_of w) ≡ true) → Undone w forward back
forward_back w = undone w forward back by-back

pub back_forward : (w : Cursor) → ((called w back).answer.refusal ≡ 0) ⊎ (whole (machine_of w) ≡ true) → Undone w back forward
back_forward w = undone w back forward by-forward

-- from whatever place of the whole list a planner starts, c(n,k) forwards meet every permutation of n with k cycles exactly once, and nothing else, and end where they
-- began
pub once_round : (w : Cursor) → sound w ≡ true → whole (machine_of w) ≡ true → Round w
once_round = Round.once_round

-- ---- Document 02, h): one planner, one section. `calls` and `steps` above are about either open and its bounds

-- the plain open is the section of the whole list, from place 0 to the last
pub plain_open : (n k : ℕ) → opened (Whole n k) ≡ opened (Section n k 0 (c n k - 1))
plain_open = Calls.opened-whole

-- on a record of a shorter section that passes check 8 forward is refused 9 at its highest place, back 10 at its lowest, and neither elsewhere
pub refused_ends : (w : Cursor) → sound w ≡ true → whole (machine_of w) ≡ false
    → ((called w forward).answer.refusal ≡ refuse (eqb w.place w.highest) 9) × ((called w back).answer.refusal ≡ refuse (eqb w.place w.lowest) 10)
refused_ends w e shorter = let (last, first) = Round.refused_ends w e in (last ∙ rw shorter, first ∙ rw shorter)

-- the calls never leave the section: in every record of every list of calls, n, k and both bounds are those of the open, and lowest ≤ place ≤ highest
pub stays_inside : (opening : Opening) → check_opening opening ≡ 0 → (cs : List Call) → Each (KeepsTo (start_of opening)) (walk_run opening cs)
stays_inside = Sections.keeps

-- two sections that do not overlap never show the same permutation, whatever calls are made on either: not in a record, and not by show
pub never_shared : (n k lowest highest lowest' highest' : ℕ) → (highest < lowest') ⊎ (highest' < lowest)
    → check_opening (Section n k lowest highest) ≡ 0
    → check_opening (Section n k lowest' highest') ≡ 0
    → (cs ds : List Call)
    → Each (λ w. Each (ShowsOther w) (walk_run (Section n k lowest' highest') ds)) (walk_run (Section n k lowest highest) cs)
never_shared = Sections.sections-differ

-- and none of its permutations is left out: t forwards from the open of a section show the row t places after its lowest, up to its highest
pub section-rows : (n k lowest highest : ℕ) → check_opening (Section n k lowest highest) ≡ 0 → (t : ℕ) → lowest + t ≤ highest
    → permutation_of (forwards t (opened (Section n k lowest highest)).cursor) ≡ row_at (S n k) (lowest + t)
section-rows = Sections.section-rows

-- ---- Document 02, i): the first permutation that has some values where they are wished. `find_of` is what the call answers for every input

-- a permutation meets wishes just where it has the wished value at each position with a wish
pub meets_each : (w : List ℕ) (s : Row) → meets w s ≡ true → (i : ℕ) → 1 ≤ i → i ≤ length w → (at w i ≡ 0 → ⊥) → at s i ≡ at w i
meets_each = Results.meets_each

pub each-meets : (w : List ℕ) (s : Row) → ((i : ℕ) → 1 ≤ i → i ≤ length w → (at w i ≡ 0 → ⊥) → at s i ≡ at w i) → meets w s ≡ true
each-meets = Results.meets_all

-- what is found stands in the list, at or after the place, and meets the wishes; no row between the place and it does
pub first_met : (n k place : ℕ) (w : List ℕ) (size : ℕ) → check_find n k place w size ≡ 0
    → (place ≤ (find_of n k place w size).place)
    × ((find_of n k place w size).place < c n k)
    × (meets w (row_at (S n k) (find_of n k place w size).place) ≡ true)
    × ((q : ℕ) → place ≤ q → q < (find_of n k place w size).place → meets w (row_at (S n k) q) ≡ false)
first_met = Results.found_first

-- 14 is refused where what is asked passes the checks 1, 2, 3, 5 and 6, and no row from the place to the end meets the wishes
pub refused_14 : (n k place : ℕ) (w : List ℕ) (size : ℕ) → check_asked n k place w size ≡ 0
    → ((q : ℕ) → place ≤ q → q < c n k → meets w (row_at (S n k) q) ≡ false)
    → (find_of n k place w size).refusal ≡ 14
refused_14 = Results.unmet-refused

-- and only there
pub only_refused_14 : (n k place : ℕ) (w : List ℕ) (size : ℕ) → (find_of n k place w size).refusal ≡ 14
    → (check_asked n k place w size ≡ 0) × ((q : ℕ) → place ≤ q → q < c n k → meets w (row_at (S n k) q) ≡ false)
only_refused_14 = Results.refused-unmet

-- a value wished at two positions is simply never met
pub value-twice : (n k place : ℕ) (w : List ℕ) (size : ℕ) → check_asked n k place w size ≡ 0
    → (i j : ℕ) → 1 ≤ i → i < j → j ≤ n → at w i ≡ at w j → (at w i ≡ 0 → ⊥)
    → (find_of n k place w size).refusal ≡ 14
value-twice = Results.value-twice

-- without wishes the answer is the place itself
pub all-free : (n k place : ℕ) → check_place n k place ≡ 0 → find_of n k place (replicate n 0) n ≡ record { refusal = 0; place = place }
all-free = Results.all-free

-- how many permutations of n with k cycles meet wishes: c(m, k − q), where m positions are free and the wishes close q cycles, counted by following; none where a value is
-- wished twice or above n
pub count_met : (n k : ℕ) (w : List ℕ) → IsPartial n w → tally (meets w) (S n k) ≡ meeting k w
count_met = counted

pub count_none : (n k : ℕ) (w : List ℕ) → length w ≡ n → (IsPartial n w → ⊥) → tally (meets w) (S n k) ≡ 0
count_none = none_meets

-- examples
pub find_cases : Searches.Table
find_cases = Searches.table

-- ---- Document 02, j) and k): permutations as a tree. `tree rule n` is the tree of n by a rule, which says which l may be used; `involutions n` and `bells n` are the lists of
-- j) and k), and `listed kind n` either of them; `count_of`, `check_unrank` and `rank_of` of crate `tree` are what the calls answer for every input

-- the sentence that fixes the order, for any rule: the rows of a subtree are its permutation, then the subtrees of its children, j rising above the highest position whose value
-- is away, for each j, l rising over the positions below j that the rule allows
pub subtree_sentence : (rule : Rule) (n : ℕ) {s : List ℕ} → IsPermutation n s
    → subtree rule n s ≡ s ∷ each (ltb (highest s)) (λ j. each (rule s) (λ l. subtree rule n (exchange l j s)) (j - 1)) n
subtree_sentence = Subtrees.sentence

-- that highest position: above it every position has its own value, and it is 1 or its value is away
pub highest-position : (s : List ℕ) → ((i : ℕ) → highest s < i → i ≤ length s → at s i ≡ i) × ((highest s ≡ 1) ⊎ (at s (highest s) ≡ highest s → ⊥))
highest-position s = (highest_settled s (length s), highest-away s (length s))

-- k)'s law for any rule: no permutation occurs twice, and exchanging the highest position whose value is away with the position where that value stands gives the parent
pub any_rule : (rule : Rule) (n : ℕ) → IsRooted rule n
any_rule = rooted

-- its three uses: for the list of j), for that of k), and for the one with every l < j
pub involutions_rooted : (n : ℕ) → IsRooted home n
involutions_rooted = any_rule home

pub bells_rooted : (n : ℕ) → IsRooted tail n
bells_rooted = any_rule tail

pub permutations_rooted : (n : ℕ) → IsRooted every n
permutations_rooted = any_rule every

-- which holds every permutation of n exactly once
pub permutations_complete : (n : ℕ) → Holds (IsPermutation n) (permutations n)
permutations_complete = Every.complete

-- j): a cycle longer than two: followed from any of its positions, it closes after three steps or more
pub longer_than_two : (s : List ℕ) (i : ℕ) → longer s i ≡ true → (t : ℕ) → 1 ≤ t → follow s t i ≡ i → 3 ≤ t
longer_than_two = longer_open

-- and any other closes after one step or two, so that two lead back
pub at_most_two : (s : List ℕ) (i : ℕ) → longer s i ≡ false → follow s 2 i ≡ i
at_most_two = longer_closed

-- k): a permutation is of this kind just if each of its cycles, followed from its highest number, falls, each number below the one before, until it closes
pub bell_falls : {n : ℕ} {s : List ℕ} → IsBell n s → (i : ℕ) → 1 ≤ i → i ≤ n → IsHighest s i → FallsFrom s i
bell_falls = Followed.falls-followed

pub falls_bell : {n : ℕ} {s : List ℕ} → IsPermutation n s → ((i : ℕ) → 1 ≤ i → i ≤ n → IsHighest s i → FallsFrom s i) → IsBell n s
falls_bell = Followed.followed-falls

-- j): the list holds every permutation of n with no cycle longer than two exactly once, and nothing else
pub involutions_complete : (n : ℕ) → Holds (IsInvolution n) (involutions n)
involutions_complete = PerKind.complete Involution

-- k): the list holds every permutation of n whose cycles all fall from their highest number to their lowest exactly once, and nothing else
pub bells_complete : (n : ℕ) → Holds (IsBell n) (bells n)
bells_complete = PerKind.complete Bell

-- for both: the length, which is the count, is T(0,n): T(f,0) = 1, and T(f,m) = T(f+1,m−1) + f×T(f−1,m−1) for j), T(f+1,m−1) + f×T(f,m−1) for k)
pub listed-count : (kind : Kind) (n : ℕ) → n ≤ 20 → listCount kind n ≡ record { refusal = 0; count = size kind 0 n }
listed-count kind n u = rw (size_passes n u, size-listed kind n)

-- k)'s counts are the Bell numbers, and for 20 it is this one
pub bell_numbers : AreBellNumbers (λ n. length (bells n))
bell_numbers = Numbers.bell_numbers

pub bells_of_twenty : listCount Bell 20 ≡ record { refusal = 0; count = 51724158235372 }
unfolding size
bells_of_twenty = listed-count Bell 20 (omega arith)

-- place and permutation are inverse: the row at a place has that place
pub listed-place : (kind : Kind) (n place : ℕ) → n ≤ 20 → place < length (listed kind n) → rank_of kind (row_at (listed kind n) place) ≡ record { refusal = 0; place = place }
listed-place = Trips.place_back

-- and where nothing is refused, the place found is one of the list, and the row at it is the permutation
pub listed-row : (kind : Kind) (s : List ℕ) → check_rank kind s ≡ 0
    → ((rank_of kind s).place < length (listed kind (length s))) × (row_at (listed kind (length s)) (rank_of kind s).place ≡ s)
listed-row = Trips.row_back

-- nothing is refused where the slice is a permutation of the kind of at most 20 values, and only there
pub listed-taken : (kind : Kind) (s : List ℕ) → length s ≤ 20 → IsOf kind (length s) s → check_rank kind s ≡ 0
listed-taken kind s u k = Trips.rank_passes u k

pub only-listed : (kind : Kind) (s : List ℕ) → check_rank kind s ≡ 0 → (length s ≤ 20) × IsOf kind (length s) s
only-listed = rank_passed

-- the list for four that the document writes out, the others for few, and edges
pub tree-cases : Trees.Table
tree-cases = Trees.table

-- ---- Document 02, l): moves by the spare position 0. `bytes_counted s before` is what the call for the moves to s writes to a buffer that held `before`, as many bytes as its
-- answer counts moves, two a move

-- the moves that are written are valid, and lead from the identity to s, position 0 empty before and after
pub written_lead : (s before : List ℕ) → check_moves s (length before) ≡ 0 → LeadsTo s (pairs_in (bytes_counted s before))
written_lead = Moves.written_lead

-- so the check says yes to them
pub written_checked : (s before : List ℕ) → check_moves s (length before) ≡ 0 → verdict_of s (bytes_counted s before) ≡ record { refusal = 0; valid = 1 }
written_checked = Moves.written_checked

-- each of them comes about as the document says, whatever those before it have done: the value at the least position of a cycle of two or more goes to position 0, or
-- another position, which is empty, takes the value that s wants there
pub as_drawn : (s before : List ℕ) → check_moves s (length before) ≡ 0 → (earlier later : List Pair) (m : Pair)
    → pairs_in (bytes_counted s before) ≡ earlier ++ (m ∷ later)
    → IsPossible (after (homeState (length s)) earlier) m × IsDrawn s (after (homeState (length s)) earlier) m
as_drawn = Moves.written-as-drawn

-- the moves round a cycle are one more than it has values
pub around_cycle : {s : List ℕ} → IsPermutation (length s) s → (a c : ℕ) → 1 ≤ a → a ≤ length s → HasValues s a c → length (around s a) ≡ suc c
around_cycle = one_more

-- the total in the result is the values away from their own position plus the cycles of two or more, and at most 30
pub moves_total : (s before : List ℕ) → check_moves s (length before) ≡ 0
    → ((list_of s (length before)).count ≡ away s + long_cycles s) × ((list_of s (length before)).count ≤ 30)
moves_total s before z = (Moves.number s before z, Moves.number-few s before z)

-- no valid list of moves from the identity to s, whoever drew it up, is shorter
pub shortest_moves : (s before : List ℕ) → check_moves s (length before) ≡ 0 → (ms : List Pair) → LeadsTo s ms → (list_of s (length before)).count ≤ length ms
shortest_moves = Moves.number-least

-- the check says yes just if a list that is not refused is valid and leads to s, for every list
pub yes_valid : (s list : List ℕ) → (verdict_of s list).valid ≡ 1 → (check_list s list ≡ 0) × LeadsTo s (pairs_in list)
yes_valid = Moves.yes-only

pub valid_yes : (s list : List ℕ) → check_list s list ≡ 0 → LeadsTo s (pairs_in list) → (verdict_of s list).valid ≡ 1
valid_yes = Moves.says

-- and otherwise no, which is 0
pub else_no : (s list : List ℕ) → ((verdict_of s list).valid ≡ 1 → ⊥) → (verdict_of s list).valid ≡ 0
else_no = Moves.says_no

-- no to every list with a move from a position to itself
pub itself_no : (s list : List ℕ) (earlier later : List Pair) (p : ℕ) → pairs_in list ≡ earlier ++ ((p, p) ∷ later) → (verdict_of s list).valid ≡ 0
itself_no = Moves.itself_no

-- of a permutation that is taken no valid list is refused
pub valid_taken : {s : List ℕ} → check_permutation s ≡ 0 → (ms : List Pair) → LeadsTo s ms → verdict_of s (bytes_of ms) ≡ record { refusal = 0; valid = 1 }
valid_taken = Moves.says-yes

-- the document's example and others, and the order of the refusals
pub move-cases : MoveCases.Table
move-cases = MoveCases.table

-- ---- Document 02, m): leading zeros. `asked text` is what the reader of a sheet finds in a text, `asked_filed text` what it found before this request, by which filed sheets
-- are read; `rewritten text` is what the program rewrite writes for a text, `answer text` what stablist writes

-- what is written for an old sheet is read as the four numbers that were found in it, so it is not refused 11
pub rewritten_asks : (text : List ℕ) (n k place m : ℕ) → asked_filed text ≡ Rows n k place m
    → (asked (rewritten text) ≡ Rows n k place m) × (answer (rewritten text) ≡ refused_line 11 → ⊥)
rewritten_asks text n k place m e =
    let asks = Rewriting.asks_alike Current text ∙ e in
    (asks, λ refused. rows_read_lem (sym (eleven_only (rewritten text) refused) ∙ asks))

-- any other text is refused 11, and what is written for a text is answered as the text was before, whatever it is
pub others_refused : (text : List ℕ) → asked_filed text ≡ Unreadable → rewritten text ≡ refused_line 11
others_refused text e = sym (not-filed text (sym e))

pub rewritten-answer : (text : List ℕ) → answer (rewritten text) ≡ answer_to (asked_filed text)
rewritten-answer = Rewriting.answers_alike

-- two old sheets give equal bytes exactly when their four numbers are equal
pub equal_bytes : (text other : List ℕ) (n k place m n' k' place' m' : ℕ) → asked_filed text ≡ Rows n k place m → asked_filed other ≡ Rows n' k' place' m'
    → rewritten text ≡ rewritten other → (n ≡ n') × (k ≡ k') × (place ≡ place') × (m ≡ m')
equal_bytes text other n k place m n' k' place' m' e f bytes = numbers (sym e ∙ Rewriting.equal_bytes text other bytes ∙ f)

pub equal_numbers : (text other : List ℕ) (n k place m : ℕ) → asked_filed text ≡ Rows n k place m → asked_filed other ≡ Rows n k place m → rewritten text ≡ rewritten other
equal_numbers text other n k place m e f = ap rewritten_to (e ∙ sym f)

-- a text that the reader takes is its own rewriting, and rewriting twice is rewriting once
pub own_rewriting : (text : List ℕ) (n k place m : ℕ) → asked text ≡ Rows n k place m → rewritten text ≡ text
own_rewriting = Rewriting.own_rewriting

pub rewritten-twice : (text : List ℕ) → rewritten (rewritten text) ≡ rewritten text
rewritten-twice = Rewriting.twice

-- each reader takes the texts of its form and no other: the header, four numbers of the grammar, single spaces between, each line ended by LF, nothing after
pub sheet_taken : (g : Grammar) (text : List ℕ) (n k place m : ℕ) → IsSheet g text n k place m → asked_in g text ≡ Rows n k place m
sheet_taken = reads

pub only_sheets : (g : Grammar) (text : List ℕ) (n k place m : ℕ) → asked_in g text ≡ Rows n k place m → IsSheet g text n k place m
only_sheets = only

-- the reader takes a text exactly when the old one does, as the same numbers, and none of the four numbers, other than `0`, begins with 0
pub plain-taken : {text : List ℕ} {n k place m : ℕ} (s : IsSheet Filed text n k place m) → Plain s → asked text ≡ Rows n k place m
plain-taken = Rewriting.plain-taken

pub taken-before : (text : List ℕ) (n k place m : ℕ) → asked text ≡ Rows n k place m → asked_filed text ≡ Rows n k place m
taken-before = Rewriting.taken-before

pub taken-plain : {text : List ℕ} {n k place m : ℕ} (s : IsSheet Filed text n k place m) → asked text ≡ Rows n k place m → Plain s
taken-plain = Rewriting.taken-plain

pub zeros_refused : {text : List ℕ} {n k place m : ℕ} (s : IsSheet Filed text n k place m) → (Plain s → ⊥) → answer text ≡ refused_line 11
zeros_refused = Rewriting.zeros_refused

-- `0`, `00`, `04`, zeros that do not lead, 19 and 20 digits, numbers out of range, and texts that are no sheet
pub sheet_cases : SheetCases.Table
sheet_cases = SheetCases.table

-- ---- Document 02, n): entries changed on the board

-- `entries_changed n s u` is on how many entries the arrays of two permutations of n differ, whatever arrays of them are named
pub entries_of_arrays : {n : ℕ} {s u p q : List ℕ} → IsPermutation n s → IsPermutation n u → IsArrayOf s p → IsArrayOf u q → entries_changed n s u ≡ distance p q
entries_of_arrays g h = changed-arrays g h

-- for all n and k: the arrays of neighbours in S(n,k) differ in at most three entries
pub at_most_three : (n k place : ℕ) → suc place < length (S n k) → entries_changed n (row_at (S n k) place) (row_at (S n k) (suc place)) ≤ 3
at_most_three = Entries.at_most_three

-- the number of neighbours, ring step left out, whose arrays differ in exactly three is t(n,k)
pub exactly_three : (n k : ℕ) → threes n (S n k) ≡ t n k
exactly_three = Entries.exactly_three

-- the ring step, from the last row to the first, changes at most three as well
pub ring_at_most_three : (n k : ℕ) → 2 ≤ length (S n k) → entries_changed n (row_at (S n k) (length (S n k) - 1)) (row_at (S n k) 0) ≤ 3
ring_at_most_three = Entries.ring_at_most_three

-- 6 for n = 6 and k = 2, as t has it and as they are counted in the list; the edges of t; and the step of S(5,2) that changes three
pub threes-cases : Cases.Threes
threes-cases = Cases.threes_table

-- entries changed and positions changed are two numbers
pub changed_cases : PermCases.Changes
changed_cases = PermCases.changes

-- from every place of every section, the ring step of the whole list among them: forward and back that are not refused report on how many entries the array of the new
-- permutation differs from that of the old one, and that is one, two or three
pub changed_reported : (m : Machine) (call : Call) → InSection m → Steps call → refusal_of m call ≡ 0
    → ((answered m call).changed ≡ entries_changed m.n (row_of m) (row_of (turn m call))) × (1 ≤ (answered m call).changed) × ((answered m call).changed ≤ 3)
changed_reported m call inside kind e =
    (Changed.changed m call kind e, Changed.changed_at_least_one m call inside kind e, Changed.changed_at_most_three m call inside kind e)

-- whatever record is handed in, they report in how many bytes the array that is handed back differs from the one that was handed in
pub changed_on_records : (w : Cursor) (call : Call) → Steps call → (called w call).answer.changed ≡ distance w.array (called w call).cursor.array
changed_on_records = Changed.changed_records

-- jump, show and every refusal report 0, and so does either open, refused or not
pub changed_silent : (w : Cursor) (call : Call) → (Steps call → ⊥) ⊎ ((called w call).answer.refusal ≡ 0 → ⊥) → (called w call).answer.changed ≡ 0
changed_silent = Changed.none_changed

pub changed_opening : (opening : Opening) → (opened opening).answer.changed ≡ 0
changed_opening = Changed.open_none_changed
