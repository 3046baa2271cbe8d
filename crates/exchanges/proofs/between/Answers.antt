-- `exchanges::between` meets its contract: a refusal of the lengths, then of the contents, then of the buffer, or the pairs. Assumes nothing.
use mathlib.Core.Path.{◌≡◌, sym, ap, ◌∙◌}
use Prim.Native.Nat.{ℕ, ◌≤◌}
use native.Mathlib.Omega.{arith}
use mathlib.Core.List.{List}
use lib.ListN.{length, take, replicate}
use lib.Seq.{length-take-le}
use Rattle.perm.specs.Pairs.{Pair, front}
use Rattle.exchanges.specs.Pairs.{pairs_of}
use Rattle.exchanges.specs.Between.{pairs_between, check_lengths, check_contents}
use Rattle.exchanges.proofs.Both.{Both, both_passed}
use Rattle.exchanges.proofs.Pairs.{pairs_few, count_unfixed}
use Rattle.exchanges.proofs.Entries.{entries_size, entries-between, array_served}
use Rattle.exchanges.proofs.Answers.{refused-room, served}
use Rattle.exchanges.proofs.between.Goals.{After-count_pairs-count, After-to_array, In_ok-check_contents}
use Rattle.exchanges.proofs.between.Goals as goal

-- past the lengths
fit : (c : In_ok-check_contents) → check_lengths (length c.args.from.now) (length c.args.to.now) ≡ 0
fit c = sym c.in_ok-check_lengths.ensures

-- past the contents
passed : (c : In_ok-check_contents) → check_contents c.args.from.now c.args.to.now ≡ 0
passed c = sym c.in_ok-check_contents.ensures

both : (c : In_ok-check_contents) → Both c.args.from.now c.args.to.now
both c = both_passed _ _ (fit c) (passed c)

-- the slices that are lent are as long as the permutations
lent : (n : ℕ) → n ≤ 20 → length {A = ℕ} (take n (replicate 20 0)) ≡ n
lent n h = length-take-le n (replicate 20 0) h

module _ (c : After-to_array) (b : Both c.args.from.now c.args.to.now) where
  few : length c.to_array.new.out ≤ 20
  few =
      omega (arith, entries_size b c.carry.ensures (lent _ b.small) c.to_array.ensures, b.small)

  -- the pairs of the entries are those from one permutation to the other
  found : pairs_of c.to_array.new.out ≡ pairs_between c.args.from.now c.args.to.now
  found = entries-between b c.carry.ensures (lent _ b.small) c.to_array.ensures

-- and they are counted
counted : (c : After-count_pairs-count) → c.count_pairs-count.result ≡ length (pairs_of c.to_array.new.out)
counted c = c.count_pairs-count.ensures ∙ count_unfixed c.to_array.new.out

pub carry-requires : goal.carry-requires
carry-requires c = let b = both (goal.at.carry-requires c).In_ok-check_contents in (b.small, b.from, b.to, lent _ b.small)

pub unwrap-requires : goal.unwrap-requires
unwrap-requires c =
    let b = both (goal.at.unwrap-requires c).In_ok-check_contents in
    array_served c.to_array.result b c.carry.ensures (lent _ b.small) c.to_array.ensures

pub overflow_mul-written : goal.overflow_mul-written
overflow_mul-written c =
    let here = goal.at.overflow_mul-written c in
    omega (arith, pairs_few _ _ (counted here.After-count_pairs-count), few here.After-to_array (both here.In_ok-check_contents))

pub returns-then-out-written : goal.returns-then-out-written
returns-then-out-written c =
    let here = goal.at.returns-then-out-written c in
    let past = here.In_ok-check_contents in
    let n = counted here.After-count_pairs-count ∙ ap length (found here.After-to_array (both past)) in
    refused-room c.args.from.now c.args.to.now c.args.out.now (fit past) (passed past) n (omega (arith, c.if-out-written.true))

pub write_pairs-requires : goal.write_pairs-requires
write_pairs-requires c =
    let here = goal.at.write_pairs-requires c in
    (few here.After-to_array (both here.In_ok-check_contents), omega (arith, counted here.After-count_pairs-count, c.if-out-written.false))

pub returns : goal.returns
returns c =
    let here = goal.at.returns c in
    let past = here.In_ok-check_contents in
    let e = found here.After-to_array (both past) in
    let n = counted here.After-count_pairs-count ∙ ap length e in
    let after = c.write_pairs.ensures ∙ ap (λ (x : List Pair). front x c.args.out.now) e in
    served c.args.from.now c.args.to.now c.args.out.now (fit past) (passed past) n (omega (arith, c.if-out-written.false)) after
