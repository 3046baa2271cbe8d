-- `rank::entries_of` meets its contract: a refusal is that of check 1, or of checks 6 and 7 as the array is made; otherwise the array stands in front of zeros, and
-- its fixed entries are counted. Assumes nothing.
use mathlib.Core.Path.{refl, sym}
use Prim.Native.Nat.{ℕ}
use mathlib.Core.List.{List}
use lib.ListN.{replicate}
use Rattle.rank.proofs.Stands.{few_values, array-refusal, array-read, array_padded, fixed-cycles}
use Rattle.rank.proofs.entries_of.Goals as goal

-- what the local array holds before its front is lent
abbrev blank : List ℕ
blank = replicate 20 0

pub returns : goal.returns
returns c =
    let s = c.args.s.now in
    let size = sym c.in_ok-check_size.ensures in
    let made = c.in_ok-fixed.ensures in
    let read = array-read s size blank refl made refl in
    record {
      refusal = array-refusal s size blank refl made;
      answer = record {
        array = array_padded (made.written refl) (few_values s size);
        count = fixed-cycles read c.fixed_entries-k.ensures;
        number = made.number;
      };
    }
