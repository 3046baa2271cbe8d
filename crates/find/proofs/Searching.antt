-- The search through the blocks of a reading: what stands in a block, and what the search keeps as it goes on from block to block. Assumes nothing.
use mathlib.Core.Path.{◌≡◌, refl, sym, ap, subst, ◌∙◌}
use mathlib.Core.Logic.{◌⊎◌, inl, inr, ⊎_elim}
use Prim.Native.Nat.{ℕ, zero, suc, ◌+◌, ◌-◌, ◌*◌, ◌≤◌, ◌<◌}
use native.Mathlib.Omega.{arith}
use mathlib.Core.Bool.{Bool, true, false, ◌&&◌, true≢false}
use mathlib.Core.List.{List, []}
use lib.Dec.{ltb}
use lib.ListN.{length, get_or, length-reverse}
use borrow.Table.Steps.{cases}
use borrow.Author.Tests.{ltb-true, ltb-false}
use Rattle.std.proofs.Common.{Some, None}
use Rattle.stirling.specs.Count.{c}
use Rattle.stirling.proofs.Refusals.{and-true}
use Rattle.perm.specs.Lists.{tally, some}
use Rattle.perm.proofs.Tally.{tally-reverse, none_passes}
use Rattle.gray.specs.declared.Block.{Block}
use Rattle.gray.specs.Order.{Row, S}
use Rattle.gray.specs.Blocks.{blocks, position_of}
use Rattle.gray.specs.Listing.{row_at}
use Rattle.gray.proofs.Indexed.{block}
use Rattle.gray.proofs.InPlace.{in_place}
use Rattle.gray.proofs.Once.{length-S}
use Rattle.rank.specs.Ranking.{PlaceIn}
use Rattle.rank.specs.declared.Below.{Below}
use Rattle.rank.specs.Search.{reading_of, grown, cycles_of, backward_of, turned, below_block, before, number_read}
use Rattle.rank.proofs.Reversed.{row-size}
use Rattle.rank.proofs.Starts.{in_range, before-none, before-suc, before-all, before-most, number_inside, number_back, block_read}
use Rattle.rank.proofs.Around.{placed_in}
use Rattle.find.specs.declared.Search.{Search}
use Rattle.find.specs.Meeting.{granted, meets, least_from}
use Rattle.find.specs.Search.{smaller, place_found, pattern_of, below_at, enters, Searchable, Searched}
use Rattle.find.proofs.Shorter.{meets-grown}
use Rattle.find.proofs.Least.{First, least_first, first-none, some_found, none_found, found_first, missing_first}
use Rattle.find.proofs.Patterns.{length_pattern, pattern_at}

-- a reading has as many rows as the list, and a test counts alike in both
pub length-reading : (backward : Bool) (n k : ℕ) → length (reading_of backward n k) ≡ c n k
length-reading true n k = length-reverse (S n k) ∙ length-S n k
length-reading false n k = length-S n k

tally-reading : (p : Row → Bool) (backward : Bool) (n k : ℕ) → tally p (reading_of backward n k) ≡ tally p (S n k)
tally-reading p true n k = tally-reverse p (S n k)
tally-reading p false n k = refl

-- where some row of the list passes, the first of a reading is one of its rows
pub first_below : (p : Row → Bool) (backward : Bool) (n k : ℕ) {r : ℕ} → some p (S n k) ≡ true → First p (reading_of backward n k) 0 r → r < c n k
first_below p backward n k {r} t f =
    cases (ltb r (c n k))
    (λ l. ltb-true r (c n k) l)
    (λ l. absurd (true≢false (sym t ∙ ap (ltb 0) (sym (tally-reading p backward n k))
    ∙ first-none p (reading_of backward n k) 0 f (rw (length-reading backward n k) (ltb-false r (c n k) l)))))

-- where none does, no row of a reading does
none_read : (p : Row → Bool) (backward : Bool) (n k : ℕ) → some p (S n k) ≡ false → (r : ℕ) → r < c n k → p (row_at (reading_of backward n k) r) ≡ false
none_read p backward n k f r h =
    none_passes p [] (reading_of backward n k)
    (tally-reading p backward n k ∙ omega (arith, ltb-false 0 (tally p (S n k)) f))
    r (rw (length-reading backward n k) h)

-- what stands below a block, from its number in written order
pub below-is : (n k : ℕ) (backward : Bool) (number : ℕ) {j : ℕ} {b : Block} → number < length (blocks n k)
    → j ≡ number_read n k backward number
    → b ≡ block (blocks n k) j
    → below_block n k backward b ≡ below_at n k backward number
below-is n k backward number {j} {b} l e f =
    ap (below_block n k backward) (f ∙ ap (block (blocks n k)) e ∙ sym (block_read n k backward number l))

-- the block with a number in a reading of S(n,k)
module _ (n k : ℕ) (backward : Bool) (number : ℕ) (h : 1 ≤ n) (l : number < length (blocks n k)) where
  abbrev part : Below
  part = below_at n k backward number

  pub part-position : (1 ≤ part.position) × (part.position ≤ n)
  part-position =
      subst (λ (b : Block). (1 ≤ position_of n b) × (position_of n b ≤ n)) (sym (block_read n k backward number l))
      (in_range n (block (blocks n k) (number_read n k backward number)) h (in_place n k (number_read n k backward number)))

  -- the next block starts where its rows end
  pub part-next : before n k backward number + c (n - 1) part.cycles ≡ before n k backward (suc number)
  part-next = sym (before-suc n k backward number l)

  -- its rows have n at one position, and below it a row of the list that it is made from
  pub part-row : (r : ℕ) → r < c (n - 1) part.cycles
      → row_at (reading_of backward n k) (before n k backward number + r) ≡ grown n part.position (row_at (reading_of part.backward (n - 1) part.cycles) r)
  part-row r u =
      let j = number_read n k backward number in
      let is = block_read n k backward number l in
      let back = number_back n k backward number l in
      subst
      (λ (i : ℕ). row_at (reading_of backward n k) (before n k backward i + r) ≡ grown n part.position (row_at (reading_of part.backward (n - 1) part.cycles) r))
      back
      (placed_in backward n k j r h (number_inside n k backward number l) (ap (λ (b : Block). grown n (position_of n b) (row_at (reading_of part.backward (n - 1) part.cycles) r)) is)
      (subst (λ (b : Block). PlaceIn (turned backward (backward_of b)) (n - 1) (cycles_of k b) (row_at (reading_of part.backward (n - 1) part.cycles) r) r) is
      (record { below = u; row = refl }))
      ).row

-- what wishes say of its rows
part_meets : (n k : ℕ) (backward : Bool) (number : ℕ) (w : List ℕ) → 1 ≤ n → n < length w → number < length (blocks n k)
    → let q = below_at n k backward number in
    (r : ℕ) → r < c (n - 1) q.cycles
    → meets (pattern_of n w) (row_at (reading_of backward n k) (before n k backward number + r))
    ≡ (granted (get_or w q.position 0) n && meets (smaller (n - 1) q.position (pattern_of n w)) (row_at (reading_of q.backward (n - 1) q.cycles) r))
part_meets zero k backward number w h z l r u = absurd (omega arith)
part_meets (suc m) k backward number w h z l r u =
    let q = below_at (suc m) k backward number in
    let e : suc m - 1 ≡ m = omega arith in
    let (lx, ux) = part-position (suc m) k backward number h l in
    let γ = row_at (reading_of q.backward (suc m - 1) q.cycles) r in
    let long : length γ ≡ suc m - 1 = row-size (suc m - 1) q.cycles r q.backward u in
    ap (meets (pattern_of (suc m) w)) (part-row (suc m) k backward number h l r u)
    ∙ meets-grown (pattern_of (suc m) w) (length_pattern (suc m) w z) q.position lx ux γ (long ∙ e)
    ∙ ap (λ (a : ℕ). granted a (suc m) && meets (smaller m q.position (pattern_of (suc m) w)) γ) (pattern_at (suc m) w q.position lx ux)
    ∙ ap (λ (j : ℕ). granted (get_or w q.position 0) (suc m) && meets (smaller j q.position (pattern_of (suc m) w)) γ) (sym e)

-- the search at a block of a reading: `first` rows stand before it, none of those from the start on meets the wishes, and at most one list below was gone through, one
-- whose start lay in its middle
pub record Going (n k : ℕ) (backward : Bool) (start : ℕ) (w : List ℕ) (number first calls : ℕ) : Type 0 where
  pub stands : first ≡ before n k backward number
  pub none : (i : ℕ) → start ≤ i → i < first → meets (pattern_of n w) (row_at (reading_of backward n k) i) ≡ false
  pub few : calls ≤ n + 1
  pub once : (calls ≡ 1) ⊎ ((1 ≤ start) × (start < first))

pub begins : (n k : ℕ) (backward : Bool) (start : ℕ) (w : List ℕ) → Going n k backward start w 0 0 1
begins n k backward start w = record {
  stands = sym (before-none n k backward);
  none = λ i l u. absurd (omega arith);
  few = omega arith;
  once = inl refl;
}

-- where it has gone through all blocks, no row from the start on meets the wishes
pub ends : {n k : ℕ} {backward : Bool} {start : ℕ} {w : List ℕ} {number first calls : ℕ} → 1 ≤ n → start < c n k
    → Going n k backward start w number first calls
    → length (blocks n k) ≤ number
    → First (meets (pattern_of n w)) (reading_of backward n k) start first
ends {n} {k} {backward} {start} {w} {number} {first} h s g l =
    let all : first ≡ c n k = g.stands ∙ before-all n k backward number h l in
    let z = length-reading backward n k in
    record { from = omega arith; most = omega arith; none = g.none; passes = λ u. absurd (omega arith) }

-- at a block, with the part that it makes
module _ {n k : ℕ} {backward : Bool} {start : ℕ} {w : List ℕ} {number first calls : ℕ} (h : 1 ≤ n) (z : n < length w)
    (g : Going n k backward start w number first calls) (l : number < length (blocks n k)) {here : Below} (e : here ≡ below_at n k backward number) where
  abbrev size : ℕ
  size = c (n - 1) here.cycles

  pub position_here : (1 ≤ here.position) × (here.position ≤ n)
  position_here = subst (λ (q : Below). (1 ≤ q.position) × (q.position ≤ n)) (sym e) (part-position n k backward number h l)

  -- the next one starts where it ends
  pub ends_at : first + size ≡ before n k backward (suc number)
  ends_at =
      ap (λ (a : ℕ). a + size) g.stands
      ∙ ap (λ (q : Below). before n k backward number + c (n - 1) q.cycles) e
      ∙ part-next n k backward number h l

  meets-in : (r : ℕ) → r < size → meets (pattern_of n w) (row_at (reading_of backward n k) (first + r))
      ≡ (granted (get_or w here.position 0) n && meets (smaller (n - 1) here.position (pattern_of n w)) (row_at (reading_of here.backward (n - 1) here.cycles) r))
  meets-in r u =
      ap (λ (a : ℕ). meets (pattern_of n w) (row_at (reading_of backward n k) (a + r))) g.stands
      ∙ subst
      (λ (q : Below). r < c (n - 1) q.cycles → meets (pattern_of n w) (row_at (reading_of backward n k) (before n k backward number + r))
      ≡ (granted (get_or w q.position 0) n && meets (smaller (n - 1) q.position (pattern_of n w)) (row_at (reading_of q.backward (n - 1) q.cycles) r)))
      (sym e) (part_meets n k backward number w h z l r) u

  -- none of the rows from the start on, up to a row of the block, meets the wishes, where none of the block's own does
  none-to : (b : ℕ) → ((r : ℕ) → r < b → start ≤ first + r → meets (pattern_of n w) (row_at (reading_of backward n k) (first + r)) ≡ false)
      → (i : ℕ) → start ≤ i → i < first + b → meets (pattern_of n w) (row_at (reading_of backward n k) i) ≡ false
  none-to b missed i l u =
      cases (ltb i first)
      (λ t. g.none i l (ltb-true i first t))
      (λ f.
      let e : first + (i - first) ≡ i = omega (arith, ltb-false i first f) in
      subst (λ (j : ℕ). meets (pattern_of n w) (row_at (reading_of backward n k) j) ≡ false) e (missed (i - first) (omega (arith, ltb-false i first f)) (omega arith)))

  -- going on, where none of the block's rows from the start on meets the wishes
  on : (calls' : ℕ) → ((r : ℕ) → r < size → start ≤ first + r → meets (pattern_of n w) (row_at (reading_of backward n k) (first + r)) ≡ false)
      → calls' ≤ n + 1
      → (calls' ≡ 1) ⊎ ((1 ≤ start) × (start < first + size))
      → Going n k backward start w (suc number) (first + size) calls'
  on calls' missed few once = record { stands = ends_at; none = none-to size missed; few = few; once = once }

  -- the start lies behind it
  pub passes-by : first + size ≤ start → Going n k backward start w (suc number) (first + size) calls
  passes-by d = on calls (λ r u s. absurd (omega arith)) g.few (⊎_elim inl (λ (b : (1 ≤ start) × (start < first)). inr (b.0, omega arith)) g.once)

  -- or none of its rows meets the wishes
  pub stays_out : enters n here w ≡ false → Going n k backward start w (suc number) (first + size) calls
  stays_out f =
      on calls (λ r u s. meets-in r u ∙ by_entry (granted (get_or w here.position 0) n) f r u) g.few
      (⊎_elim inl (λ (b : (1 ≤ start) × (start < first)). inr (b.0, omega arith)) g.once)
    where
      by_entry : (b : Bool) → (b && some (meets (smaller (n - 1) here.position (pattern_of n w))) (S (n - 1) here.cycles)) ≡ false
          → (r : ℕ) → r < size
          → (b && meets (smaller (n - 1) here.position (pattern_of n w)) (row_at (reading_of here.backward (n - 1) here.cycles) r)) ≡ false
      by_entry false e r u = refl
      by_entry true e r u = none_read (meets (smaller (n - 1) here.position (pattern_of n w))) here.backward (n - 1) here.cycles e r u

  -- it is entered: its rows meet the wishes as the rows below meet what is left
  module _ (t : enters n here w ≡ true) where
    abbrev p : Row → Bool
    p = meets (smaller (n - 1) here.position (pattern_of n w))

    abbrev below : List Row
    below = reading_of here.backward (n - 1) here.cycles

    pub some_below : some p (S (n - 1) here.cycles) ≡ true
    some_below = (and-true (granted (get_or w here.position 0) n) _ t).1

    alike : (r : ℕ) → r < size → meets (pattern_of n w) (row_at (reading_of backward n k) (first + r)) ≡ p (row_at below r)
    alike r u = meets-in r u ∙ ap (λ (b : Bool). b && p (row_at below r)) (and-true (granted (get_or w here.position 0) n) _ t).0

    length-below : length below ≡ size
    length-below = length-reading here.backward (n - 1) here.cycles

    -- so the list below has rows
    pub starts-below : start < first + size → start - first < size
    starts-below s =
        let any = first_below p here.backward (n - 1) here.cycles some_below (least_first p below 0 (omega arith)) in
        omega arith

    module _ {r : ℕ} (f : First p below (start - first) r) (s : start < first + size) where
      -- the first row that meets the wishes is in it
      pub found : r < size → First (meets (pattern_of n w)) (reading_of backward n k) start (first + r)
      found u =
          let all = length-reading backward n k in
          let most = before-most n k backward (suc number) h in
          record {
            from = omega (arith, f.from);
            most = omega (arith, ends_at);
            none = none-to r (λ i l h. alike i (omega arith) ∙ f.none i (omega arith) l);
            passes = λ _. alike r u ∙ f.passes (rw length-below u);
          }

      -- its first row is looked at from the start on, and so something was found, unless the start lies in its middle
      in-middle : size ≤ r → first < start
      in-middle u =
          cases (ltb first start)
          (λ q. ltb-true first start q)
          (λ q.
          let o : start - first ≡ 0 = omega (arith, ltb-false first start q) in
          absurd (omega (arith, first_below p here.backward (n - 1) here.cycles some_below (subst (λ (a : ℕ). First p below a r) o f))))

      only-call : size ≤ r → calls ≡ 1
      only-call u = ⊎_elim (λ e. e) (λ (b : (1 ≤ start) × (start < first)). absurd (omega (arith, in-middle u))) g.once

      -- nothing was found in it, by at most n lists
      pub missed : (inner : ℕ) → size ≤ r → inner ≤ n → Going n k backward start w (suc number) (first + size) (calls + inner)
      missed inner u few =
          on (calls + inner)
          (λ i li si. alike i li ∙ f.none i (omega arith) (omega arith))
          (omega (arith, only-call u))
          (inr (omega (arith, in-middle u), s))

-- the search of a list without values, of which some row meets the wishes
few_rows : (k : ℕ) → c 0 k ≤ 1
unfolding c
few_rows zero = omega arith
few_rows (suc k) = omega arith

pub searched-nothing : {n k : ℕ} {backward : Bool} {start : ℕ} {w : List ℕ} → n ≡ 0 → Searchable n k start w
    → Searched n k backward start w (record { place = Some 0; calls = 1 })
searched-nothing {n} {k} {backward} {start} {w} e s =
    let p = meets (pattern_of n w) in
    let rows = reading_of backward n k in
    let low : c n k ≤ 1 = rw e (few_rows k) in
    let first : start ≡ 0 = omega (arith, s.below) in
    let f = least_first p rows 0 (omega arith) in
    let here : least_from p rows 0 ≡ 0 = omega (arith, first_below p backward n k s.met f) in
    record {
      place = rw first (some_found p rows 0 (rw here at f) (rw (length-reading backward n k) (omega (arith, s.below))));
      few = omega arith;
      straight = λ _. omega arith;
      missed = λ _. omega arith;
    }

-- what the search of a list below says of its rows
module _ {n k : ℕ} {backward : Bool} {start : ℕ} {w u : List ℕ} {r : Search} (e : pattern_of n w ≡ u) (h : start ≤ c n k) (s : Searched n k backward start w r) where
  place-in : r.place ≡ place_found (meets u) (reading_of backward n k) start
  place-in = s.place ∙ ap (λ (v : List ℕ). place_found (meets v) (reading_of backward n k) start) e

  -- the row found is the first
  pub first_of : {x : ℕ} → r.place ≡ Some x → First (meets u) (reading_of backward n k) start x × (x < c n k)
  first_of {x} q =
      let (f, l) = found_first (meets u) (reading_of backward n k) start (rw (length-reading backward n k) h) (sym q ∙ place-in) in
      (f, rw (length-reading backward n k) at l)

  -- or there is none
  pub none_of : r.place ≡ None → First (meets u) (reading_of backward n k) start (c n k)
  none_of q = rw (length-reading backward n k) at (missing_first (meets u) (reading_of backward n k) start (rw (length-reading backward n k) h) (sym q ∙ place-in))

-- the search ends with what it found in a block, by as many lists as were gone through before and below
pub searched-found : {n k : ℕ} {backward : Bool} {start : ℕ} {w : List ℕ} {number first calls r inner size : ℕ} → 1 ≤ n
    → Going n k backward start w number first calls
    → First (meets (pattern_of n w)) (reading_of backward n k) start (first + r)
    → r < size
    → first + size ≤ c n k
    → inner ≤ 2 * (n - 1) + 1
    → (start - first ≡ 0 → inner ≤ n - 1 + 1)
    → Searched n k backward start w (record { place = Some (first + r); calls = calls + inner })
searched-found {n} {k} {backward} {start} {w} {number} {first} {calls} {r} {inner} h g f u m few straight = record {
  place = some_found (meets (pattern_of n w)) (reading_of backward n k) start f (rw (length-reading backward n k) (omega arith));
  few = ⊎_elim
      (λ (e : calls ≡ 1). omega arith)
      (λ (b : (1 ≤ start) × (start < first)). omega (arith, g.few, straight (omega arith)))
      g.once;
  straight = λ z. ⊎_elim
      (λ (e : calls ≡ 1). omega (arith, straight (omega arith)))
      (λ (b : (1 ≤ start) × (start < first)). absurd (omega arith))
      g.once;
  missed = λ z. absurd cc;
}

-- or with none
pub searched_none : {n k : ℕ} {backward : Bool} {start : ℕ} {w : List ℕ} {number first calls : ℕ} → 1 ≤ n
    → Searchable n k start w
    → Going n k backward start w number first calls
    → length (blocks n k) ≤ number
    → Searched n k backward start w (record { place = None; calls = calls })
searched_none {n} {k} {backward} {start} {w} {number} {first} h s g l =
    let all : c n k ≡ first = sym (g.stands ∙ before-all n k backward number h l) in
    record {
      place = none_found (meets (pattern_of n w)) (reading_of backward n k) start (ends h s.below g l) (rw (length-reading backward n k) (omega arith));
      few = omega (arith, g.few);
      straight = λ _. g.few;
      missed = λ _. g.few;
    }
