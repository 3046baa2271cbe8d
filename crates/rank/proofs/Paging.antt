-- Rows of a reading of S(n,k) from a place on, block by block: those that lie in one block are rows of the list below it, with n put into each. Assumes nothing.
use Prim.Native.Nat.{ℕ, zero, suc, ◌+◌, ◌-◌, ◌*◌, ◌≤◌, ◌<◌}
use native.Mathlib.Omega.{arith}
use native.Mathlib.Nat.{add-mul}
use mathlib.Core.Path.{◌≡◌, refl, sym, ap, ◌∙◌}
use mathlib.Core.Bool.{Bool, false}
use mathlib.Core.List.{List, [], ◌++◌, map, map-append}
use lib.ListN.{length, take, drop, length-append, length-drop, length-map}
use lib.Seq.{length-take-le, take_at, drop_at, take-add, drop-drop, drop-cons, ext_get_or}
use Rattle.stirling.specs.Count.{c}
use Rattle.stirling.proofs.Counts.{inside}
use Rattle.gray.specs.Order.{Row}
use Rattle.gray.specs.Listing.{row_at}
use Rattle.gray.proofs.Indexed.{block}
use Rattle.rank.specs.declared.Part.{Part}
use Rattle.rank.specs.declared.Stop.{Stop}
use Rattle.rank.specs.Search.{reading_of, grown, size_of, blocks_read, before, number_read, Listed, IsStop, part_of, HoldsPlace, InFront}
use Rattle.rank.specs.Place.{rows_from}
use Rattle.rank.specs.Spacing.{overwritten, spaced, rows_apart, put_apart}
use Rattle.rank.proofs.Reversed.{row-size}
use Rattle.rank.proofs.Starts.{get_d_map, number_back, block_read}
use Rattle.rank.proofs.Reading.{position_in, row_read}
use Rattle.rank.proofs.RowBytes.{Wide, length-reading, rows_of, count-rows, row_from, wide_rows}
use Rattle.rank.proofs.Spaced.{keep-rows, lent-on, one_apart, flat, put_apart_lem}

-- a part holds the places after one that it holds, as far as it goes
held_on : {n k place : ℕ} {backward : Bool} {p : Part} → HoldsPlace n k backward place p → (i : ℕ) → place - p.start + i < c (n - 1) p.below.cycles
    → HoldsPlace n k backward (place + i) p
held_on w i l = record { number = w.number; inside = w.inside; part = w.part; from = omega (arith, w.from); below = omega (arith, w.from) }

-- so the rows of a part are those of the list below it, with n put into each
rows-below : {n k place : ℕ} {backward : Bool} {p : Part} → 1 ≤ n → HoldsPlace n k backward place p → (m : ℕ) → place + m ≤ c n k
    → place - p.start + m ≤ c (n - 1) p.below.cycles
    → rows_of backward n k place m ≡ map (grown n p.below.position) (rows_of p.below.backward (n - 1) p.below.cycles (place - p.start) m)
rows-below {n} {k} {place} {backward} {p} h w m l u =
    let first = place - p.start in
    let below = rows_of p.below.backward (n - 1) p.below.cycles first m in
    let many : length below ≡ m = count-rows p.below.backward (n - 1) p.below.cycles first m u in
    let here : length (rows_of backward n k place m) ≡ m = count-rows backward n k place m l in
    ext_get_or [] _ _ (here ∙ sym many ∙ sym (length-map below (grown n p.below.position)))
    (λ i v.
    let inside : i < m = rw here at v in
    let at : place + i - p.start ≡ first + i = omega (arith, w.from) in
    row_from backward n k place m l i inside
    ∙ row_read h (held_on w i (omega arith))
    ∙ ap (λ (x : ℕ). grown n p.below.position (row_at (reading_of p.below.backward (n - 1) p.below.cycles) x)) at
    ∙ ap (grown n p.below.position) (sym (row_from p.below.backward (n - 1) p.below.cycles first m u i inside))
    ∙ sym (get_d_map (grown n p.below.position) below i (rw many inside)))

-- some rows more
rows_more : (backward : Bool) (n k place done here : ℕ)
    → rows_of backward n k place done ++ rows_of backward n k (place + done) here ≡ rows_of backward n k place (done + here)
rows_more backward n k place done here =
    let all = reading_of backward n k in
    rw (← drop-drop done place all) (sym (take-add done here (drop place all)))

-- n put into rows of the list below a part, where they were written at a distance, writes the rows of the part
put-part : (n : ℕ) {k place : ℕ} {backward : Bool} {p : Part} (apart m : ℕ) (b mid last : List ℕ) → 1 ≤ n → n ≤ apart
    → HoldsPlace n k backward place p
    → place + m ≤ c n k
    → place - p.start + m ≤ c (n - 1) p.below.cycles
    → m * apart ≤ length b
    → mid ≡ rows_apart apart (rows_of p.below.backward (n - 1) p.below.cycles (place - p.start) m) b
    → last ≡ put_apart n p.below.position apart m mid
    → last ≡ rows_apart apart (rows_of backward n k place m) b
put-part zero apart m b mid last h a w l u room e f = absurd (omega arith)
put-part (suc x) {k} {place} {backward} {p} apart m b mid last h a w l u room e f =
    let y : suc x - 1 ≡ x = omega arith in
    let below = rows_of p.below.backward (suc x - 1) p.below.cycles (place - p.start) m in
    let many : length below ≡ m = count-rows p.below.backward (suc x - 1) p.below.cycles (place - p.start) m u in
    let wide : Wide x below = λ i l. wide_rows p.below.backward (suc x - 1) p.below.cycles (place - p.start) m u i l ∙ y in
    f
    ∙ ap (put_apart (suc x) p.below.position apart m) e
    ∙ ap (λ (i : ℕ). put_apart (suc x) p.below.position apart i (rows_apart apart below b)) (sym many)
    ∙ put_apart_lem x p.below.position apart below b wide (position_in h w) a (rw many room)
    ∙ ap (λ (rows : List Row). rows_apart apart rows b) (sym (rows-below h w m l u))

-- a slice whose part from a byte on, of some size, came back with other bytes
abbrev pub once : ℕ → ℕ → List ℕ → List ℕ → List ℕ
once from size out mid = take from out ++ (mid ++ drop size (drop from out))

-- a part from a byte to another, and the slice after it came back, are as long as they were
pub length_lent : (from size : ℕ) (out : List ℕ) → from + size ≤ length out → length (take (from + size - from) (drop from out)) ≡ size
length_lent from size out h =
    let e : from + size - from ≡ size = omega arith in
    rw e (length-take-le size (drop from out) (omega (arith, length-drop from out)))

pub length-once : (from size : ℕ) (out mid : List ℕ) → from + size ≤ length out → length mid ≡ length (take (from + size - from) (drop from out))
    → length (once from (from + size - from) out mid) ≡ length out
length-once from size out mid h same =
    let rest = drop (from + size - from) (drop from out) in
    length-append (take from out) _
    ∙ omega (arith, length-append mid rest, length-take-le from out (omega arith), length_lent from size out h, length-drop (from + size - from) (drop from out), length-drop from out)

-- one block more: a slice has some rows at a distance; the part behind them is lent on, and comes back with those of a part of the list
next-block : (n : ℕ) {k : ℕ} {backward : Bool} {p : Part} (place done here apart : ℕ) (b out mid last : List ℕ) → 1 ≤ n → n ≤ apart
    → HoldsPlace n k backward (place + done) p
    → place + (done + here) ≤ c n k
    → place + done - p.start + here ≤ c (n - 1) p.below.cycles
    → (done + here) * apart ≤ length b
    → length out ≡ length b
    → out ≡ rows_apart apart (rows_of backward n k place done) b
    → mid ≡ rows_apart apart (rows_of p.below.backward (n - 1) p.below.cycles (place + done - p.start) here) (take (here * apart) (drop (done * apart) out))
    → last ≡ put_apart n p.below.position apart here mid
    → once (done * apart) (here * apart) out last ≡ rows_apart apart (rows_of backward n k place (done + here)) b
next-block n {k} {backward} {p} place done here apart b out mid last h a w l u room same e f g =
    let xs = rows_of backward n k place done in
    let ys = rows_of backward n k (place + done) here in
    let all : done * apart + here * apart ≤ length b = omega (arith, add-mul done here apart) in
    let many-x : length xs ≡ done = count-rows backward n k place done (omega arith) in
    let many-y : length ys ≡ here = count-rows backward n k (place + done) here (omega arith) in
    let own = take (here * apart) (drop (done * apart) out) in
    let fits : here * apart ≤ length own =
    omega (arith, length-take-le (here * apart) (drop (done * apart) out) (omega (arith, length-drop (done * apart) out))) in
    lent-on apart (map overwritten xs) (map overwritten ys) (done * apart) (here * apart) b out last
    (keep-rows apart n xs a (wide_rows backward n k place done (omega arith)))
    (ap (λ (i : ℕ). i * apart) (sym many-x ∙ sym (length-map xs overwritten)))
    (ap (λ (i : ℕ). i * apart) (sym many-y ∙ sym (length-map ys overwritten)))
    all
    same
    e
    (put-part n apart here own mid last h a w (omega arith) u fits f g)
    ∙ ap (λ (fs : List (List ℕ → List ℕ)). spaced apart fs b) (sym (map-append overwritten xs ys))
    ∙ ap (λ (rows : List Row). rows_apart apart rows b) (rows_more backward n k place done here)

-- if that part is lent again, it is what came back, and what comes back then stands in its place
module _ (from size : ℕ) (out mid : List ℕ) (h : from ≤ length out) (e : length mid ≡ size) where
  front : take from (once from size out mid) ≡ take from out
  front = take_at (take from out) _ from (length-take-le from out h)

  behind : drop from (once from size out mid) ≡ mid ++ drop size (drop from out)
  behind = drop_at (take from out) _ from (length-take-le from out h)

  pub lent_again : take size (drop from (once from size out mid)) ≡ mid
  lent_again = rw behind (take_at mid (drop size (drop from out)) size e)

  pub back-again : (last : List ℕ) → once from size (once from size out mid) last ≡ once from size out last
  back-again last = rw (front, behind, drop_at mid (drop size (drop from out)) size e)

-- so where that part is lent on to have rows of the list below written to it, and then again to have n put into each, a block's rows are written
pub block_written : (n : ℕ) {k : ℕ} {backward : Bool} {p : Part} (place done here apart first gap : ℕ) (b out mid last : List ℕ) → first ≡ place + done - p.start → gap ≡ here * apart → 1 ≤ n → n ≤ apart
    → HoldsPlace n k backward (place + done) p
    → place + (done + here) ≤ c n k
    → first + here ≤ c (n - 1) p.below.cycles
    → (done + here) * apart ≤ length b
    → length out ≡ length b
    → out ≡ rows_apart apart (rows_of backward n k place done) b
    → length mid ≡ length (take gap (drop (done * apart) out))
    → mid ≡ rows_apart apart (rows_of p.below.backward (n - 1) p.below.cycles first here) (take gap (drop (done * apart) out))
    → last ≡ put_apart n p.below.position apart here (take gap (drop (done * apart) (once (done * apart) gap out mid)))
    → once (done * apart) gap (once (done * apart) gap out mid) last
    ≡ rows_apart apart (rows_of backward n k place (done + here)) b
block_written n {k} {backward} {p} place done here apart first gap b out mid last first-is gap_is h a w l u room same e size f g =
    let from = done * apart in
    let all : from + gap ≤ length out = omega (arith, add-mul done here apart) in
    let lent : length mid ≡ gap = size ∙ length-take-le gap (drop from out) (omega (arith, length-drop from out)) in
    let start : from ≤ length out = omega arith in
    let put : last ≡ put_apart n p.below.position apart here mid = g ∙ ap (put_apart n p.below.position apart here) (lent_again from gap out mid start lent) in
    back-again from gap out mid start lent last
    ∙ ap (λ (x : ℕ). once from x out last) gap_is
    ∙ next-block n place done here apart b out mid last h a w l (rw first-is at u) room same e (rw (first-is, gap_is) at f) put

-- one row from a place on
pub row_written : (backward : Bool) (n k place count apart : ℕ) (b after : List ℕ) → count ≡ 1 → place + count ≤ c n k → n ≤ apart → count * apart ≤ length b
    → InFront n (row_at (reading_of backward n k) place) b after
    → after ≡ rows_apart apart (rows_of backward n k place count) b
row_written backward n k place count apart b after e h a room w =
    let l : place < c n k = omega arith in
    let one : apart ≤ length b = omega (arith, ap (λ (x : ℕ). x * apart) e) in
    let all = reading_of backward n k in
    one_apart apart n (row_at all place) b after (row-size n k place backward l) a one w
    ∙ ap (λ (rows : List Row). rows_apart apart (take 1 rows) b) (sym (drop-cons all place [] (rw (length-reading backward n k) l)))
    ∙ ap (λ (x : ℕ). rows_apart apart (rows_of backward n k place x) b) (sym e)

-- before the first block no row is written
pub none_written : (backward : Bool) (n k place apart : ℕ) (b : List ℕ) → b ≡ rows_apart apart (rows_of backward n k place 0) b
unfolding spaced
none_written backward n k place apart b = refl

-- where there are two rows or more, there is a block
pub listed-rows : (n k place count : ℕ) → n ≤ 20 → (count ≡ 1 → ⊥) → 1 ≤ count → place + count ≤ c n k → Listed n k
unfolding c
listed-rows n k place count small other some h =
    let (one, most) = inside n k place (omega arith) in
    let first : 1 ≤ n = positive n k place count other some h in
    record { small = (first, small); cycles = (one first, most) }
  where
    positive : (n k place count : ℕ) → (count ≡ 1 → ⊥) → 1 ≤ count → place + count ≤ c n k → 1 ≤ n
    positive zero zero place count other some h = absurd (other (omega arith))
    positive zero (suc k) place count other some h = absurd (omega arith)
    positive (suc n) k place count other some h = omega arith

-- the part of a block starts where the block does, and has as many rows
pub part-start : {n k : ℕ} {backward : Bool} {stop : Stop} {p : Part} → IsStop n k backward stop → p ≡ part_of n k backward (number_read n k backward stop.number)
    → p.start ≡ stop.start
part-start {n} {k} {backward} {stop} w e =
    ap (λ (q : Part). q.start) e ∙ ap (before n k backward) (number_back n k backward stop.number w.inside) ∙ sym w.start

pub part-size : {n k : ℕ} {backward : Bool} {stop : Stop} {p : Part} {size : ℕ} → IsStop n k backward stop → p ≡ part_of n k backward (number_read n k backward stop.number)
    → size ≡ size_of n k (block (blocks_read n k backward) stop.number)
    → size ≡ c (n - 1) p.below.cycles
part-size {n} {k} {backward} {stop} w e is-size =
    is-size
    ∙ ap (size_of n k) (block_read n k backward stop.number w.inside)
    ∙ ap (λ (q : Part). c (n - 1) q.below.cycles) (sym e)

-- rows of S(n,k) that are n bytes apart stand one after another
pub page_written : (n k place m : ℕ) (b page : List ℕ) → place + m ≤ c n k → m * n ≤ length b
    → page ≡ rows_apart n (rows_of false n k place m) b
    → page ≡ rows_from n k place m ++ drop (m * n) b
page_written n k place m b page h room e =
    let many : length (rows_of false n k place m) ≡ m = count-rows false n k place m h in
    e
    ∙ flat n (rows_of false n k place m) b (wide_rows false n k place m h) (rw many room)
    ∙ ap (λ (x : ℕ). rows_from n k place m ++ drop (x * n) b) many
