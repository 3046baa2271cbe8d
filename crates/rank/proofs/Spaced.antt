-- Changes at a distance, each of bytes of its own, and rows among them: one law for what is lent down and comes back, over any changes and any distance. Assumes nothing.
use Prim.Native.Nat.{ℕ, zero, suc, ◌+◌, ◌-◌, ◌*◌, ◌≤◌, ◌<◌}
use native.Mathlib.Omega.{arith}
use native.Mathlib.Nat.{suc-mul}
use mathlib.Core.Path.{◌≡◌, refl, sym, ap, ◌∙◌}
use mathlib.Core.List.{List, [], ◌∷◌, ◌++◌, map, flatten, append_assoc, append-nil}
use lib.ListN.{length, get_or, set, take, drop, replicate, length-append, length-replicate, length-set, get_or-replicate, replicate-append-replicate, length-drop, take-append-drop, drop_of_length-le}
use lib.Seq.{length-take-le, take_at, drop_at, take-take, take-add, drop-drop, take-append-add, drop-append-le, drop-append-add}
use Rattle.perm.specs.Permutation.{extend}
use Rattle.perm.proofs.Exchange.{length-exchange}
use Rattle.gray.specs.Order.{Row}
use Rattle.rank.specs.Search.{grown, InFront}
use Rattle.rank.specs.Spacing.{overwritten, put_in, spaced, rows_apart, put_apart}
use Rattle.rank.proofs.RowBytes.{Wide, wide_tail}
use Rattle.rank.proofs.Filling.{stores, stays}

-- changes that leave their bytes as many as they are
abbrev pub Keep : ℕ → List (List ℕ → List ℕ) → Type 0
Keep apart changes = (i : ℕ) → i < length changes → (bytes : List ℕ) → length bytes ≡ apart → length (get_or changes i (λ b. b) bytes) ≡ apart

module _ (apart : ℕ) where
  keep-tail : (f : List ℕ → List ℕ) (fs : List (List ℕ → List ℕ)) → Keep apart (f ∷ fs) → Keep apart fs
  keep-tail f fs w i h = w (suc i) (omega arith)

  -- the bytes of one change more
  pub room : (m size : ℕ) → suc m * apart ≤ size → (apart ≤ size) × (m * apart ≤ size - apart)
  room m size h = (omega (arith, suc-mul m apart), omega (arith, suc-mul m apart))

  -- where the first of some changes has its bytes, the others have theirs behind it
  first-kept : (f : List ℕ → List ℕ) (fs : List (List ℕ → List ℕ)) (b : List ℕ) → Keep apart (f ∷ fs) → suc (length fs) * apart ≤ length b
      → (length (f (take apart b)) ≡ apart) × (length fs * apart ≤ length (drop apart b))
  first-kept f fs b w h =
      let (one, more) = room (length fs) (length b) h in
      (w 0 (omega arith) (take apart b) (length-take-le apart b one), omega (arith, length-drop apart b))

  -- more changes, after some: those before come back as they were left, and the others are made of the bytes behind them
  spaced-more : (fs gs : List (List ℕ → List ℕ)) (b : List ℕ) → Keep apart fs → length fs * apart ≤ length b
      → spaced apart (fs ++ gs) b ≡ take (length fs * apart) (spaced apart fs b) ++ spaced apart gs (drop (length fs * apart) (spaced apart fs b))
  unfolding spaced
  spaced-more [] gs b w h =
      let e : 0 * apart ≡ 0 = omega arith in
      rw e
  spaced-more (f ∷ fs) gs b w h =
      let (size, rest) = first-kept f fs b w h in
      let x = f (take apart b) in
      let y = spaced apart fs (drop apart b) in
      let e : suc (length fs) * apart ≡ length x + length fs * apart = omega (arith, suc-mul (length fs) apart) in
      rw (e, take-append-add x y (length fs * apart), drop-append-add x y (length fs * apart))
      (ap (λ (l : List ℕ). x ++ l) (spaced-more fs gs (drop apart b) (keep-tail f fs w) rest) ∙ sym (append_assoc x _ _))

  -- changes of all bytes are changes of those that they have, and the others stay
  spaced-front : (gs : List (List ℕ → List ℕ)) (b : List ℕ) → length gs * apart ≤ length b
      → spaced apart gs b ≡ spaced apart gs (take (length gs * apart) b) ++ drop (length gs * apart) b
  unfolding spaced
  spaced-front [] b h =
      let e : 0 * apart ≡ 0 = omega arith in
      rw e
  spaced-front (g ∷ gs) b h =
      let (one, more) = room (length gs) (length b) h in
      let rest : length gs * apart ≤ length (drop apart b) = omega (arith, length-drop apart b) in
      let e : suc (length gs) * apart ≡ apart + length gs * apart = omega (arith, suc-mul (length gs) apart) in
      let first = take apart b in
      let next = take (length gs * apart) (drop apart b) in
      let size : length first ≡ apart = length-take-le apart b one in
      rw (e, take-add apart (length gs * apart) b, take_at first next apart size, drop_at first next apart size, ← drop-drop (length gs * apart) apart b)
      (ap (λ (l : List ℕ). g first ++ l) (spaced-front gs (drop apart b) rest) ∙ sym (append_assoc (g first) _ _))

  -- so where the part of some bytes behind the first changes is lent on and comes back with further ones, all are made
  pub lent-on : (fs gs : List (List ℕ → List ℕ)) (from size : ℕ) (b out last : List ℕ) → Keep apart fs
      → from ≡ length fs * apart
      → size ≡ length gs * apart
      → from + size ≤ length b
      → length out ≡ length b
      → out ≡ spaced apart fs b
      → last ≡ spaced apart gs (take size (drop from out))
      → take from out ++ (last ++ drop size (drop from out)) ≡ spaced apart (fs ++ gs) b
  lent-on fs gs from size b out last w at many h same e f =
      let behind : length gs * apart ≤ length (drop from out) = omega (arith, length-drop from out) in
      let back : last ++ drop size (drop from out) ≡ spaced apart gs (drop from out) =
      rw (f, many) (sym (spaced-front gs (drop from out) behind)) in
      rw (back, at) (rw e (sym (spaced-more fs gs b w (omega arith))))

  -- some rows written at a distance, each of them as wide or less
  pub keep-rows : (n : ℕ) (rows : List Row) → n ≤ apart → Wide n rows → Keep apart (map overwritten rows)
  keep-rows n [] l w i h bytes e = absurd (omega arith)
  keep-rows n (row ∷ rows) l w zero h bytes e =
      let size : length row ≡ n = w 0 (omega arith) in
      length-append row (drop (length row) bytes) ∙ omega (arith, length-drop (length row) bytes)
  keep-rows n (row ∷ rows) l w (suc i) h bytes e = keep-rows n rows l (wide_tail n row rows w) i (omega arith) bytes e

  -- one row is written where it stands in front
  pub one_apart : (n : ℕ) (row : Row) (b after : List ℕ) → length row ≡ n → n ≤ apart → apart ≤ length b → InFront n row b after
      → after ≡ rows_apart apart (row ∷ []) b
  unfolding spaced
  one_apart n row b after size l h w =
      let cut : drop n (take apart b) ++ drop apart b ≡ drop n b =
      sym (drop-append-le n (take apart b) (drop apart b) (rw (length-take-le apart b h) l)) ∙ ap (drop n) (take-append-drop apart b) in
      sym (take-append-drop n after)
      ∙ ap (λ (r : Row). r ++ drop n after) w.front
      ∙ ap (λ (s : List ℕ). row ++ s) (w.kept ∙ sym cut)
      ∙ ap (λ (x : ℕ). row ++ (drop x (take apart b) ++ drop apart b)) (sym size)
      ∙ sym (append_assoc row (drop (length row) (take apart b)) (drop apart b))

-- rows as wide as their distance stand one after another
pub flat : (n : ℕ) (rows : List Row) (b : List ℕ) → Wide n rows → length rows * n ≤ length b → rows_apart n rows b ≡ flatten rows ++ drop (length rows * n) b
unfolding spaced flatten
flat n [] b w h =
    let e : 0 * n ≡ 0 = omega arith in
    rw e
flat n (row ∷ rows) b w h =
    let (one, more) = room n (length rows) (length b) h in
    let rest : length rows * n ≤ length (drop n b) = omega (arith, length-drop n b) in
    let e : suc (length rows) * n ≡ n + length rows * n = omega (arith, suc-mul (length rows) n) in
    let size : length row ≡ n = w 0 (omega arith) in
    let short : length (take n b) ≤ length row = omega (arith, length-take-le n b one) in
    let none : drop (length row) (take n b) ≡ [] = drop_of_length-le (take n b) short in
    rw (e, none, append-nil row, ← drop-drop (length rows * n) n b, append_assoc row (flatten rows) (drop (length rows * n) (drop n b)))
    (ap (λ (l : List ℕ). row ++ l) (flat n rows (drop n b) (wide_tail n row rows w) rest))

-- n is put into a row that was written over the front of some bytes
put_over : (m i : ℕ) (γ : Row) (b : List ℕ) → length γ ≡ m → (1 ≤ i) × (i ≤ suc m) → suc m ≤ length b
    → put_in (suc m) i (overwritten γ b) ≡ overwritten (grown (suc m) i γ) b
unfolding extend
put_over m i γ b size h l =
    let out = overwritten γ b in
    let y : suc m - 1 ≡ m = omega arith in
    let long : length out ≡ length b = length-append γ (drop (length γ) b) ∙ omega (arith, length-drop (length γ) b) in
    let room : m < length out = omega arith in
    let front : take m out ≡ γ = take_at γ (drop (length γ) b) m size in
    let last : suc m ≡ length γ + 1 = omega arith in
    let behind : drop (suc m) out ≡ drop (suc m) b =
    ap (λ (x : ℕ). drop x out) last ∙ drop-append-add γ (drop (length γ) b) 1 ∙ drop-drop 1 (length γ) b ∙ ap (λ (x : ℕ). drop x b) (sym last) in
    let grew : length (grown (suc m) i γ) ≡ suc m = length-exchange i (suc m) (extend (suc m) γ) ∙ length-append γ (suc m ∷ []) ∙ omega arith in
    let stored = set (set out m (get_or out (i - 1) 0)) (i - 1) (suc m) in
    rw y
    (sym (take-append-drop (suc m) stored)
    ∙ ap (λ (r : Row). r ++ drop (suc m) stored) (stores m i out h room ∙ ap (grown (suc m) i) front)
    ∙ ap (λ (s : List ℕ). grown (suc m) i γ ++ s) (stays m i out h room ∙ behind)
    ∙ ap (λ (x : ℕ). grown (suc m) i γ ++ drop x b) (sym grew))

-- so putting n into rows that were written at a distance writes those that are one longer
pub put_apart_lem : (m i apart : ℕ) (rows : List Row) (b : List ℕ) → Wide m rows → (1 ≤ i) × (i ≤ suc m) → suc m ≤ apart → length rows * apart ≤ length b
    → put_apart (suc m) i apart (length rows) (rows_apart apart rows b) ≡ rows_apart apart (map (grown (suc m) i) rows) b
unfolding spaced
put_apart_lem m i apart [] b w h l room_for = refl
put_apart_lem m i apart (γ ∷ rows) b w h l room_for =
    let (one, more) = room apart (length rows) (length b) room_for in
    let rest : length rows * apart ≤ length (drop apart b) = omega (arith, length-drop apart b) in
    let size : length γ ≡ m = w 0 (omega arith) in
    let first = overwritten γ (take apart b) in
    let next = rows_apart apart rows (drop apart b) in
    let enough : suc m ≤ length (take apart b) = rw (length-take-le apart b one) l in
    let long : length first ≡ apart =
    length-append γ (drop (length γ) (take apart b)) ∙ omega (arith, length-drop (length γ) (take apart b), length-take-le apart b one) in
    rw (take_at first next apart long, drop_at first next apart long, put_over m i γ (take apart b) size h enough)
    (ap (λ (s : List ℕ). overwritten (grown (suc m) i γ) (take apart b) ++ s) (put_apart_lem m i apart rows (drop apart b) (wide_tail m γ rows w) h l rest))

-- to put n into a row leaves its bytes as many as they are
keep_puts : (n i apart r : ℕ) → Keep apart (replicate r (put_in n i))
keep_puts n i apart r j h bytes e =
    let l : j < r = omega (arith, length-replicate r (put_in n i)) in
    rw (get_or-replicate r j (put_in n i) (λ b. b) l) (rw (length-set, length-set) e)

-- one row more into which n is put
pub put_more : (n i apart r end : ℕ) (b out last : List ℕ) → suc r * apart ≤ length b → end ≡ r * apart + apart → length out ≡ length b
    → out ≡ put_apart n i apart r b
    → last ≡ put_in n i (take (end - r * apart) (drop (r * apart) out))
    → take (r * apart) out ++ (last ++ drop (end - r * apart) (drop (r * apart) out)) ≡ put_apart n i apart (r + 1) b
unfolding spaced
put_more n i apart r end b out last h z same e f =
    let one : end - r * apart ≡ apart = omega arith in
    let behind = drop (r * apart) out in
    let mine : length (take apart behind) ≡ apart = length-take-le apart behind (omega (arith, length-drop (r * apart) out, suc-mul r apart)) in
    let short : length (take apart behind) ≤ apart = omega arith in
    let alone : put_in n i (take apart behind) ≡ spaced apart (put_in n i ∷ []) (take apart behind) =
    rw (take-take apart apart behind (omega arith), drop_of_length-le (take apart behind) short) (sym (append-nil _)) in
    rw (one, ← replicate-append-replicate r 1 (put_in n i))
    (lent-on apart (replicate r (put_in n i)) (put_in n i ∷ []) (r * apart) apart b out last
    (keep_puts n i apart r)
    (ap (λ (x : ℕ). x * apart) (sym (length-replicate r (put_in n i))))
    (omega arith)
    (omega (arith, suc-mul r apart))
    same
    e
    (rw one at f ∙ alone))
