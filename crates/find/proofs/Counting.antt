-- How many rows of S(n,k) meet wishes that are a partial permutation: c(m, k − q), where m positions are free and the wishes close q cycles. An induction on n by the equation that sums a count over
-- the blocks, in four cases: n is wished at position n, or at another, or nowhere, and then position n is free, or not. Assumes nothing.
use mathlib.Core.Path.{◌≡◌, refl, sym, ap, ◌∙◌}
use Prim.Native.Nat.{ℕ, zero, suc, ◌+◌, ◌-◌, ◌*◌, ◌≤◌, ◌<◌}
use native.Mathlib.Nat.{mul-zero}
use native.Mathlib.Omega.{arith}
use native.Mathlib.Decide.{ℕ_discrete}
use mathlib.Core.Bool.{Bool, true, false, cond, ◌&&◌}
use mathlib.Core.List.{List, [], ◌∷◌}
use lib.Dec.{eqb, leb}
use lib.ListN.{length, get_or, take}
use lib.Seq.{set-get_or}
use borrow.Table.Steps.{cases}
use borrow.Author.Tests.{eqb-true, eqb-false, eq-eqb, ne_eqb, leb-true, leb-false, le-leb, lt-leb}
use Rattle.stirling.specs.Count.{c}
use Rattle.stirling.proofs.Counts.{recurrence, above, no_cycle}
use Rattle.stirling.proofs.Refusals.{and-true}
use Rattle.perm.specs.Lists.{one, tally, range}
use Rattle.perm.specs.Permutation.{IsPermutation, IsPartial, at, put, extend, insert}
use Rattle.perm.specs.Cycle.{cycles, least}
use Rattle.perm.proofs.Tally.{refuted, none_passes, some-passes}
use Rattle.perm.proofs.Values.{injective, onto, at_suc}
use Rattle.gray.specs.Order.{Row, S}
use Rattle.gray.specs.Listing.{row_at}
use Rattle.perm.proofs.Same.{iff_equal}
use Rattle.gray.proofs.Joined.{S-zero}
use Rattle.gray.proofs.Sum.{sum, sum-zero, sum_one}
use Rattle.gray.proofs.Counting.{tally-S, tally_empty}
use Rattle.gray.proofs.Once.{complete, tally_agree}
use Rattle.rank.proofs.Grown.{grown-insert, grown-extend}
use Rattle.find.specs.Meeting.{granted, meets}
use Rattle.find.specs.Counting.{free, meeting}
use Rattle.find.specs.Search.{smaller}
use Rattle.find.proofs.Meeting.{granted-free, granted_same, granted-true, granted-false, both_true, meets_holds, meets_at, met-partial}
use Rattle.find.proofs.Shorter.{length-smaller, smaller-here, smaller-other, tally-smaller, smaller-partial, cycles-smaller, meets-grown}
use Rattle.find.proofs.Sums.{tally-and, sum_cong, sum-tally, sum_zeros}

-- c(m, k − q), and nothing where k < q
abbrev left : ℕ → ℕ → ℕ → ℕ
left m q k = cond (leb q k) (c m (k - q)) 0

left-suc : (m q k : ℕ) → left m (suc q) (suc k) ≡ left m q k
left-suc m q k =
    let e : suc k - suc q ≡ k - q = omega arith in
    cases (leb q k)
    (λ t. rw (t, le-leb (suc q) (suc k) (omega (arith, leb-true q k t)), e))
    (λ f. rw (f, lt-leb (suc q) (suc k) (omega (arith, leb-false q k f))))

left_none : (m q : ℕ) → 1 ≤ q + m → left m q 0 ≡ 0
left_none m zero h = no_cycle m (omega arith)
left_none m (suc q) h = rw (lt-leb (suc q) 0 (omega arith))

no_cycle_times : (m : ℕ) → m * c m 0 ≡ 0
no_cycle_times zero = omega arith
no_cycle_times (suc m) = rw (no_cycle (suc m) (omega arith)) (mul-zero (suc m))

-- it has the recurrence of c
left_recurrence : (m q k : ℕ) → m * left m q (suc k) + left m q k ≡ left (suc m) q (suc k)
left_recurrence m q k =
    cases (leb q k)
    (λ t.
    let h = leb-true q k t in
    let e : suc k - q ≡ suc (k - q) = omega arith in
    rw (t, le-leb q (suc k) (omega arith), e) (sym (recurrence m (k - q))))
    (λ f. rw f (past (leb-false q k f) (leb q (suc k)) refl))
  where
    past : k < q → (b : Bool) → leb q (suc k) ≡ b → m * cond b (c m (suc k - q)) 0 + 0 ≡ cond b (c (suc m) (suc k - q)) 0
    past h true t =
        let e : suc k - q ≡ 0 = omega arith in
        rw (e, no_cycle (suc m) (omega arith)) (omega (arith, no_cycle_times m))
    past h false t = omega (arith, mul-zero m)

-- no row meets wishes that are not
pub none_meets : (n k : ℕ) (w : List ℕ) → length w ≡ n → (IsPartial n w → ⊥) → tally (meets w) (S n k) ≡ 0
none_meets n k w size d = by_count (tally (meets w) (S n k)) refl
  where
    by_count : (t : ℕ) → tally (meets w) (S n k) ≡ t → t ≡ 0
    by_count zero e = refl
    by_count (suc t) e =
        let (r, h, m) = some-passes (meets w) [] (S n k) (omega arith) in
        absurd (d (met-partial w (row_at (S n k) r) size ((complete n k).sound r h).permutation m))

-- m + 1 is wished at one position at most
wanted_once : {m : ℕ} {w : List ℕ} → IsPartial (suc m) w
    → (x : ℕ) → 1 ≤ x → x ≤ suc m → at w x ≡ suc m → (i : ℕ) → 1 ≤ i → i ≤ suc m → at w i ≡ suc m → i ≡ x
wanted_once s x l u e i li ui f = s.apart i x li ui l u (f ∙ sym e) (λ o. omega arith)

-- what the wishes count in the insertions and in the extensions
module _ {m : ℕ} (w : List ℕ) (size : length w ≡ suc m) where
  row-length : (k r : ℕ) → r < length (S m k) → length (row_at (S m k) r) ≡ m
  row-length k r h = ((complete m k).sound r h).permutation.size

  inserted : (k i : ℕ) → 1 ≤ i → i ≤ m
      → tally (λ γ. meets w (insert (suc m) i γ)) (S m k) ≡ cond (granted (at w i) (suc m)) (tally (meets (smaller m i w)) (S m k)) 0
  inserted k i l u =
      tally_agree (λ γ. meets w (insert (suc m) i γ)) (λ γ. granted (at w i) (suc m) && meets (smaller m i w) γ) (S m k)
      (λ r h.
      let z = row-length k r h in
      ap (meets w) (grown-insert (suc m) (row_at (S m k) r) (omega arith) (omega arith) i l (omega arith))
      ∙ meets-grown w size i l (omega arith) (row_at (S m k) r) z)
      ∙ tally-and (granted (at w i) (suc m)) (meets (smaller m i w)) (S m k)

  extended : (k : ℕ)
      → tally (λ γ. meets w (extend (suc m) γ)) (S m k) ≡ cond (granted (at w (suc m)) (suc m)) (tally (meets (smaller m (suc m) w)) (S m k)) 0
  extended k =
      tally_agree (λ γ. meets w (extend (suc m) γ)) (λ γ. granted (at w (suc m)) (suc m) && meets (smaller m (suc m) w) γ) (S m k)
      (λ r h.
      let z = row-length k r h in
      ap (meets w) (grown-extend (suc m) (row_at (S m k) r) (omega arith) (omega arith))
      ∙ meets-grown w size (suc m) (omega arith) (omega arith) (row_at (S m k) r) z)
      ∙ tally-and (granted (at w (suc m)) (suc m)) (meets (smaller m (suc m) w)) (S m k)

  -- where a position but x wishes m + 1, no row with m + 1 at x meets the wishes
  elsewhere : (k x y : ℕ) → 1 ≤ x → x ≤ suc m → 1 ≤ y → y ≤ suc m → (y ≡ x → ⊥) → at w y ≡ suc m
      → cond (granted (at w x) (suc m)) (tally (meets (smaller m x w)) (S m k)) 0 ≡ 0
  elsewhere k x y lx ux ly uy d e =
      cases (granted (at w x) (suc m))
      (λ t. rw t (none_meets m k (smaller m x w) (length-smaller w size x lx ux) (λ s. left_over s (ℕ_discrete y (suc m)))))
      (λ f. rw f)
    where
      left_over : IsPartial m (smaller m x w) → Dec (y ≡ suc m) → ⊥
      left_over s (yes q) =
          let h : x ≤ m = omega arith in
          omega (arith, smaller-here w size x lx ux h, s.bound x lx h, ap (at w) q)
      left_over s (no f) =
          let h : y ≤ m = omega arith in
          omega (arith, smaller-other w size x lx ux y ly h d, s.bound y ly h)

-- where m + 1 is wished
data Where (m : ℕ) (w : List ℕ) : Type 0 where
  last : at w (suc m) ≡ suc m → Where m w
  other : (x : ℕ) → 1 ≤ x → x ≤ m → at w x ≡ suc m → Where m w
  nowhere : ((i : ℕ) → 1 ≤ i → i ≤ suc m → at w i ≡ suc m → ⊥) → Where m w

where_wanted : (m : ℕ) (w : List ℕ) → length w ≡ suc m → Where m w
where_wanted m w z = by_count (tally (eqb (suc m)) w) refl
  where
    by_index : (i : ℕ) → i < length w → get_or w i 0 ≡ suc m → Dec (i ≡ m) → Where m w
    by_index i h e (yes q) = last (ap (at w) (ap suc (sym q)) ∙ at_suc w i ∙ e)
    by_index i h e (no d) = other (suc i) (omega arith) (omega arith) (at_suc w i ∙ e)

    by_count : (t : ℕ) → tally (eqb (suc m)) w ≡ t → Where m w
    by_count zero e = nowhere (λ i l u f. eqb-false (suc m) (at w i) (none_passes (eqb (suc m)) 0 w e (i - 1) (omega arith)) (sym f))
    by_count (suc t) e =
        let (i, h, f) = some-passes (eqb (suc m)) 0 w (omega arith) in
        by_index i h (sym (eqb-true (suc m) (get_or w i 0) f)) (ℕ_discrete i m)

-- by the four cases, with the statement for m at hand
module _ (m : ℕ) (shorter : (k : ℕ) (w : List ℕ) → IsPartial m w → tally (meets w) (S m k) ≡ meeting k w)
    (w : List ℕ) (s : IsPartial (suc m) w) (k : ℕ) where
  abbrev n : ℕ
  n = suc m

  abbrev Counts : Type 0
  Counts = tally (meets w) (S n (suc k)) ≡ meeting (suc k) w

  -- what the blocks count is what is counted of the free positions, where these are f, and the cycles closed q
  counts : (a b f q : ℕ)
      → sum (λ i. tally (λ γ. meets w (insert n i γ)) (S m (suc k))) m ≡ a
      → tally (λ γ. meets w (extend n γ)) (S m k) ≡ b
      → free w ≡ f
      → cycles w ≡ q
      → a + b ≡ left f q (suc k)
      → Counts
  counts a b f q ea eb ef eq e = tally-S (meets w) m k ∙ rw (ea, eb, ef, eq) e

  -- n is wished at position n: each row extends one that meets the other wishes
  at_last : at w n ≡ n → Counts
  at_last e =
      let z = s.size in
      let u = smaller m n w in
      let only = wanted_once s n (omega arith) (omega arith) e in
      let su = smaller-partial w z n (omega arith) (omega arith) s only in
      counts 0 (meeting k u) (free u) (suc (cycles u))
      (sum-zero _ m
      (λ i l h. inserted w z (suc k) i l h ∙ elsewhere w z (suc k) i n l (omega arith) (omega arith) (omega arith) (λ q. omega arith) e))
      (extended w z k ∙ rw (granted_same (at w n) n e) (shorter k u su))
      (omega (arith, tally-smaller w z n (omega arith) (omega arith) (eqb 0), ap one (ne_eqb 0 (at w n) (λ o. omega arith))))
      (omega (arith, cycles-smaller w z n (omega arith) (omega arith) s only (λ h. absurd (omega arith)), ap one (eq-eqb (at w n) n e)))
      (omega (arith, left-suc (free u) (cycles u) k))

  -- at another position x: each row inserts it there
  at_other : (x : ℕ) → 1 ≤ x → x ≤ m → at w x ≡ n → Counts
  at_other x l h e =
      let z = s.size in
      let v : x ≤ n = omega arith in
      let u = smaller m x w in
      let only = wanted_once s x l v e in
      let su = smaller-partial w z x l v s only in
      let d : at w n ≡ n → ⊥ = λ f. let q = only n (omega arith) (omega arith) f in omega arith in
      counts (meeting (suc k) u) 0 (free u) (cycles u)
      (sum_one _ m x l h (λ j lj hj g. inserted w z (suc k) j lj hj ∙ elsewhere w z (suc k) j x lj (omega arith) l v g e)
      ∙ inserted w z (suc k) x l h ∙ rw (granted_same (at w x) n e) (shorter (suc k) u su))
      (extended w z k ∙ elsewhere w z k n x (omega arith) (omega arith) l v (λ q. omega arith) e)
      (omega (arith, tally-smaller w z x l v (eqb 0), ap one (ne_eqb 0 (at w x) (λ o. omega arith))))
      (omega (arith, cycles-smaller w z x l v s only (λ _. e), ap one (ne_eqb (at w n) n d)))
      (omega arith)

  -- nowhere: the other positions keep their wishes
  module _ (none : (i : ℕ) → 1 ≤ i → i ≤ n → at w i ≡ n → ⊥) where
    abbrev u : List ℕ
    u = smaller m n w

    u-partial : IsPartial m u
    u-partial = smaller-partial w s.size n (omega arith) (omega arith) s (λ i l h e. absurd (none i l h e))

    u-at : (i : ℕ) → 1 ≤ i → i ≤ m → at u i ≡ at w i
    u-at i l h = smaller-other w s.size n (omega arith) (omega arith) i l h (λ q. omega arith)

    is_front : u ≡ take m w
    is_front = ap (take m) (set-get_or w (n - 1) 0)

    u-cycles : cycles w ≡ cycles u
    u-cycles =
        omega (
          arith,
          cycles-smaller w s.size n (omega arith) (omega arith) s (λ i l h e. absurd (none i l h e)) (λ h. absurd (omega arith)),
          ap one (ne_eqb (at w n) n (none n (omega arith) (omega arith))),
        )

    -- a free position alone grants n
    grants : (i : ℕ) → 1 ≤ i → i ≤ n → granted (at w i) n ≡ eqb 0 (at w i)
    grants i l h = by_entry (ℕ_discrete (at w i) 0)
      where
        by_entry : Dec (at w i ≡ 0) → granted (at w i) n ≡ eqb 0 (at w i)
        by_entry (yes e) = granted-free (at w i) n e ∙ sym (eq-eqb 0 (at w i) (sym e))
        by_entry (no d) = granted-false (at w i) n d (none i l h) ∙ sym (ne_eqb 0 (at w i) (λ e. d (sym e)))

    -- and position n is free: each row extends one that meets the other wishes, or inserts n into such a row at a free position
    top-free : at w n ≡ 0 → Counts
    top-free e =
        let z = s.size in
        let f : free w ≡ suc (free u) = omega (arith, tally-smaller w z n (omega arith) (omega arith) (eqb 0), ap one (eq-eqb 0 (at w n) (sym e))) in
        counts (free u * meeting (suc k) u) (meeting k u) (suc (free u)) (cycles u)
        (sum_cong _ (λ i. cond (eqb 0 (at w i)) (tally (meets u) (S m (suc k))) 0) m each
        ∙ sum_zeros w (tally (meets u) (S m (suc k))) m (omega arith)
        ∙ rw (← is_front, shorter (suc k) u u-partial))
        (extended w z k ∙ rw (granted-free (at w n) n e) (shorter k u u-partial))
        f
        u-cycles
        (left_recurrence (free u) (cycles u) k)
      where
        -- a free position that gets the wish of a free one
        same_left : (i : ℕ) → at w i ≡ 0 → smaller m i w ≡ u
        same_left i q = ap (λ (v : ℕ). take m (put w i v)) (e ∙ sym q) ∙ ap (take m) (set-get_or w (i - 1) 0) ∙ sym is_front

        each : (i : ℕ) → 1 ≤ i → i ≤ m
            → tally (λ γ. meets w (insert n i γ)) (S m (suc k)) ≡ cond (eqb 0 (at w i)) (tally (meets u) (S m (suc k))) 0
        each i l h =
            inserted w s.size (suc k) i l h
            ∙ ap (λ (b : Bool). cond b (tally (meets (smaller m i w)) (S m (suc k))) 0) (grants i l (omega arith))
            ∙ cases (eqb 0 (at w i)) (λ t. rw (t, same_left i (sym (eqb-true 0 (at w i) t)))) (λ t. rw t)

    -- and position n wishes a value: n is inserted into each row that meets the other wishes at the one position that has the value
    module _ (d : at w n ≡ 0 → ⊥) where
      at_value : (γ : Row) → IsPermutation m γ → sum (λ i. one (meets w (insert n i γ))) m ≡ one (meets u γ)
      at_value γ p =
          let z = s.size in
          let v = at w n in
          let low : v ≤ m = omega (arith, s.bound n (omega arith) (omega arith), none n (omega arith) (omega arith)) in
          let (y, ly, hy, ey) = onto p v (omega arith) low in
          sum_one _ m y ly hy
          (λ j lj hj g. ap one (splits γ p j lj hj ∙ other γ p j lj hj (λ f. g (injective p y j ly hy lj hj (ey ∙ sym f)))))
          ∙ ap one (splits γ p y ly hy ∙ iff_equal (granted (at w y) n && meets (smaller m y w) γ) (meets u γ) (to_front γ y ly hy) (from_front γ y ly hy ey))
        where
          splits : (γ : Row) → IsPermutation m γ → (i : ℕ) → 1 ≤ i → i ≤ m
              → meets w (insert n i γ) ≡ (granted (at w i) n && meets (smaller m i w) γ)
          splits γ p i l h =
              ap (meets w) (grown-insert n γ (omega (arith, p.size)) (omega arith) i l (omega arith))
              ∙ meets-grown w s.size i l (omega arith) γ p.size

          -- a position with another value does not meet what it is left to wish
          other : (γ : Row) → IsPermutation m γ → (i : ℕ) → 1 ≤ i → i ≤ m → (at γ i ≡ at w n → ⊥)
              → (granted (at w i) n && meets (smaller m i w) γ) ≡ false
          other γ p i l h g = refuted (granted (at w i) n && meets (smaller m i w) γ) (λ t.
              let rest = (and-true (granted (at w i) n) (meets (smaller m i w) γ) t).1 in
              let here = smaller-here w s.size i l (omega arith) h in
              let entry = granted-true _ (at γ i) (meets_at (smaller m i w) γ rest i l (rw (length-smaller w s.size i l (omega arith)) h))
              (λ o. d (sym here ∙ o)) in
              g (sym entry ∙ here))

          -- the position y that has the value: what is left is met just if the other wishes are, since y is free
          to_front : (γ : Row) (y : ℕ) → 1 ≤ y → y ≤ m → (granted (at w y) n && meets (smaller m y w) γ) ≡ true → meets u γ ≡ true
          to_front γ y l h t =
              let (here, rest) = and-true (granted (at w y) n) (meets (smaller m y w) γ) t in
              let free-there : at w y ≡ 0 = sym (eqb-true 0 (at w y) (sym (grants y l (omega arith)) ∙ here)) in
              meets_holds u γ (λ i li hi. by-position y l h free-there (meets_at (smaller m y w) γ rest) i li (rw u-partial.size at hi) (ℕ_discrete i y))
            where
              by-position : (y : ℕ) (l : 1 ≤ y) (h : y ≤ m) → at w y ≡ 0
                  → ((i : ℕ) → 1 ≤ i → i ≤ length (smaller m y w) → granted (at (smaller m y w) i) (at γ i) ≡ true)
                  → (i : ℕ) → 1 ≤ i → i ≤ m → Dec (i ≡ y) → granted (at u i) (at γ i) ≡ true
              by-position y l h f each i li hi (yes q) = granted-free (at u i) (at γ i) (u-at i li hi ∙ ap (at w) q ∙ f)
              by-position y l h f each i li hi (no g) =
                  rw (u-at i li hi, ← smaller-other w s.size y l (omega arith) i li hi g)
                  (each i li (rw (length-smaller w s.size y l (omega arith)) hi))

          from_front : (γ : Row) (y : ℕ) → 1 ≤ y → y ≤ m → at γ y ≡ at w n → meets u γ ≡ true → (granted (at w y) n && meets (smaller m y w) γ) ≡ true
          from_front γ y l h ey t =
              let each = meets_at u γ t in
              let free-there : at w y ≡ 0 = is_free y l h ey (rw (u-at y l h) at (each y l (rw u-partial.size h))) (ℕ_discrete (at w y) 0) in
              both_true _ _ (granted-free (at w y) n free-there)
              (meets_holds (smaller m y w) γ (λ i li hi.
              by-position y l h ey each i li (rw (length-smaller w s.size y l (omega arith)) at hi) (ℕ_discrete i y)))
            where
              is_free : (y : ℕ) → 1 ≤ y → y ≤ m → at γ y ≡ at w n → granted (at w y) (at γ y) ≡ true → Dec (at w y ≡ 0) → at w y ≡ 0
              is_free y l h ey g (yes f) = f
              is_free y l h ey g (no f) =
                  let q = s.apart y n l (omega arith) (omega arith) (omega arith) (granted-true (at w y) (at γ y) g f ∙ ey) f in
                  absurd (omega arith)

              by-position : (y : ℕ) (l : 1 ≤ y) (h : y ≤ m) → at γ y ≡ at w n
                  → ((i : ℕ) → 1 ≤ i → i ≤ length u → granted (at u i) (at γ i) ≡ true)
                  → (i : ℕ) → 1 ≤ i → i ≤ m → Dec (i ≡ y) → granted (at (smaller m y w) i) (at γ i) ≡ true
              by-position y l h ey each i li hi (yes q) =
                  granted_same _ (at γ i) (ap (at (smaller m y w)) q ∙ smaller-here w s.size y l (omega arith) h ∙ sym ey ∙ ap (at γ) (sym q))
              by-position y l h ey each i li hi (no g) =
                  rw (smaller-other w s.size y l (omega arith) i li hi g, ← u-at i li hi) (each i li (rw u-partial.size hi))

      top_taken : Counts
      top_taken =
          let z = s.size in
          counts (meeting (suc k) u) 0 (free u) (cycles u)
          (sum-tally (λ i γ. meets w (insert n i γ)) (meets u) m (S m (suc k))
          (λ r h. at_value (row_at (S m (suc k)) r) ((complete m (suc k)).sound r h).permutation)
          ∙ shorter (suc k) u u-partial)
          (extended w z k ∙ rw (granted-false (at w n) n d (none n (omega arith) (omega arith))))
          (omega (arith, tally-smaller w z n (omega arith) (omega arith) (eqb 0), ap one (ne_eqb 0 (at w n) (λ e. d (sym e)))))
          u-cycles
          (omega arith)

  by-where : Where m w → Counts
  by-where (last e) = at_last e
  by-where (other x l h e) = at_other x l h e
  by-where (nowhere none) = by-top (ℕ_discrete (at w n) 0)
    where
      by-top : Dec (at w n ≡ 0) → Counts
      by-top (yes e) = top-free none e
      by-top (no d) = top_taken none d

-- m + 1 taken away at the position that wishes it, or at the last, where none does
abbrev Taken : ℕ → List ℕ → Type 0
Taken m w = (x : ℕ) × (1 ≤ x) × (x ≤ suc m) × IsPartial m (smaller m x w) × (cycles w ≡ cycles (smaller m x w) + one (eqb (at w (suc m)) (suc m)))

taken-away : {m : ℕ} {w : List ℕ} → IsPartial (suc m) w → Taken m w
taken-away {m} {w} s = by-where (where_wanted m w s.size)
  where
    at_position : (x : ℕ) → 1 ≤ x → x ≤ suc m → ((i : ℕ) → 1 ≤ i → i ≤ suc m → at w i ≡ suc m → i ≡ x) → (x ≤ m → at w x ≡ suc m) → Taken m w
    at_position x l u only here = (x, l, u, smaller-partial w s.size x l u s only, cycles-smaller w s.size x l u s only here)

    by-where : Where m w → Taken m w
    by-where (last e) = at_position (suc m) (omega arith) (omega arith) (wanted_once s (suc m) (omega arith) (omega arith) e) (λ _. e)
    by-where (other x l h e) = at_position x l (omega arith) (wanted_once s x l (omega arith) e) (λ _. e)
    by-where (nowhere none) = at_position (suc m) (omega arith) (omega arith) (λ i l u e. absurd (none i l u e)) (λ h. absurd (omega arith))

-- some position is free, or some cycle is closed
some_cycle : (m : ℕ) (w : List ℕ) → IsPartial (suc m) w → 1 ≤ cycles w + free w
some_cycle zero w s =
    let (x, l, u, next, e) = taken-away s in
    let z = tally-smaller w s.size x l u (eqb 0) in
    by_entry x l u e z (ℕ_discrete (at w 1) 1)
  where
    by_entry : (x : ℕ) → 1 ≤ x → x ≤ 1 → cycles w ≡ cycles (smaller 0 x w) + one (eqb (at w 1) 1) → free (smaller 0 x w) + one (eqb 0 (at w x)) ≡ free w
        → Dec (at w 1 ≡ 1) → 1 ≤ cycles w + free w
    by_entry x l u e z (yes f) = omega (arith, ap one (eq-eqb (at w 1) 1 f))
    by_entry x l u e z (no d) =
        let first : x ≡ 1 = omega arith in
        let none : 0 ≡ at w x = sym (ap (at w) first ∙ omega (arith, s.bound 1 (omega arith) (omega arith))) in
        omega (arith, ap one (eq-eqb 0 (at w x) none))
some_cycle (suc m) w s =
    let (x, l, u, next, e) = taken-away s in
    omega (arith, some_cycle m (smaller (suc m) x w) next, tally-smaller w s.size x l u (eqb 0))

-- for all sizes
pub counted : (n k : ℕ) (w : List ℕ) → IsPartial n w → tally (meets w) (S n k) ≡ meeting k w
unfolding S tally meets cycles least c range
counted zero zero [] s = refl
counted zero (suc k) [] s = rw (le-leb 0 (suc k) (omega arith)) (sym (above 0 (suc k - 0) (omega arith)))
counted zero k (x ∷ w) s = absurd (omega (arith, s.size))
counted (suc m) zero w s =
    tally_empty (meets w) (S-zero (suc m) (omega arith)) ∙ sym (left_none (free w) (cycles w) (some_cycle m w s))
counted (suc m) (suc k) w s = by-where m (counted m) w s k (where_wanted m w s.size)
