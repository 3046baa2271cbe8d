-- What the answer says, for every input: the row found is the first from the place on that meets the wishes, and 14 stands exactly where none does. Assumes nothing.
use mathlib.Core.Path.{◌≡◌, refl, sym, ap, ◌∙◌}
use Prim.Native.Nat.{ℕ, zero, suc, ◌-◌, ◌≤◌, ◌<◌}
use native.Mathlib.Omega.{arith}
use native.Mathlib.Decide.{ℕ_discrete}
use mathlib.Core.Bool.{Bool, true, false, not, ◌||◌, true≢false}
use mathlib.Core.List.{List}
use lib.Dec.{eqb, ltb, leb}
use lib.ListN.{length, replicate, drop, length-replicate, get_or-replicate}
use borrow.Table.Steps.{cases}
use borrow.Author.Tests.{ltb-true, ltb-false, le-ltb, not-false}
use Rattle.stirling.specs.Refusal.{refuse, ◌then◌}
use Rattle.stirling.specs.Count.{c, check_size, cycles_taken, check_cycles, check_place}
use Rattle.stirling.proofs.Refusals.{refuse-passed, refuse_passes, then_passed}
use Rattle.stirling.proofs.Counts.{place-passed}
use Rattle.perm.specs.Lists.{tally, some}
use Rattle.perm.specs.Permutation.{at}
use Rattle.perm.proofs.Tally.{refuted, tally-none}
use Rattle.gray.specs.Order.{Row, S}
use Rattle.gray.specs.Listing.{row_at}
use Rattle.gray.proofs.Once.{length-S, complete}
use Rattle.find.specs.declared.Found.{Found}
use Rattle.find.specs.Meeting.{granted, meets, least_from}
use Rattle.find.specs.Find.{check_lengths, check_pattern, check_asked, check_met, check_find, find_of}
use Rattle.find.proofs.Meeting.{granted-free, granted_same, granted-true, meets_holds, meets_at, met-partial}
use Rattle.find.proofs.Least.{first-least, first_some, first-none}
use Rattle.find.proofs.Answered.{first-place, asked-passed, asked-values, find-met, find-unmet}

-- a permutation meets wishes where it has the wished value at each position with a wish
pub meets_all : (w : List ℕ) (s : Row) → ((i : ℕ) → 1 ≤ i → i ≤ length w → (at w i ≡ 0 → ⊥) → at s i ≡ at w i) → meets w s ≡ true
meets_all w s h = meets_holds w s (λ i l u. by_entry i (ℕ_discrete (at w i) 0) (h i l u))
  where
    by_entry : (i : ℕ) → Dec (at w i ≡ 0) → ((at w i ≡ 0 → ⊥) → at s i ≡ at w i) → granted (at w i) (at s i) ≡ true
    by_entry i (yes e) f = granted-free (at w i) (at s i) e
    by_entry i (no d) f = granted_same (at w i) (at s i) (sym (f d))

-- and only there
pub meets_each : (w : List ℕ) (s : Row) → meets w s ≡ true → (i : ℕ) → 1 ≤ i → i ≤ length w → (at w i ≡ 0 → ⊥) → at s i ≡ at w i
meets_each w s e i l u d = sym (granted-true (at w i) (at s i) (meets_at w s e i l u) d)

-- no check of what is asked refuses 14
refuse_other : (b : Bool) (r : ℕ) → (r ≡ 14 → ⊥) → refuse b r ≡ 14 → ⊥
refuse_other true r d e = d e
refuse_other false r d e = omega arith

then_other : (a b : ℕ) → (a ≡ 14 → ⊥) → (b ≡ 14 → ⊥) → a then b ≡ 14 → ⊥
then_other zero b d f e = f e
then_other (suc a) b d f e = d e

module _ (n k place : ℕ) (w : List ℕ) (size : ℕ) where
  asked_other : check_asked n k place w size ≡ 14 → ⊥
  asked_other =
      then_other (check_place n k place then check_lengths n (length w) size) (check_pattern n w)
      (then_other (check_place n k place) (check_lengths n (length w) size)
      (then_other (check_cycles n k) (refuse (leb (c n k) place) 3)
      (then_other (check_size n) (refuse (not (cycles_taken n k)) 2) (refuse_other (ltb 20 n) 1 (λ e. omega arith)) (refuse_other (not (cycles_taken n k)) 2 (λ e. omega arith)))
      (refuse_other (leb (c n k) place) 3 (λ e. omega arith)))
      (refuse_other (not (eqb (length w) n) || not (eqb size n)) 5 (λ e. omega arith)))
      (refuse_other (some (ltb n) w) 6 (λ e. omega arith))

  abbrev r : ℕ
  r = least_from (meets w) (S n k) place

  -- what is found stands at or after the place, meets the wishes, and no row between the place and it does
  pub found_first : check_find n k place w size ≡ 0
      → (place ≤ (find_of n k place w size).place)
      × ((find_of n k place w size).place < c n k)
      × (meets w (row_at (S n k) (find_of n k place w size).place) ≡ true)
      × ((q : ℕ) → place ≤ q → q < (find_of n k place w size).place → meets w (row_at (S n k) q) ≡ false)
  found_first e =
      let (a, m) = then_passed (check_asked n k place w size) (check_met n k place w) e in
      let f = first-place n k place w size a in
      let met : some (meets w) (drop place (S n k)) ≡ true = not-false _ (refuse-passed _ 13 m) in
      let below : r < length (S n k) =
      cases (ltb r (length (S n k))) (ltb-true r _)
      (λ t. absurd (true≢false (sym met ∙ first-none (meets w) (S n k) place f (ltb-false r (length (S n k)) t)))) in
      rw e (f.from, rw (← length-S n k) below, f.passes below, f.none)

  -- 14 is refused where no row from the place to the end meets the wishes
  pub unmet-refused : check_asked n k place w size ≡ 0 → ((q : ℕ) → place ≤ q → q < c n k → meets w (row_at (S n k) q) ≡ false)
      → (find_of n k place w size).refusal ≡ 14
  unmet-refused e none =
      let f = first-place n k place w size e in
      let all : r ≡ c n k =
      cases (ltb r (c n k))
      (λ t. absurd (true≢false (sym (f.passes (rw (length-S n k) (ltb-true r (c n k) t))) ∙ none r f.from (ltb-true r (c n k) t))))
      (λ t. omega (arith, ltb-false r (c n k) t, f.most, length-S n k)) in
      sym (ap (λ (x : Found). x.refusal) (find-unmet n k place w size e all))

  -- and only there, last of all
  pub refused-unmet : (find_of n k place w size).refusal ≡ 14
      → (check_asked n k place w size ≡ 0) × ((q : ℕ) → place ≤ q → q < c n k → meets w (row_at (S n k) q) ≡ false)
  refused-unmet e = by-asked (check_asked n k place w size) refl e
    where
      by-asked : (a : ℕ) → check_asked n k place w size ≡ a → (a then check_met n k place w) ≡ 14
          → (check_asked n k place w size ≡ 0) × ((q : ℕ) → place ≤ q → q < c n k → meets w (row_at (S n k) q) ≡ false)
      by-asked (suc a) z e = absurd (asked_other (z ∙ e))
      by-asked zero z e =
          let f = first-place n k place w size z in
          let all : r ≡ c n k =
          cases (ltb r (c n k))
          (λ t. absurd (omega (arith, sym (ap (λ (b : Bool). refuse (not b) 14) (first_some (meets w) (S n k) place f (rw (length-S n k) (ltb-true r (c n k) t)))))))
          (λ t. omega (arith, ltb-false r (c n k) t, f.most, length-S n k)) in
          (z, λ q l u. f.none q l (omega arith))

  -- a value wished at two positions is never met
  pub value-twice : check_asked n k place w size ≡ 0 → (i j : ℕ) → 1 ≤ i → i < j → j ≤ n → at w i ≡ at w j → (at w i ≡ 0 → ⊥) → (find_of n k place w size).refusal ≡ 14
  value-twice e i j l h u same d =
      let (_, _, z, _) = asked-passed n k place w size e in
      unmet-refused e (λ q a b. refuted (meets w (row_at (S n k) q)) (λ t.
      let s = met-partial w (row_at (S n k) q) z ((complete n k).sound q (rw (length-S n k) b)).permutation t in
      let x = s.apart i j l (omega arith) (omega arith) u same d in
      omega arith))

-- without wishes the answer is the place itself
pub all-free : (n k place : ℕ) → check_place n k place ≡ 0 → find_of n k place (replicate n 0) n ≡ record { refusal = 0; place = place }
all-free n k place e =
    let w : List ℕ = replicate n 0 in
    let (small, below) = place-passed n k place e in
    let z : length w ≡ n = length-replicate n 0 in
    let values : check_pattern n w ≡ 0 =
    refuse_passes _ 6 (le-ltb 0 (tally (ltb n) w) (omega (arith, tally-none (ltb n) 0 w (λ i l. rw (get_or-replicate {A = ℕ} n i 0 0 (omega arith)) (le-ltb n 0 (omega arith)))))) in
    let asked : check_asked n k place w n ≡ 0 = sym (asked-values n k place w n e z refl (sym values)) in
    let met : meets w (row_at (S n k) place) ≡ true =
    meets_holds w _ (λ i l u. granted-free (at w i) _ (get_or-replicate {A = ℕ} n (i - 1) 0 0 (omega arith))) in
    let first : place ≡ least_from (meets w) (S n k) place =
    first-least (meets w) (S n k) place
    (record { from = omega arith; most = omega (arith, length-S n k); none = λ i l u. absurd (omega arith); passes = λ _. met }) in
    sym (find-met n k place w n asked (λ q. omega arith)) ∙ ap (λ (x : ℕ). record { refusal = 0; place = x }) (sym first)
