-- The least place from a place on whose row passes a test. Assumes nothing.
use mathlib.Core.Path.{◌≡◌, refl, sym, ap, ◌∙◌}
use Prim.Native.Nat.{ℕ, zero, suc, ◌+◌, ◌-◌, ◌≤◌, ◌<◌}
use native.Mathlib.Omega.{arith}
use mathlib.Core.Bool.{Bool, true, false, true≢false, cond}
use mathlib.Core.List.{List, [], ◌∷◌}
use lib.Dec.{ltb}
use lib.ListN.{length, drop, length-drop}
use lib.Seq.{get_or-drop}
use borrow.Table.Steps.{cases}
use borrow.Author.Tests.{lt-ltb, le-ltb, ltb-true, ltb-false}
use Rattle.std.proofs.Common.{Some, None}
use Rattle.perm.specs.Lists.{tally, some}
use Rattle.perm.proofs.Tally.{tally-none, one_passes}
use Rattle.gray.specs.Order.{Row}
use Rattle.gray.specs.Listing.{row_at}
use Rattle.find.specs.Meeting.{until, least_from}
use Rattle.find.specs.Search.{place_found}

-- the rows before it do not pass
until_most : (p : Row → Bool) (L : List Row) → until p L ≤ length L
unfolding until
until_most p [] = omega arith
until_most p (s ∷ L) = cases (p s) (λ t. rw t (omega arith)) (λ f. rw f (omega (arith, until_most p L)))

until_passes : (p : Row → Bool) (L : List Row) → until p L < length L → p (row_at L (until p L)) ≡ true
unfolding until
until_passes p [] h = absurd (omega arith)
until_passes p (s ∷ L) h = by-test (p s) refl (until_passes p L) h
  where
    by-test : (b : Bool) → p s ≡ b → (until p L < length L → p (row_at L (until p L)) ≡ true)
        → cond b 0 (suc (until p L)) < suc (length L) → p (row_at (s ∷ L) (cond b 0 (suc (until p L)))) ≡ true
    by-test true t later h = t
    by-test false t later h = later (omega arith)

until_none : (p : Row → Bool) (L : List Row) (i : ℕ) → i < until p L → p (row_at L i) ≡ false
unfolding until
until_none p [] i h = absurd (omega arith)
until_none p (s ∷ L) i h = by-test (p s) refl i (until_none p L) h
  where
    by-test : (b : Bool) → p s ≡ b → (i : ℕ) → ((j : ℕ) → j < until p L → p (row_at L j) ≡ false)
        → i < cond b 0 (suc (until p L)) → p (row_at (s ∷ L) i) ≡ false
    by-test true t i later h = absurd (omega arith)
    by-test false t zero later h = t
    by-test false t (suc i) later h = later i (omega arith)

-- r is the least place of a list from a on whose row passes, or the number of rows, where none does
pub record First (p : Row → Bool) (L : List Row) (a r : ℕ) : Type 0 where
  pub from : a ≤ r
  pub most : r ≤ length L
  pub none : (i : ℕ) → a ≤ i → i < r → p (row_at L i) ≡ false
  pub passes : r < length L → p (row_at L r) ≡ true

pub least_first : (p : Row → Bool) (L : List Row) (a : ℕ) → a ≤ length L → First p L a (least_from p L a)
least_first p L a h =
    let t = until p (drop a L) in
    let z = length-drop a L in
    record {
      from = omega arith;
      most = omega (arith, until_most p (drop a L));
      none = λ i l u.
          let e : a + (i - a) ≡ i = omega arith in
          ap (λ (x : ℕ). p (row_at L x)) (sym e) ∙ ap p (sym (get_or-drop a L (i - a) [])) ∙ until_none p (drop a L) (i - a) (omega arith);
      passes = λ l. ap p (sym (get_or-drop a L t [])) ∙ until_passes p (drop a L) (omega arith);
    }

-- there is one such place
module _ (p : Row → Bool) (L : List Row) (a : ℕ) where
  not_after : {r q : ℕ} → First p L a r → First p L a q → r < q → ⊥
  not_after {r} f g l = true≢false (sym (f.passes (omega (arith, g.most))) ∙ g.none r f.from l)

  pub first-least : {r : ℕ} → First p L a r → r ≡ least_from p L a
  first-least {r} f =
      let g = least_first p L a (omega (arith, f.from, f.most)) in
      let below : ¬ (r < least_from p L a) = not_after f g in
      let above : ¬ (least_from p L a < r) = not_after g f in
      omega arith

  -- where it is below the number of rows, some row from a on passes
  pub first_some : {r : ℕ} → First p L a r → r < length L → some p (drop a L) ≡ true
  first_some {r} f h =
      let e : a + (r - a) ≡ r = omega (arith, f.from) in
      lt-ltb 0 (tally p (drop a L))
      (one_passes p [] (drop a L) (r - a) (omega (arith, length-drop a L, f.from)) (ap p (get_or-drop a L (r - a) []) ∙ ap (λ (x : ℕ). p (row_at L x)) e ∙ f.passes h))

  -- and where it is not, none
  pub first-none : {r : ℕ} → First p L a r → length L ≤ r → some p (drop a L) ≡ false
  first-none f h =
      le-ltb 0 (tally p (drop a L))
      (omega (arith, tally-none p [] (drop a L) (λ i l. ap p (get_or-drop a L i []) ∙ f.none (a + i) (omega arith) (omega (arith, length-drop a L)))))

  -- as an option: the place, or none where no row from a on passes
  pub some_found : {r : ℕ} → First p L a r → r < length L → Some r ≡ place_found p L a
  unfolding place_found
  some_found {r} f h = rw (← first-least f, lt-ltb r (length L) h)

  pub none_found : {r : ℕ} → First p L a r → length L ≤ r → None ≡ place_found p L a
  unfolding place_found
  none_found {r} f h = rw (← first-least f, le-ltb r (length L) h)

  module _ (most : a ≤ length L) where
    pub found_first : {r : ℕ} → Some r ≡ place_found p L a → First p L a r × (r < length L)
    unfolding place_found
    found_first {r} =
        let q = least_from p L a in
        cases (ltb q (length L))
        (λ t e.
        let same : Some r ≡ Some q = rw t at e in
        let z : r ≡ q = cc in
        rw z (least_first p L a most, ltb-true q (length L) t))
        (λ f e. let no : Some r ≡ None = rw f at e in absurd cc)

    pub missing_first : None ≡ place_found p L a → First p L a (length L)
    unfolding place_found
    missing_first =
        let q = least_from p L a in
        let g = least_first p L a most in
        cases (ltb q (length L))
        (λ t e. let no : None ≡ Some q = rw t at e in absurd cc)
        (λ f e. let z : length L ≡ q = omega (arith, g.most, ltb-false q (length L) f) in rw z g)
