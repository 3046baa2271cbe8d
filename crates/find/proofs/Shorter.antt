-- Wishes once value m + 1 stands at a position: what is left of them, and that a row meets them just if its shorter one meets what is left. Assumes nothing.
use mathlib.Core.Path.{◌≡◌, refl, sym, ap, ◌∙◌}
use Prim.Native.Nat.{ℕ, suc, ◌+◌, ◌-◌, ◌≤◌}
use native.Mathlib.Omega.{arith}
use native.Mathlib.Decide.{ℕ_discrete}
use mathlib.Core.Bool.{Bool, true, ◌&&◌}
use mathlib.Core.List.{List, [], ◌∷◌, ◌++◌}
use lib.Dec.{eqb}
use lib.ListN.{length, get_or, take, length-set, length-append}
use lib.Seq.{length-take-le, take-length, take-suc, get_or-take}
use Rattle.stirling.proofs.Refusals.{and-true}
use Rattle.perm.specs.Lists.{one, tally}
use Rattle.perm.specs.Permutation.{IsPartial, at, put, extend}
use Rattle.perm.specs.Cycle.{cycles}
use Rattle.perm.proofs.Tally.{tally-append, tally-set}
use Rattle.perm.proofs.Exchange.{at-put_same, at-put_other, at-exchange_left, at-exchange-right, at-exchange-other}
use Rattle.perm.proofs.Split.{at-extend-low, at-extend-top}
use Rattle.perm.proofs.Cycles.{Leads, straight, through, cycles-longer}
use Rattle.gray.specs.Order.{Row}
use Rattle.perm.proofs.Same.{iff_equal}
use Rattle.rank.specs.Search.{grown}
use Rattle.find.specs.Meeting.{granted, meets}
use Rattle.find.specs.Search.{smaller}
use Rattle.find.proofs.Meeting.{both_true, meets_holds, meets_at}

-- wishes of m + 1 positions, and a position x of them
module _ {m : ℕ} (w : List ℕ) (size : length w ≡ suc m) (x : ℕ) (l : 1 ≤ x) (u : x ≤ suc m) where
  length-put : length (put w x (at w (suc m))) ≡ suc m
  length-put = length-set w (x - 1) (at w (suc m)) ∙ size

  pub length-smaller : length (smaller m x w) ≡ m
  length-smaller = length-take-le m (put w x (at w (suc m))) (omega (arith, length-put))

  -- position x has the wish of the last, and each other its own
  in-front : (i : ℕ) → 1 ≤ i → i ≤ m → at (smaller m x w) i ≡ at (put w x (at w (suc m))) i
  in-front i li ui = get_or-take m (put w x (at w (suc m))) (i - 1) 0 (omega arith)

  pub smaller-here : x ≤ m → at (smaller m x w) x ≡ at w (suc m)
  smaller-here h = in-front x l h ∙ at-put_same w x (at w (suc m)) l (omega arith)

  pub smaller-other : (i : ℕ) → 1 ≤ i → i ≤ m → (i ≡ x → ⊥) → at (smaller m x w) i ≡ at w i
  smaller-other i li ui d = in-front i li ui ∙ at-put_other w x i (at w (suc m)) l li d

  -- what a test counts in them: all but the wish of position x
  at_last : Dec (suc m ≡ x) → at (put w x (at w (suc m))) (suc m) ≡ at w (suc m)
  at_last (yes e) = rw e (at-put_same w x (at w x) l (omega arith))
  at_last (no d) = at-put_other w x (suc m) (at w (suc m)) l (omega arith) d

  pub tally-smaller : (p : ℕ → Bool) → tally p (smaller m x w) + one (p (at w x)) ≡ tally p w
  unfolding tally
  tally-smaller p =
      let v = at w (suc m) in
      let z : suc m - 1 ≡ m = omega arith in
      let whole : put w x v ≡ take m (put w x v) ++ (at (put w x v) (suc m) ∷ []) =
      sym (take-length (put w x v)) ∙ ap (λ (j : ℕ). take j (put w x v)) length-put
      ∙ take-suc (put w x v) m 0 (omega (arith, length-put))
      ∙ ap (λ (j : ℕ). take m (put w x v) ++ (get_or (put w x v) j 0 ∷ [])) (sym z) in
      let joined : tally p (put w x v) ≡ tally p (smaller m x w) + (one (p (at (put w x v) (suc m))) + 0) =
      ap (tally p) whole ∙ tally-append p (take m (put w x v)) (at (put w x v) (suc m) ∷ []) in
      omega (
        arith,
        joined,
        ap (λ (y : ℕ). one (p y)) (at_last (ℕ_discrete (suc m) x)),
        tally-set p 0 w (x - 1) v (omega arith),
      )

  -- the position whose wish position i has from now on
  data From (i a : ℕ) : Type 0 where
    last : i ≡ x → a ≡ suc m → From i a
    own : (i ≡ x → ⊥) → a ≡ i → From i a

  from : (i : ℕ) → 1 ≤ i → i ≤ m → (a : ℕ) × (1 ≤ a) × (a ≤ suc m) × (at (smaller m x w) i ≡ at w a) × From i a
  from i li ui = by-position (ℕ_discrete i x)
    where
      by-position : Dec (i ≡ x) → (a : ℕ) × (1 ≤ a) × (a ≤ suc m) × (at (smaller m x w) i ≡ at w a) × From i a
      by-position (yes e) = (suc m, omega arith, omega arith, rw e (smaller-here (omega arith)), last e refl)
      by-position (no d) = (i, li, omega arith, smaller-other i li ui d, own d refl)

  from_one : {i j a b : ℕ} → i ≤ m → j ≤ m → From i a → From j b → a ≡ b → i ≡ j
  from_one hi hj (last e f) (last g h) q = e ∙ sym g
  from_one hi hj (last e f) (own g h) q = absurd (omega arith)
  from_one hi hj (own e f) (last g h) q = absurd (omega arith)
  from_one hi hj (own e f) (own g h) q = sym f ∙ q ∙ h

  not-here : {i a : ℕ} → i ≤ m → From i a → a ≡ x → ⊥
  not-here h (last e f) q = omega arith
  not-here h (own d f) q = d (sym f ∙ q)

  -- wishes that are a partial permutation stay one where no other position wishes m + 1
  pub smaller-partial : IsPartial (suc m) w → ((i : ℕ) → 1 ≤ i → i ≤ suc m → at w i ≡ suc m → i ≡ x) → IsPartial m (smaller m x w)
  smaller-partial s only = record {
    size = length-smaller;
    bound = λ i li ui.
        let (a, la, ua, e, f) = from i li ui in
        let top : at w a ≡ suc m → ⊥ = λ t. not-here ui f (only a la ua t) in
        omega (arith, e, s.bound a la ua, top);
    apart = λ i j li ui lj uj e d.
        let (a, la, ua, ea, fa) = from i li ui in
        let (b, lb, ub, eb, fb) = from j lj uj in
        from_one ui uj fa fb (s.apart a b la ua lb ub (sym ea ∙ e ∙ eb) (λ z. d (ea ∙ z)));
  }

  -- and where x is the position that wishes it, or the last, the wishes close the cycles that are left to close, and one more where the last position wishes itself
  pub cycles-smaller : IsPartial (suc m) w → ((i : ℕ) → 1 ≤ i → i ≤ suc m → at w i ≡ suc m → i ≡ x) → (x ≤ m → at w x ≡ suc m)
      → cycles w ≡ cycles (smaller m x w) + one (eqb (at w (suc m)) (suc m))
  cycles-smaller s only here = cycles-longer (smaller-partial s only) s (λ y ly uy. by-position y ly uy (ℕ_discrete y x))
    where
      by-position : (y : ℕ) → 1 ≤ y → y ≤ m → Dec (y ≡ x) → Leads m (smaller m x w) w y
      by-position y ly uy (yes e) = let h : x ≤ m = omega arith in rw e (through (here h) (sym (smaller-here h)))
      by-position y ly uy (no d) = straight (sym (smaller-other y ly uy d))

-- a row of m + 1 that has value m + 1 at position x, and its shorter row γ
module _ {m : ℕ} (w : List ℕ) (size : length w ≡ suc m) (x : ℕ) (l : 1 ≤ x) (u : x ≤ suc m) (γ : Row) (z : length γ ≡ m) where
  abbrev longer : Row
  longer = grown (suc m) x γ

  abbrev added : Row
  added = extend (suc m) γ

  length-added : length added ≡ suc m
  unfolding extend
  length-added = length-append γ (suc m ∷ []) ∙ omega arith

  -- value m + 1 at x, the value that stood there at the last position, and the others as they were
  longer-here : at longer x ≡ suc m
  longer-here = at-exchange_left x (suc m) added l (omega (arith, length-added)) (omega arith) (omega (arith, length-added)) ∙ at-extend-top γ z

  longer-last : x ≤ m → at longer (suc m) ≡ at γ x
  longer-last h = at-exchange-right x (suc m) added l (omega (arith, length-added)) (omega arith) (omega (arith, length-added)) ∙ at-extend-low γ z x l h

  longer-other : (i : ℕ) → 1 ≤ i → i ≤ m → (i ≡ x → ⊥) → at longer i ≡ at γ i
  longer-other i li ui d =
      at-exchange-other x (suc m) added l (omega (arith, length-added)) (omega arith) (omega (arith, length-added)) i li d (λ e. omega arith)
      ∙ at-extend-low γ z i li ui

  -- it meets wishes just if value m + 1 is granted at x, and the shorter row meets what is left
  to-shorter : meets w longer ≡ true → (granted (at w x) (suc m) && meets (smaller m x w) γ) ≡ true
  to-shorter e =
      let each = meets_at w longer e in
      both_true (granted (at w x) (suc m)) (meets (smaller m x w) γ)
      (ap (granted (at w x)) (sym longer-here) ∙ each x l (omega arith))
      (meets_holds (smaller m x w) γ (λ i li ui. by-position i li (rw (length-smaller w size x l u) at ui) each (ℕ_discrete i x)))
    where
      by-position : (i : ℕ) → 1 ≤ i → i ≤ m → ((j : ℕ) → 1 ≤ j → j ≤ length w → granted (at w j) (at longer j) ≡ true) → Dec (i ≡ x)
          → granted (at (smaller m x w) i) (at γ i) ≡ true
      by-position i li ui each (yes e) =
          let h : x ≤ m = omega arith in
          rw (e, smaller-here w size x l u h, ← longer-last h) (each (suc m) (omega arith) (omega arith))
      by-position i li ui each (no d) = rw (smaller-other w size x l u i li ui d, ← longer-other i li ui d) (each i li (omega arith))

  to-longer : (granted (at w x) (suc m) && meets (smaller m x w) γ) ≡ true → meets w longer ≡ true
  to-longer e =
      let (here, rest) = and-true (granted (at w x) (suc m)) (meets (smaller m x w) γ) e in
      let each = meets_at (smaller m x w) γ rest in
      meets_holds w longer (λ i li ui. by-position i li (omega arith) here each (ℕ_discrete i x) (ℕ_discrete i (suc m)))
    where
      by-position : (i : ℕ) → 1 ≤ i → i ≤ suc m → granted (at w x) (suc m) ≡ true
          → ((j : ℕ) → 1 ≤ j → j ≤ length (smaller m x w) → granted (at (smaller m x w) j) (at γ j) ≡ true)
          → Dec (i ≡ x) → Dec (i ≡ suc m)
          → granted (at w i) (at longer i) ≡ true
      by-position i li ui here each (yes e) q = rw (e, longer-here) here
      by-position i li ui here each (no d) (yes q) =
          let h : x ≤ m = omega arith in
          rw (q, longer-last h, ← smaller-here w size x l u h) (each x l (rw (length-smaller w size x l u) h))
      by-position i li ui here each (no d) (no f) =
          let h : i ≤ m = omega arith in
          rw (longer-other i li h d, ← smaller-other w size x l u i li h d) (each i li (rw (length-smaller w size x l u) h))

  pub meets-grown : meets w longer ≡ (granted (at w x) (suc m) && meets (smaller m x w) γ)
  meets-grown = iff_equal (meets w longer) (granted (at w x) (suc m) && meets (smaller m x w) γ) to-shorter to-longer
