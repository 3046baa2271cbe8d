-- What the loops of the checks rest on: a search through a list, and through the positions 1 to n; and check 7 in one pass, by a flag for each value.
-- Assumes nothing.
use Prim.Native.Nat.{ℕ, ◌+◌, ◌-◌, ◌≤◌, ◌<◌}
use native.Mathlib.Omega.{arith}
use native.Mathlib.Numerals.{add-one}
use mathlib.Core.Path.{◌≡◌, refl, sym, ap, ◌∙◌}
use mathlib.Core.Bool.{Bool, true, false, not}
use mathlib.Core.List.{List}
use borrow.Table.Steps.{cases}
use borrow.Author.Tests.{lt-ltb, le-ltb, ltb-false, eq-eqb, ne_eqb, eqb-true, eqb-false, not-false}
use lib.Dec.{eqb, ltb}
use lib.ListN.{length, get_or, drop, set, replicate, length-set, get_or-replicate, drop_of_length-le}
use lib.Seq.{drop-cons, get_or-set_same, get_or-set_other}
use Rattle.stirling.specs.Refusal.{within}
use Rattle.stirling.proofs.Refusals.{refuse_applies, refuse_passes, refuse-passed, within-true}
use Rattle.perm.specs.Lists.{one, tally, some, positions}
use Rattle.perm.specs.Checks.{check_values, check_twice}
use Rattle.perm.proofs.Tally.{length-range, get_or-range, none_passes, one_passes, range-tally_none}

-- what is counted from index i on: the element there, and the rest
tally-from : (p : ℕ → Bool) (xs : List ℕ) (i : ℕ) → i < length xs → tally p (drop i xs) ≡ one (p (get_or xs i 0)) + tally p (drop (i + 1) xs)
unfolding tally
tally-from p xs i h = rw (add-one, drop-cons xs i 0)

-- the same of the elements equal to v, where the element there is v, and where it is not
tally_hit : (v : ℕ) (xs : List ℕ) (i : ℕ) → i < length xs → get_or xs i 0 ≡ v → tally (eqb v) (drop i xs) ≡ 1 + tally (eqb v) (drop (i + 1) xs)
tally_hit v xs i h e = tally-from (eqb v) xs i h ∙ rw (eq-eqb v (get_or xs i 0) (sym e))

tally_miss : (v : ℕ) (xs : List ℕ) (i : ℕ) → i < length xs → (get_or xs i 0 ≡ v → ⊥) → tally (eqb v) (drop i xs) ≡ tally (eqb v) (drop (i + 1) xs)
tally_miss v xs i h d = tally-from (eqb v) xs i h ∙ rw (ne_eqb v (get_or xs i 0) (λ e. d (sym e))) (omega arith)

-- nothing is counted past the end
tally-end : (p : ℕ → Bool) (xs : List ℕ) (i : ℕ) → length xs ≤ i → tally p (drop i xs) ≡ 0
unfolding tally
tally-end p xs i h = rw (drop_of_length-le xs h)

-- a search for an element that passes the test, where none of the first i does
module _ (p : ℕ → Bool) (xs : List ℕ) (i : ℕ) (none : tally p xs ≡ tally p (drop i xs)) where
  -- index i does not either
  pub passed : i < length xs → p (get_or xs i 0) ≡ false → tally p xs ≡ tally p (drop (i + 1) xs)
  passed h e = none ∙ tally-from p xs i h ∙ rw e (omega arith)

  -- index i does
  pub found : i < length xs → p (get_or xs i 0) ≡ true → some p xs ≡ true
  found h e = let f : tally p xs ≡ 1 + tally p (drop (i + 1) xs) = none ∙ tally-from p xs i h ∙ rw e in lt-ltb 0 (tally p xs) (omega arith)

  -- there is no index i
  pub exhausted : length xs ≤ i → some p xs ≡ false
  exhausted h = let f : tally p xs ≡ 0 = none ∙ tally-end p xs i h in le-ltb 0 (tally p xs) (omega arith)

-- the same among the positions 1 to n, of which index i holds i + 1
module _ (p : ℕ → Bool) (n i : ℕ) (none : tally p (positions n) ≡ tally p (drop i (positions n))) where
  here : i < n → get_or (positions n) i 0 ≡ i + 1
  here h = get_or-range 1 n i h ∙ omega arith

  pub passed-position : i < n → p (i + 1) ≡ false → tally p (positions n) ≡ tally p (drop (i + 1) (positions n))
  passed-position h e = passed p (positions n) i none (rw length-range h) (rw here e)

  pub found-position : i < n → p (i + 1) ≡ true → some p (positions n) ≡ true
  found-position h e = found p (positions n) i none (rw length-range h) (rw here e)

  pub exhausted-positions : n ≤ i → some p (positions n) ≡ false
  exhausted-positions h = exhausted p (positions n) i none (rw length-range h)

-- where check 6 does not refuse, every value is 1 to n
pub values-passed : (s : List ℕ) → check_values s ≡ 0 → (i : ℕ) → i < length s → (1 ≤ get_or s i 0) × (get_or s i 0 ≤ length s)
values-passed s e i h =
    let p : ℕ → Bool = λ v. not (within 1 (length s) v) in
    let none : tally p s ≡ 0 = omega (arith, ltb-false 0 (tally p s) (refuse-passed (some p s) 5 e)) in
    within-true 1 (length s) (get_or s i 0) (not-false _ (none_passes p 0 s none i h))

-- check 7 by a flag for each value: what is counted of a value is its flag, and what is counted from index i on
pub record Met (s : List ℕ) (met : List Bool) (i : ℕ) : Type 0 where
  pub size : length met ≡ 21
  pub flag : (v : ℕ) → v ≤ 20 → tally (eqb v) s ≡ one (get_or met v false) + tally (eqb v) (drop i s)

-- at first no flag is set
pub met_none : (s : List ℕ) → Met s (replicate 21 false) 0
met_none s = record { size = refl; flag = λ v h. rw (get_or-replicate 21 v false false (omega arith)) (omega arith) }

-- a flag counts at most 1
pub one_bound : (b : Bool) → one b ≤ 1
one_bound true = omega arith
one_bound false = omega arith

-- the test of check 7
abbrev twice : List ℕ → ℕ → Bool
twice s v = ltb 1 (tally (eqb v) s)

-- with the flags of the first i values set
module _ {s : List ℕ} {met : List Bool} {i : ℕ} (m : Met s met i) where
  -- at last no value is counted more than once
  pub met_all : length s ≤ 20 → length s ≤ i → check_twice s ≡ 0
  met_all k h = refuse_passes _ 7 (le-ltb 0 (tally (twice s) (positions (length s))) (omega (arith, range-tally_none (twice s) 1 (length s) once)))
    where
      once : (v : ℕ) → 1 ≤ v → v < 1 + length s → twice s v ≡ false
      once v a b = le-ltb 1 (tally (eqb v) s) (omega (arith, m.flag v (omega arith), one_bound (get_or met v false), tally-end (eqb v) s i h))

  -- the value at index i
  module _ (v : ℕ) (h : i < length s) (e : v ≡ get_or s i 0) (k : v ≤ 20) where
    -- its flag is set: it is counted twice
    pub met-twice : 1 ≤ v → v ≤ length s → get_or met v false ≡ true → check_twice s ≡ 7
    met-twice l n f =
        let two : 1 < tally (eqb v) s = omega (arith, m.flag v k, ap one f, tally_hit v s i h (sym e)) in
        let there : get_or (positions (length s)) (v - 1) 0 ≡ v = get_or-range 1 (length s) (v - 1) (omega arith) ∙ omega arith in
        let index : v - 1 < length (positions (length s)) = omega (arith, length-range 1 (length s)) in
        refuse_applies _ 7 (lt-ltb 0 _ (one_passes (twice s) 0 (positions (length s)) (v - 1) index (rw there (lt-ltb 1 _ two))))

    -- it is not, and gets set
    pub met-step : get_or met v false ≡ false → Met s (set met v true) (i + 1)
    met-step f = record { size = simp length-set m.size; flag = λ w l. cases (eqb w v) (hit w) (miss w l) }
      where
        hit : (w : ℕ) → eqb w v ≡ true → tally (eqb w) s ≡ one (get_or (set met v true) w false) + tally (eqb w) (drop (i + 1) s)
        hit w t =
            let q : w ≡ v = eqb-true w v t in
            rw (q, get_or-set_same met v true false (omega (arith, m.size))) (omega (arith, m.flag v k, ap one f, tally_hit v s i h (sym e)))

        miss : (w : ℕ) → w ≤ 20 → eqb w v ≡ false → tally (eqb w) s ≡ one (get_or (set met v true) w false) + tally (eqb w) (drop (i + 1) s)
        miss w l t =
            let d = eqb-false w v t in
            rw (get_or-set_other met v w true false d) (m.flag w l ∙ rw (tally_miss w s i h (λ q. d (sym q ∙ sym e))))
