-- Runs: lists of rows, never empty, each a step from the one before, known by the ends that the first and the last row have, with the counts of the steps added up.
-- What an end is, and what a step, is left open: a run of permutations is one of functions on positions (proofs/Functions.antt), and one of arrays
-- (proofs/Entries.antt). Assumes nothing.
use mathlib.Core.Path.{◌≡◌, refl, subst}
use Prim.Native.Nat.{ℕ, zero, suc, ◌+◌, ◌-◌, ◌≤◌, ◌<◌}
use native.Mathlib.Omega.{arith}
use mathlib.Core.Bool.{Bool, true, false, not, cond}
use mathlib.Core.List.{List, [], ◌∷◌, ◌++◌, map, reverse, reverse-cons}
use lib.ListN.{length}
use Rattle.perm.specs.Permutation.{extend, insert}
use Rattle.gray.specs.Order.{Row, odd, reading}
use Rattle.gray.specs.Listing.{row_at, Positions}

-- ends, and when a row of n values has one; steps from an end to another, with a count; the ends of the row of nothing, of E(γ) and of I(i,γ). E and I keep steps and
-- their counts; from I(i,γ) to I(j,γ), and from I(p,I(a,γ)) to I(m,I(p,γ)), where the inner I puts in m, there are steps that count nothing
pub record Kind : Type 1 where
  pub End : Type 0
  pub Has : ℕ → Row → End → Type 0
  pub Step : ℕ → ℕ → End → End → Type 0
  pub none : End
  pub extended : ℕ → End → End
  pub inserted : ℕ → ℕ → End → End
  pub has_one : {n : ℕ} {s : Row} {f g : End} → Has n s f → Has n s g → f ≡ g
  pub has_none : Has 0 [] none
  pub has_extend : {n : ℕ} {s : Row} {f : End} → Has n s f → Has (suc n) (extend (suc n) s) (extended (suc n) f)
  pub has_insert : {n : ℕ} {s : Row} {f : End} (i : ℕ) → (1 ≤ i) × (i ≤ n) → Has n s f → Has (suc n) (insert (suc n) i s) (inserted (suc n) i f)
  pub step_back : {n c : ℕ} {f g : End} → Step n c f g → Step n c g f
  pub step-extend : {n c : ℕ} {f g : End} → Step n c f g → Step (suc n) c (extended (suc n) f) (extended (suc n) g)
  pub step-insert : {n c : ℕ} {f g : End} (i : ℕ) → (1 ≤ i) × (i ≤ n) → Step n c f g → Step (suc n) c (inserted (suc n) i f) (inserted (suc n) i g)
  pub step-position : {n : ℕ} (f : End) (i j : ℕ) → Positions n n i j → Step n 0 (inserted n i f) (inserted n j f)
  pub step_twice : {n : ℕ} (f : End) (a p m : ℕ) → Positions n m a p → (n ≡ a → ⊥) × (n ≡ p → ⊥) × (n ≡ m → ⊥)
      → Step n 0 (inserted n p (inserted m a f)) (inserted n m (inserted m p f))

-- rows of n values from f to g, whose steps count m
pub data Run (K : Kind) (n : ℕ) : ℕ → K.End → K.End → List Row → Type 0 where
  single : {m : ℕ} {f g : K.End} {s : Row} → K.Has n s f → K.Has n s g → m ≡ 0 → Run K n m f g (s ∷ [])
  more : {a b m : ℕ} {f h g : K.End} {s : Row} {rows : List Row} → K.Has n s f → K.Step n a f h → Run K n b h g rows → m ≡ a + b → Run K n m f g (s ∷ rows)

-- of a run from f to g, [L]e starts at `end e f g`, and stops where the next [L](e+1) starts
abbrev pub end : {A : Type 0} → ℕ → A → A → A
end e f g = cond (odd e) g f

module _ {K : Kind} where
  -- one run after another
  pub run-append : {n a b c m : ℕ} {f g h l : K.End} {xs ys : List Row} → Run K n a f g xs → K.Step n b g h → Run K n c h l ys → m ≡ a + b + c
      → Run K n m f l (xs ++ ys)
  run-append {n} {m = m} {l = l} {ys = ys} (single {s = s} r q z) st run e =
      subst (λ f. Run K n m f l (s ∷ ys)) (K.has_one q r) (more {m = m} q st run (omega arith))
  run-append {m = m} (more r s xs z) st run e = more {m = m} r s (run-append xs st run refl) (omega arith)

  -- a run backward
  pub run-reverse : {n m : ℕ} {f g : K.End} {xs : List Row} → Run K n m f g xs → Run K n m g f (reverse xs)
  run-reverse (single r q z) = single q r z
  run-reverse (more {s = s} {rows = rows} r st xs z) = rw (reverse-cons s rows) (run-append (run-reverse xs) (K.step_back st) (single r r refl) (omega arith))

  -- E and I of a run
  pub run-extend : {n m : ℕ} {f g : K.End} {xs : List Row} → Run K n m f g xs
      → Run K (suc n) m (K.extended (suc n) f) (K.extended (suc n) g) (map (extend (suc n)) xs)
  run-extend (single r q z) = single (K.has_extend r) (K.has_extend q) z
  run-extend (more r st xs z) = more (K.has_extend r) (K.step-extend st) (run-extend xs) z

  pub run-insert : {n m : ℕ} {f g : K.End} {xs : List Row} (i : ℕ) → (1 ≤ i) × (i ≤ n) → Run K n m f g xs
      → Run K (suc n) m (K.inserted (suc n) i f) (K.inserted (suc n) i g) (map (insert (suc n) i) xs)
  run-insert i h (single r q z) = single (K.has_insert i h r) (K.has_insert i h q) z
  run-insert i h (more r st xs z) = more (K.has_insert i h r) (K.step-insert i h st) (run-insert i h xs) z

  -- a run read as [L]e
  pub run-reading : {n m : ℕ} {f g : K.End} {xs : List Row} (e : ℕ) → Run K n m f g xs → Run K n m (end e f g) (end (suc e) f g) (reading e xs)
  unfolding odd reading
  run-reading {n} {m} {f} {g} {xs} e run = go (odd e)
    where
      go : (t : Bool) → Run K n m (cond t g f) (cond (not t) g f) (cond t (reverse xs) xs)
      go true = run-reverse run
      go false = run

  -- the first and the last row of a run
  pub run-first : {n m : ℕ} {f g : K.End} {xs : List Row} → Run K n m f g xs → K.Has n (row_at xs 0) f
  run-first (single r q z) = r
  run-first (more r st xs z) = r

  run-filled : {n m : ℕ} {f g : K.End} {xs : List Row} → Run K n m f g xs → 1 ≤ length xs
  run-filled (single r q z) = omega arith
  run-filled (more r st xs z) = omega arith

  pub run-last : {n m : ℕ} {f g : K.End} {xs : List Row} → Run K n m f g xs → K.Has n (row_at xs (length xs - 1)) g
  run-last (single r q z) = q
  run-last (more {rows = rows} r st xs z) =
      let e : suc (length rows) - 1 ≡ suc (length rows - 1) = omega (arith, run-filled xs) in
      rw e (run-last xs)

  -- what holds of two rows whose ends are a step apart holds of the neighbours in a run, and of its last and first row if its ends are a step apart
  module _ {n : ℕ} {R : Row → Row → Type 0} (near : (c : ℕ) (s t : Row) (f g : K.End) → K.Has n s f → K.Has n t g → K.Step n c f g → R s t) where
    pub run-neighbours : {m : ℕ} {f g : K.End} {xs : List Row} → Run K n m f g xs → (place : ℕ) → suc place < length xs
        → R (row_at xs place) (row_at xs (suc place))
    run-neighbours (single r q z) place h = absurd (omega arith)
    run-neighbours (more r st xs z) zero h = near _ _ _ _ _ r (run-first xs) st
    run-neighbours (more r st xs z) (suc place) h = run-neighbours xs place (omega arith)

    pub run-closed : {c m : ℕ} {f g : K.End} {xs : List Row} → Run K n m f g xs → K.Step n c g f → R (row_at xs (length xs - 1)) (row_at xs 0)
    run-closed run st = near _ _ _ _ _ (run-last run) (run-first run) st
