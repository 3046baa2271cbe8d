-- Letters put to steps one after the other, and the last column added up. Assumes nothing.
use mathlib.Core.Path.{◌≡◌, refl, sym, ap, ◌∙◌}
use Prim.Native.Nat.{ℕ, zero, suc, ◌+◌, ◌-◌, ◌≤◌, ◌<◌}
use native.Mathlib.Numerals.{add-one}
use native.Mathlib.Omega.{arith}
use mathlib.Core.List.{List, [], ◌∷◌, ◌++◌, append_assoc}
use lib.ListN.{length, get_or, take, set, replicate}
use lib.Seq.{length-take-le, take-suc, take-length, set_at}
use Rattle.rank.specs.declared.Step.{Step}
use Rattle.rank.specs.Descent.{still}
use Rattle.explain.specs.declared.Level.{Level}
use Rattle.explain.specs.declared.Summed.{Summed}
use Rattle.explain.specs.Levels.{level, lettered, total}
use Rattle.explain.specs.Explain.{blank}

lettered_none : (n : ℕ) → lettered n [] ≡ []
unfolding lettered
lettered_none zero = refl
lettered_none (suc n) = refl

-- one step more
lettered-snoc : (n : ℕ) (path : List Step) (x : Step) → length path < n → lettered n (path ++ (x ∷ [])) ≡ lettered n path ++ (level (n - length path) x ∷ [])
unfolding lettered
lettered-snoc zero path x h = absurd (omega arith)
lettered-snoc (suc n) [] x h = let e : suc n - 0 ≡ suc n = omega arith in rw (e, lettered_none n)
lettered-snoc (suc n) (y ∷ path) x h =
    let e : suc n - suc (length path) ≡ n - length path = omega arith in
    rw e (ap (λ (rows : List Level). level (suc n) y ∷ rows) (lettered-snoc n path x (omega arith)))

length-lettered : (n : ℕ) (path : List Step) → length path ≤ n → length (lettered n path) ≡ length path
unfolding lettered
length-lettered zero [] h = refl
length-lettered zero (x ∷ path) h = absurd (omega arith)
length-lettered (suc n) [] h = refl
length-lettered (suc n) (x ∷ path) h = ap suc (length-lettered n path (omega arith))

total-snoc : (rows : List Level) (x : Level) → total (rows ++ (x ∷ [])) ≡ total rows + x.before
unfolding total
total-snoc [] x = omega arith
total-snoc (y ∷ rows) x = omega (arith, total-snoc rows x)

-- the rows of some steps add up to no more than those of all
total-take : (n i : ℕ) (path : List Step) → total (lettered n (take i path)) ≤ total (lettered n path)
unfolding lettered total
total-take zero i path = omega arith
total-take (suc n) zero [] = omega arith
total-take (suc n) (suc i) [] = omega arith
total-take (suc n) zero (x ∷ path) = omega arith
total-take (suc n) (suc i) (x ∷ path) = omega (arith, total-take n i path)

-- the rows of the first i steps in front of rows of zeros, and their sum
pub record Upto (n : ℕ) (path : List Step) (rows : List Level) (place i : ℕ) : Type 0 where
  pub inside : i ≤ n
  pub front : rows ≡ lettered n (take i path) ++ replicate (20 - i) blank
  pub sum : place ≡ total (lettered n (take i path))

-- at first none
pub none_yet : (n : ℕ) (path : List Step) → Upto n path (replicate 20 blank) 0 0
unfolding total
none_yet n path = record { inside = omega arith; front = rw (lettered_none n); sum = rw (lettered_none n) }

module _ {n : ℕ} {path : List Step} {rows : List Level} {place i : ℕ} (u : Upto n path rows place i) (h : i < n) (few : n ≤ 20) (all : length path ≡ n) where
  abbrev new : Level
  new = level (n - i) (get_or path i still)

  -- the rows with one more
  next-rows : lettered n (take (suc i) path) ≡ lettered n (take i path) ++ (new ∷ [])
  next-rows =
      let front : length (take i path) ≡ i = length-take-le i path (omega arith) in
      ap (lettered n) (take-suc path i still (omega arith))
      ∙ lettered-snoc n (take i path) (get_or path i still) (omega arith)
      ∙ ap (λ (j : ℕ). lettered n (take i path) ++ (level (n - j) (get_or path i still) ∷ [])) front

  pub one_more : Upto n path (set rows i new) (place + new.before) (i + 1)
  one_more =
      let front : length (take i path) ≡ i = length-take-le i path (omega arith) in
      let size : length (lettered n (take i path)) ≡ i = length-lettered n (take i path) (omega arith) ∙ front in
      let zeros : 20 - i ≡ suc (20 - suc i) = omega arith in
      rw (add-one i)
      (record {
        inside = omega arith;
        front =
            ap (λ (l : List Level). set l i new) (u.front ∙ ap (λ (x : ℕ). lettered n (take i path) ++ replicate x blank) zeros)
            ∙ set_at (lettered n (take i path)) blank (replicate (20 - suc i) blank) new i size
            ∙ sym (append_assoc (lettered n (take i path)) (new ∷ []) (replicate (20 - suc i) blank))
            ∙ ap (λ (l : List Level). l ++ replicate (20 - suc i) blank) (sym next-rows);
        sum = ap (λ (x : ℕ). x + new.before) u.sum ∙ sym (total-snoc (lettered n (take i path)) new) ∙ ap total (sym next-rows);
      })

  -- the sum stays within that of all
  pub within : place + new.before ≤ total (lettered n path)
  within = omega (arith, one_more.sum, total-take n (i + 1) path)

-- at last all
pub all_up : {n : ℕ} {path : List Step} {rows : List Level} {place i : ℕ} → Upto n path rows place i → i ≡ n → length path ≡ n
    → ◌≡◌ {A = Summed} (record { place = place; rows = rows }) (record { place = total (lettered n path); rows = lettered n path ++ replicate (20 - n) blank })
all_up {n} {path} {rows} {place} {i} u e all =
    let whole : take i path ≡ path = ap (λ (j : ℕ). take j path) (e ∙ sym all) ∙ take-length path in
    let place_is = u.sum ∙ ap (λ (l : List Step). total (lettered n l)) whole in
    let rows_are = u.front ∙ ap (λ (l : List Step). lettered n l ++ replicate (20 - i) blank) whole ∙ ap (λ (j : ℕ). lettered n path ++ replicate (20 - j) blank) e in
    λ t. record { place = place_is t; rows = rows_are t }
