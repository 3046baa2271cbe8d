-- Laws of `each`: what it counts, its length and its rows where all parts have one size, and its parts from the first on. Assumes nothing.
use mathlib.Core.Path.{◌≡◌, refl, sym, ap, ap₂, ◌∙◌}
use Prim.Native.Nat.{ℕ, zero, suc, ◌+◌, ◌-◌, ◌*◌, ◌≤◌, ◌<◌}
use native.Mathlib.Omega.{arith}
use native.Mathlib.Nat.{add-mul, zero-mul, mul-le-mul_right}
use mathlib.Core.Bool.{Bool, true, false}
use native.Mathlib.Decide.{ℕ_discrete}
use mathlib.Core.List.{List, [], ◌++◌, append_assoc, append-nil}
use lib.Dec.{ltb}
use lib.ListN.{length, length-append, get_or-append}
use lib.Seq.{get_or-append-add}
use borrow.Author.Tests.{lt-ltb, le-ltb}
use borrow.Table.Steps.{cases}
use Rattle.perm.specs.Lists.{one, tally, range, positions}
use Rattle.perm.proofs.Tally.{tally-append, tally-positions}
use Rattle.tree.specs.Tree.{each}
use Rattle.tree.specs.Listing.{row_at}

-- what the last number gives is there just if it passes
module _ (p : ℕ → Bool) (f : ℕ → List (List ℕ)) (n : ℕ) where
  pub each-taken : p (suc n) ≡ true → each p f (suc n) ≡ each p f n ++ f (suc n)
  unfolding each
  each-taken t = rw t

  pub each-passed : p (suc n) ≡ false → each p f (suc n) ≡ each p f n
  unfolding each
  each-passed t = rw t (append-nil (each p f n))

-- it depends only on which numbers pass and on what is given for those
pub each_cong : (p q : ℕ → Bool) (f g : ℕ → List (List ℕ)) (n : ℕ)
    → ((l : ℕ) → 1 ≤ l → l ≤ n → p l ≡ q l)
    → ((l : ℕ) → 1 ≤ l → l ≤ n → p l ≡ true → f l ≡ g l)
    → each p f n ≡ each q g n
unfolding each
each_cong p q f g zero alike h = refl
each_cong p q f g (suc n) alike h =
    let before = each_cong p q f g n (λ l a b. alike l a (omega arith)) (λ l a b. h l a (omega arith)) in
    let here = alike (suc n) (omega arith) (omega arith) in
    cases
    (p (suc n))
    (λ t. each-taken p f n t ∙ ap₂ ◌++◌ before (h (suc n) (omega arith) (omega arith) t) ∙ sym (each-taken q g n (sym here ∙ t)))
    (λ t. each-passed p f n t ∙ before ∙ sym (each-passed q g n (sym here ∙ t)))

-- where no number passes there is nothing
pub each_none : (p : ℕ → Bool) (f : ℕ → List (List ℕ)) (n : ℕ) → ((l : ℕ) → 1 ≤ l → l ≤ n → p l ≡ false) → each p f n ≡ []
unfolding each
each_none p f zero h = refl
each_none p f (suc n) h = each-passed p f n (h (suc n) (omega arith) (omega arith)) ∙ each_none p f n (λ l a b. h l a (omega arith))

-- of the numbers above h the first comes first
pub each_first : (f : ℕ → List (List ℕ)) (h m : ℕ) → each (ltb h) f (suc h + m) ≡ f (suc h) ++ each (ltb (suc h)) f (suc h + m)
each_first f h zero =
    let e : suc h + 0 ≡ suc h = omega arith in
    let none : each (ltb h) f h ≡ [] = each_none (ltb h) f h (λ l a b. le-ltb h l b) in
    let late : each (ltb (suc h)) f (suc h) ≡ [] = each_none (ltb (suc h)) f (suc h) (λ l a b. le-ltb (suc h) l b) in
    rw (e, each-taken (ltb h) f h (lt-ltb h (suc h) (omega arith)), none, late) (sym (append-nil (f (suc h))))
each_first f h (suc m) =
    let e : suc h + suc m ≡ suc (suc h + m) = omega arith in
    rw (e, each-taken (ltb h) f (suc h + m) (lt-ltb h _ (omega arith)), each-taken (ltb (suc h)) f (suc h + m) (lt-ltb (suc h) _ (omega arith)), each_first f h m)
    (append_assoc (f (suc h)) (each (ltb (suc h)) f (suc h + m)) (f (suc (suc h + m))))

-- what a test counts in `each`
module _ (q : List ℕ → Bool) (p : ℕ → Bool) (f : ℕ → List (List ℕ)) where
  -- the last number's part, if it passes
  tally-taken : (n : ℕ) → p (suc n) ≡ true → tally q (each p f (suc n)) ≡ tally q (each p f n) + tally q (f (suc n))
  tally-taken n t = rw (each-taken p f n t) (tally-append q (each p f n) (f (suc n)))

  tally-passed : (n : ℕ) → p (suc n) ≡ false → tally q (each p f (suc n)) ≡ tally q (each p f n)
  tally-passed n t = rw (each-passed p f n t)

  -- each part is among them
  pub tally-part : (n l : ℕ) → 1 ≤ l → l ≤ n → p l ≡ true → tally q (f l) ≤ tally q (each p f n)
  tally-part zero l a b t = absurd (omega arith)
  tally-part (suc n) l a b t =
      by_last (ℕ_discrete l (suc n)) (λ c. tally-part n l a c t)
    where
      by_last : Dec (l ≡ suc n) → (l ≤ n → tally q (f l) ≤ tally q (each p f n)) → tally q (f l) ≤ tally q (each p f (suc n))
      by_last (yes e) ih = rw e (omega (arith, tally-taken n (rw e at t)))
      by_last (no d) ih = cases (p (suc n)) (λ u. omega (arith, tally-taken n u, ih (omega arith))) (λ u. omega (arith, tally-passed n u, ih (omega arith)))

  -- some part counts
  abbrev Part : ℕ → Type 0
  Part n = (l : ℕ) × (1 ≤ l) × (l ≤ n) × (p l ≡ true) × (1 ≤ tally q (f l))

  later : (n : ℕ) → Part n → Part (suc n)
  later n (l, a, b, t, g) = (l, a, omega arith, t, g)

  -- a row that is counted stands in some part
  pub tally-some : (n : ℕ) → 1 ≤ tally q (each p f n) → Part n
  unfolding each tally
  tally-some zero h = absurd (omega arith)
  tally-some (suc n) h =
      cases
      (p (suc n))
      (λ t. by_last t (ℕ_discrete (tally q (f (suc n))) 0) (λ g. later n (tally-some n g)))
      (λ t. later n (tally-some n (omega (arith, tally-passed n t))))
    where
      by_last : p (suc n) ≡ true → Dec (tally q (f (suc n)) ≡ 0) → (1 ≤ tally q (each p f n) → Part (suc n)) → Part (suc n)
      by_last t (yes e) ih = ih (omega (arith, tally-taken n t))
      by_last t (no d) ih = (suc n, omega arith, omega arith, t, omega arith)

  -- where no part counts more than one, and no two parts count any, one is counted at most
  pub tally-most : (n : ℕ)
      → ((l : ℕ) → 1 ≤ l → l ≤ n → p l ≡ true → tally q (f l) ≤ 1)
      → ((l k : ℕ) → 1 ≤ l → l < k → k ≤ n → p l ≡ true → p k ≡ true → 1 ≤ tally q (f l) → 1 ≤ tally q (f k) → ⊥)
      → tally q (each p f n) ≤ 1
  unfolding each tally
  tally-most zero few apart = omega arith
  tally-most (suc n) few apart =
      let rest = tally-most n (λ l a b. few l a (omega arith)) (λ l k a b c. apart l k a b (omega arith)) in
      cases
      (p (suc n))
      (λ t. by_last t rest (ℕ_discrete (tally q (f (suc n))) 0) (ℕ_discrete (tally q (each p f n)) 0))
      (λ t. omega (arith, tally-passed n t))
    where
      by_last : p (suc n) ≡ true → tally q (each p f n) ≤ 1 → Dec (tally q (f (suc n)) ≡ 0) → Dec (tally q (each p f n) ≡ 0) → tally q (each p f (suc n)) ≤ 1
      by_last t rest (yes e) d = omega (arith, tally-taken n t)
      by_last t rest (no e) (yes d) = omega (arith, tally-taken n t, few (suc n) (omega arith) (omega arith) t)
      by_last t rest (no e) (no d) =
          let (l, a, b, u, g) = tally-some n (omega arith) in
          absurd (apart l (suc n) a (omega arith) (omega arith) u t g (omega arith))

-- a number that passes counts: fewer pass before it than up to any later one
pub tally-below : (p : ℕ → Bool) (n l : ℕ) → 1 ≤ l → l ≤ n → p l ≡ true → tally p (positions (l - 1)) < tally p (positions n)
tally-below p zero l a b t = absurd (omega arith)
tally-below p (suc n) l a b t = by_last (ℕ_discrete l (suc n)) (λ c. tally-below p n l a c t)
  where
    by_last : Dec (l ≡ suc n) → (l ≤ n → tally p (positions (l - 1)) < tally p (positions n)) → tally p (positions (l - 1)) < tally p (positions (suc n))
    by_last (yes e) ih = let z : l - 1 ≡ n = omega arith in rw z (omega (arith, tally-positions p n, ap one (rw e at t)))
    by_last (no d) ih = omega (arith, tally-positions p n, ih (omega arith))

-- so, where each that passes has so many rows, a row of its part stands before the rows of later parts
pub row_inside : (p : ℕ → Bool) (size n l i : ℕ) → 1 ≤ l → l ≤ n → p l ≡ true → i < size → tally p (positions (l - 1)) * size + i < tally p (positions n) * size
row_inside p size n l i a b t h =
    let below = mul-le-mul_right size (tally-below p n l a b t) in
    omega (arith, add-mul (tally p (positions (l - 1))) 1 size)

-- parts of one size
module _ (p : ℕ → Bool) (f : ℕ → List (List ℕ)) (size : ℕ) where
  abbrev Even : ℕ → Type 0
  Even n = (l : ℕ) → 1 ≤ l → l ≤ n → p l ≡ true → length (f l) ≡ size

  -- they have as many rows as there are parts, times the size
  pub length-each : (n : ℕ) → Even n → length (each p f n) ≡ tally p (positions n) * size
  unfolding each tally range
  length-each zero even = sym (zero-mul size)
  length-each (suc n) even =
      let before = length-each n (λ l a b. even l a (omega arith)) in
      let last = tally-positions p n in
      cases
      (p (suc n))
      (λ t. by-taken t before (last ∙ ap (λ x. tally p (positions n) + one x) t) (even (suc n) (omega arith) (omega arith) t))
      (λ t. by-passed t before (last ∙ ap (λ x. tally p (positions n) + one x) t))
    where
      by-taken : p (suc n) ≡ true → length (each p f n) ≡ tally p (positions n) * size → tally p (positions (suc n)) ≡ tally p (positions n) + 1 → length (f (suc n)) ≡ size
          → length (each p f (suc n)) ≡ tally p (positions (suc n)) * size
      by-taken t before last here =
          rw (last, each-taken p f n t, add-mul (tally p (positions n)) 1 size) (length-append (each p f n) (f (suc n)) ∙ omega arith)

      by-passed : p (suc n) ≡ false → length (each p f n) ≡ tally p (positions n) * size → tally p (positions (suc n)) ≡ tally p (positions n) + 0
          → length (each p f (suc n)) ≡ tally p (positions (suc n)) * size
      by-passed t before last = rw (last, each-passed p f n t) (before ∙ ap (λ (x : ℕ). x * size) (omega arith))

  -- the row that stands so far into the part of l, behind the parts before it
  pub row-each : (n l i : ℕ) → Even n → 1 ≤ l → l ≤ n → p l ≡ true → i < size → row_at (each p f n) (tally p (positions (l - 1)) * size + i) ≡ row_at (f l) i
  row-each zero l i even a b t h = absurd (omega arith)
  row-each (suc n) l i even a b t h =
      by_last (ℕ_discrete l (suc n)) (λ c. row-each n l i (λ k d e. even k d (omega arith)) a c t h)
    where
      before : length (each p f n) ≡ tally p (positions n) * size
      before = length-each n (λ l a b. even l a (omega arith))

      behind : i < length (f (suc n)) → p (suc n) ≡ true → row_at (each p f (suc n)) (tally p (positions n) * size + i) ≡ row_at (f (suc n)) i
      behind u v = rw (each-taken p f n v, ← before) (get_or-append-add (each p f n) (f (suc n)) i [])

      by_last : Dec (l ≡ suc n) → (l ≤ n → row_at (each p f n) (tally p (positions (l - 1)) * size + i) ≡ row_at (f l) i)
          → row_at (each p f (suc n)) (tally p (positions (l - 1)) * size + i) ≡ row_at (f l) i
      by_last (yes e) ih =
          let v : p (suc n) ≡ true = rw e at t in
          let z : suc n - 1 ≡ n = omega arith in
          rw (e, z) (behind (omega (arith, even (suc n) (omega arith) (omega arith) v)) v)
      by_last (no d) ih =
          let inside : tally p (positions (l - 1)) * size + i < length (each p f n) = rw before (row_inside p size n l i a (omega arith) t h) in
          cases
          (p (suc n))
          (λ u. rw (each-taken p f n u) (get_or-append (each p f n) (f (suc n)) [] _ inside ∙ ih (omega arith)))
          (λ u. rw (each-passed p f n u) (ih (omega arith)))
