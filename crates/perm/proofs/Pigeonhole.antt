-- Finite search among the first numbers: a least value of a function, and the pigeonhole principle. Assumes nothing.
use mathlib.Core.Path.{◌≡◌, sym, ap, ◌∙◌}
use mathlib.Core.Logic.{◌⊎◌, inl, inr}
use Prim.Native.Nat.{ℕ, zero, suc, ◌+◌, ◌-◌, ◌≤◌, ◌<◌, min}
use native.Mathlib.Nat.{eq-or-lt_of_le, le_refl}
use native.Mathlib.Decide.{ℕ_discrete, dec_le}
use native.Mathlib.Omega.{arith}

-- some argument below n has the value v, or none has
data Search (f : ℕ → ℕ) (v n : ℕ) : Type 0 where
  found : (t : ℕ) → t < n → f t ≡ v → Search f v n
  missing : ((t : ℕ) → t < n → f t ≡ v → ⊥) → Search f v n

search_more : (f : ℕ → ℕ) (v n : ℕ) → Search f v n → Dec (f n ≡ v) → Search f v (suc n)
search_more f v n (found t h e) d = found t (omega arith) e
search_more f v n (missing h) (yes e) = found n (omega arith) e
search_more f v n (missing h) (no d) = missing (λ t k e. last t e (eq-or-lt_of_le k))
  where
    last : (t : ℕ) → f t ≡ v → (suc t ≡ suc n) ⊎ (suc t < suc n) → ⊥
    last t e (inl q) = let r : t ≡ n = omega arith in d (rw r at e)
    last t e (inr l) = h t (omega arith) e

search_below : (f : ℕ → ℕ) (v n : ℕ) → Search f v n
search_below f v zero = missing (λ t h e. omega arith)
search_below f v (suc n) = search_more f v n (search_below f v n) (ℕ_discrete (f n) v)

-- the numbers other than v, closed up: those above v are one less; and back
skip : ℕ → ℕ → ℕ
skip v x = x - min 1 (suc x - v)

unskip : ℕ → ℕ → ℕ
unskip v x = x + min 1 (suc x - v)

skip_range : (n v x : ℕ) → 1 ≤ v → v ≤ suc n → 1 ≤ x → x ≤ suc n → (x ≡ v → ⊥) → (1 ≤ skip v x) × (skip v x ≤ n)
unfolding skip
skip_range n v x hv kv hx kx d = omega arith

unskip_skip : (v x : ℕ) → (x ≡ v → ⊥) → unskip v (skip v x) ≡ x
unfolding skip unskip
unskip_skip v x d = omega arith

-- the values at 0 to n are within 1 to n
abbrev pub Within : (ℕ → ℕ) → ℕ → Type 0
Within f n = (t : ℕ) → t ≤ n → (1 ≤ f t) × (f t ≤ n)

-- two of the values at 0 to n are equal
abbrev pub Repeats : (ℕ → ℕ) → ℕ → Type 0
Repeats f n = (a : ℕ) × (b : ℕ) × (a < b) × (b ≤ n) × (f a ≡ f b)

-- the values before the one at n + 1, closed up around it
abbrev before : (ℕ → ℕ) → ℕ → ℕ → ℕ
before f n t = skip (f (suc n)) (f t)

pigeonhole_step : (n : ℕ) (f : ℕ → ℕ) → Within f (suc n) → (Within (before f n) n → Repeats (before f n) n)
    → Search f (f (suc n)) (suc n) → Repeats f (suc n)
pigeonhole_step n f r fewer (found t h e) = (t, suc n, h, le_refl (suc n), e)
pigeonhole_step n f r fewer (missing h) = repeats (fewer inside)
  where
    v : ℕ
    v = f (suc n)

    inside : Within (before f n) n
    inside t k =
        let a = r t (omega arith) in
        let b = r (suc n) (le_refl (suc n)) in
        skip_range n v (f t) b.0 b.1 a.0 a.1 (h t (omega arith))

    repeats : Repeats (before f n) n → Repeats f (suc n)
    repeats (a, b, l, k, e) =
        (a, b, l, omega arith, sym (unskip_skip v (f a) (h a (omega arith))) ∙ ap (unskip v) e ∙ unskip_skip v (f b) (h b (omega arith)))

-- n + 1 values within 1 to n: two of them are equal
pub pigeonhole : (n : ℕ) (f : ℕ → ℕ) → Within f n → Repeats f n
pigeonhole zero f r = absurd (omega (arith, r 0 (le_refl 0)))
pigeonhole (suc n) f r = pigeonhole_step n f r (pigeonhole n (before f n)) (search_below f (f (suc n)) (suc n))

-- one of the values at 0 to n is least among them
abbrev pub Minimum : (ℕ → ℕ) → ℕ → Type 0
Minimum f n = (t : ℕ) × (t ≤ n) × ((u : ℕ) → u ≤ n → f t ≤ f u)

minimum_step : (f : ℕ → ℕ) (n : ℕ) → Minimum f n → Minimum f (suc n)
minimum_step f n (t, h, low) = choose (dec_le (f t) (f (suc n)))
  where
    last : {v : ℕ} → ((u : ℕ) → u ≤ n → v ≤ f u) → v ≤ f (suc n) → (u : ℕ) → (u ≡ suc n) ⊎ (u < suc n) → v ≤ f u
    last below l u (inl e) = rw e l
    last below l u (inr k) = below u (omega arith)

    choose : Dec (f t ≤ f (suc n)) → Minimum f (suc n)
    choose (yes l) = (t, omega arith, λ u k. last low l u (eq-or-lt_of_le k))
    choose (no d) = (suc n, le_refl (suc n), λ u k. last (λ u k. omega (arith, low u k)) (le_refl (f (suc n))) u (eq-or-lt_of_le k))

-- a function has a least value among those at 0 to n
pub minimum : (f : ℕ → ℕ) (n : ℕ) → Minimum f n
minimum f zero = (0, le_refl 0, λ u h. let e : 0 ≡ u = omega arith in rw e (le_refl (f u)))
minimum f (suc n) = minimum_step f n (minimum f n)
