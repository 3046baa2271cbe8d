-- Exchanges of two positions as functions, and their identities. Assumes nothing.
use mathlib.Core.Path.{◌≡◌, refl, sym, ap, ◌∙◌, fun_ext}
use mathlib.Core.Bool.{Bool, true, false, cond}
use Prim.Native.Nat.{ℕ}
use lib.Dec.{eqb}
use borrow.Author.Tests.{eqb-true, eqb-false, eq-eqb, ne_eqb}

infixl 40 ◌·◌
-- the product of two functions on positions, the right one first, as document 01's product of permutations
abbrev pub ◌·◌ : (ℕ → ℕ) → (ℕ → ℕ) → ℕ → ℕ
(f · g) x = f (g x)

-- the function that leaves every position alone
abbrev pub same : ℕ → ℕ
same x = x

-- document 01's ⟨a,b⟩
unfoldable pub swap : ℕ → ℕ → ℕ → ℕ
swap a b x = cond (eqb x a) b (cond (eqb x b) a x)

-- ⟨a,b⟩ takes a to b, b to a, and leaves every other position alone
pub swap_left : (a b : ℕ) → swap a b a ≡ b
unfolding swap
swap_left a b = rw (eq-eqb a a refl)

pub swap_right : (a b : ℕ) → swap a b b ≡ a
unfolding swap
swap_right a b = go (eqb b a) refl
  where
    go : (t : Bool) → eqb b a ≡ t → swap a b b ≡ a
    go true e = rw e (eqb-true b a e)
    go false e = rw (e, eq-eqb b b refl)

pub swap_other : (a b x : ℕ) → (x ≡ a → ⊥) → (x ≡ b → ⊥) → swap a b x ≡ x
unfolding swap
swap_other a b x h k = rw (ne_eqb x a h, ne_eqb x b k)

-- where x stands with respect to a and b, and what ⟨a,b⟩ makes of it
pub data Met (a b x : ℕ) : Type 0 where
  left : x ≡ a → swap a b x ≡ b → Met a b x
  right : x ≡ b → swap a b x ≡ a → Met a b x
  neither : (x ≡ a → ⊥) → (x ≡ b → ⊥) → swap a b x ≡ x → Met a b x

-- one of these applies
pub met : (a b x : ℕ) → Met a b x
met a b x = first (eqb x a) refl
  where
    second : (x ≡ a → ⊥) → (t : Bool) → eqb x b ≡ t → Met a b x
    second h true e = right (eqb-true x b e) (ap (swap a b) (eqb-true x b e) ∙ swap_right a b)
    second h false e = neither h (eqb-false x b e) (swap_other a b x h (eqb-false x b e))

    first : (t : Bool) → eqb x a ≡ t → Met a b x
    first true e = left (eqb-true x a e) (ap (swap a b) (eqb-true x a e) ∙ swap_left a b)
    first false e = second (eqb-false x a e) (eqb x b) refl

-- ⟨a,b⟩·⟨a,b⟩ changes nothing
pub swap_twice : (a b : ℕ) → swap a b · swap a b ≡ same
swap_twice a b = fun_ext (λ x. go x (met a b x))
  where
    go : (x : ℕ) → Met a b x → swap a b (swap a b x) ≡ x
    go x (left e v) = rw v (swap_right a b ∙ sym e)
    go x (right e v) = rw v (swap_left a b ∙ sym e)
    go x (neither h k v) = rw (v, v)

-- ⟨a,b⟩ = ⟨b,a⟩
pub swap_sym : (a b : ℕ) → swap a b ≡ swap b a
swap_sym a b = fun_ext (λ x. go x (met a b x))
  where
    go : (x : ℕ) → Met a b x → swap a b x ≡ swap b a x
    go x (left e v) = v ∙ sym (ap (swap b a) e ∙ swap_right b a)
    go x (right e v) = v ∙ sym (ap (swap b a) e ∙ swap_left b a)
    go x (neither h k v) = v ∙ sym (swap_other b a x k h)

-- ⟨i,j⟩ takes different positions to different positions
pub swap_injective : (i j x y : ℕ) → swap i j x ≡ swap i j y → x ≡ y
swap_injective i j x y e = sym (ap (λ f. f x) (swap_twice i j)) ∙ ap (swap i j) e ∙ ap (λ f. f y) (swap_twice i j)

-- ⟨i,j⟩ after ⟨a,b⟩ is ⟨a',b'⟩ after ⟨i,j⟩, where ⟨i,j⟩ takes a to a' and b to b'
swap_carried : (a b i j x : ℕ) → swap (swap i j a) (swap i j b) (swap i j x) ≡ swap i j (swap a b x)
swap_carried a b i j x = go (met a b x)
  where
    go : Met a b x → swap (swap i j a) (swap i j b) (swap i j x) ≡ swap i j (swap a b x)
    go (left e v) = rw (v, e) (swap_left (swap i j a) (swap i j b))
    go (right e v) = rw (v, e) (swap_right (swap i j a) (swap i j b))
    go (neither h k v) = rw v (swap_other _ _ _ (λ e. h (swap_injective i j x a e)) (λ e. k (swap_injective i j x b e)))

-- the law that every identity below rests on: f·⟨a,b⟩·⟨i,j⟩ = f·⟨i,j⟩·⟨a',b'⟩, where ⟨i,j⟩ takes a to a' and b to b'
pub swap_past : (f : ℕ → ℕ) (a b i j : ℕ) → f · swap a b · swap i j ≡ f · swap i j · swap (swap i j a) (swap i j b)
swap_past f a b i j = fun_ext (λ x. ap f (go x))
  where
    go : (x : ℕ) → swap a b (swap i j x) ≡ swap i j (swap (swap i j a) (swap i j b) x)
    go x =
        sym (ap (λ g. g (swap a b (swap i j x))) (swap_twice i j))
        ∙ ap (swap i j) (sym (swap_carried a b i j (swap i j x)))
        ∙ ap (λ g. swap i j (swap (swap i j a) (swap i j b) (g x))) (swap_twice i j)

-- f·⟨a,b⟩·⟨i,j⟩ = f·⟨i,j⟩·⟨a,b⟩ for four different positions
pub swap_apart : (f : ℕ → ℕ) (a b i j : ℕ) → (a ≡ i → ⊥) × (a ≡ j → ⊥) × (b ≡ i → ⊥) × (b ≡ j → ⊥)
    → f · swap a b · swap i j ≡ f · swap i j · swap a b
swap_apart f a b i j h = swap_past f a b i j ∙ rw (swap_other i j a h.0 h.1, swap_other i j b h.2 h.3)

-- f·⟨a,b⟩·⟨b,c⟩ = f·⟨a,c⟩·⟨a,b⟩
pub swap_round : (f : ℕ → ℕ) (a b c : ℕ) → (c ≡ a → ⊥) × (c ≡ b → ⊥) → f · swap a b · swap b c ≡ f · swap a c · swap a b
swap_round f a b c h = sym (swap_past f a c a b ∙ rw (swap_left a b, swap_other a b c h.0 h.1))
