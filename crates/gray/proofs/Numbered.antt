-- How many blocks S(n,k) has, and the number of the block that puts value n at position i, relation by relation. Assumes nothing.
use mathlib.Core.Path.{◌≡◌, refl, sym, ap, subst, ◌∙◌}
use mathlib.Core.Logic.{◌⊎◌, inl, inr, ⊎_elim}
use Prim.Native.Nat.{ℕ, zero, suc, ◌+◌, ◌-◌, ◌≤◌, ◌<◌}
use native.Mathlib.Nat.{eq-or-lt_of_le}
use native.Mathlib.Omega.{arith}
use mathlib.Core.Bool.{Bool, true, false, cond}
use mathlib.Core.List.{List, [], ◌∷◌, ◌++◌, append-nil}
use lib.Dec.{eqb}
use borrow.Table.Steps.{cases}
use borrow.Author.Tests.{eqb-true, eqb-false, eq-eqb, ne_eqb}
use lib.ListN.{length, length-append}
use Rattle.gray.specs.declared.Block.{Block}
use Rattle.gray.specs.declared.Block.TheVariants.{Insert as I, Extend as E}
use Rattle.gray.specs.declared.Letter.{Letter}
use Rattle.gray.specs.Order.{letter, rising, falling, blocks_c3, blocks_c, blocks_d, blocks_e}
use Rattle.gray.specs.Blocks.{blocks_of_a, blocks_of, blocks, position_of, number_in, number_of}
use Rattle.gray.proofs.Which.{Which, is_none, is-a, is_b, is_c, is-d, is-e, which}
use Rattle.gray.proofs.Indexed.{block, length-falling, length-rising, long_a}
use Rattle.gray.proofs.InPlace.{InPlace, in_place, few_blocks}

-- x is the number of the first of some blocks that puts value n at position i; where none does, how many they are
data Number (n i : ℕ) : ℕ → List Block → Type 0 where
  no_more : Number n i 0 []
  here : {b : Block} {bs : List Block} → position_of n b ≡ i → Number n i 0 (b ∷ bs)
  later : {x : ℕ} {b : Block} {bs : List Block} → (position_of n b ≡ i → ⊥) → Number n i x bs → Number n i (suc x) (b ∷ bs)

is_number : {n i x : ℕ} {bs : List Block} → Number n i x bs → x ≡ number_in n i bs
unfolding number_in
is_number no_more = refl
is_number {n} {i} (here {b} e) = rw (eq-eqb (position_of n b) i e)
is_number {n} {i} (later {x} {b} e w) = rw (ne_eqb (position_of n b) i e) (ap suc (is_number w))

module _ {n i : ℕ} where
  -- the number counts down over blocks that put n elsewhere
  skip : {b : Block} {bs : List Block} (x : ℕ) → 1 ≤ x → (position_of n b ≡ i → ⊥) → Number n i (x - 1) bs → Number n i x (b ∷ bs)
  skip zero h o w = absurd (omega arith)
  skip (suc x) h o w = let e : suc x - 1 ≡ x = omega arith in later o (rw e at w)

  stop : {b : Block} {bs : List Block} (x : ℕ) → x ≡ 0 → position_of n b ≡ i → Number n i x (b ∷ bs)
  stop x h e = rw h (here e)

  -- one of the two
  choose : {b : Block} {bs : List Block} (x : ℕ)
      → (position_of n b ≡ i → x ≡ 0)
      → ((position_of n b ≡ i → ⊥) → (1 ≤ x) × Number n i (x - 1) bs)
      → Number n i x (b ∷ bs)
  choose {b} x hit miss =
      cases (eqb (position_of n b) i)
      (λ t. let e = eqb-true (position_of n b) i t in stop x (hit e) e)
      (λ t. let o = eqb-false (position_of n b) i t in let (l, w) = miss o in skip x l o w)

  end : (x : ℕ) → x ≡ 0 → Number n i x []
  end x h = rw h no_more

  -- a run of insertions at other positions, and one with position i
  falling-skip : {t : List Block} (x : ℕ) (g : ℕ → ℕ) (a m : ℕ) → m ≤ x → (a < i) ⊎ (i + m ≤ a) → Number n i (x - m) t
      → Number n i x (falling (λ i. I i (g i)) a m ++ t)
  unfolding falling
  falling-skip x g a zero h o w = let e : x - 0 ≡ x = omega arith in rw e at w
  falling-skip x g a (suc m) h (inl o) w =
      let e : x - 1 - m ≡ x - suc m = omega arith in
      skip x (omega arith) (λ (q : a ≡ i). omega arith) (falling-skip (x - 1) g (a - 1) m (omega arith) (inl (omega arith)) (rw e w))
  falling-skip x g a (suc m) h (inr o) w =
      let e : x - 1 - m ≡ x - suc m = omega arith in
      skip x (omega arith) (λ (q : a ≡ i). omega arith) (falling-skip (x - 1) g (a - 1) m (omega arith) (inr (omega arith)) (rw e w))

  falling-stop : (t : List Block) (x : ℕ) (g : ℕ → ℕ) (a m : ℕ) → x < m → i + x ≡ a → Number n i x (falling (λ i. I i (g i)) a m ++ t)
  unfolding falling
  falling-stop t x g a zero h e = absurd (omega arith)
  falling-stop t zero g a (suc m) h e = stop 0 refl (omega arith)
  falling-stop t (suc x) g a (suc m) h e =
      let o : a ≡ i → ⊥ = λ q. omega arith in
      later o (falling-stop t x g (a - 1) m (omega arith) (omega arith))

  rising-skip : {t : List Block} (x : ℕ) (g : ℕ → ℕ) (a m : ℕ) → m ≤ x → (i < a) ⊎ (a + m ≤ i) → Number n i (x - m) t
      → Number n i x (rising (λ i. I i (g i)) a m ++ t)
  unfolding rising
  rising-skip x g a zero h o w = let e : x - 0 ≡ x = omega arith in rw e at w
  rising-skip x g a (suc m) h (inl o) w =
      let e : x - 1 - m ≡ x - suc m = omega arith in
      skip x (omega arith) (λ (q : a ≡ i). omega arith) (rising-skip (x - 1) g (suc a) m (omega arith) (inl (omega arith)) (rw e w))
  rising-skip x g a (suc m) h (inr o) w =
      let e : x - 1 - m ≡ x - suc m = omega arith in
      skip x (omega arith) (λ (q : a ≡ i). omega arith) (rising-skip (x - 1) g (suc a) m (omega arith) (inr (omega arith)) (rw e w))

  rising-stop : (t : List Block) (x : ℕ) (g : ℕ → ℕ) (a m : ℕ) → x < m → a + x ≡ i → Number n i x (rising (λ i. I i (g i)) a m ++ t)
  unfolding rising
  rising-stop t x g a zero h e = absurd (omega arith)
  rising-stop t zero g a (suc m) h e = stop 0 refl (omega arith)
  rising-stop t (suc x) g a (suc m) h e =
      let o : a ≡ i → ⊥ = λ q. omega arith in
      later o (rising-stop t x g (suc a) m (omega arith) (omega arith))

-- (a), for n up to 4: the positions rise from 1
pub short_a : (n i x : ℕ) → n < 5 → (1 ≤ i) × (i ≤ n) → x ≡ i - 1 → x ≡ number_in n i (blocks_of_a n)
unfolding blocks_of_a number_in
short_a zero i x h l e = absurd (omega arith)
short_a (suc zero) zero x h l e = absurd (omega arith)
short_a (suc zero) (suc zero) x h l e = e
short_a (suc zero) (suc (suc i)) x h l e = absurd (omega arith)
short_a (suc (suc zero)) zero x h l e = absurd (omega arith)
short_a (suc (suc zero)) (suc zero) x h l e = e
short_a (suc (suc zero)) (suc (suc zero)) x h l e = e
short_a (suc (suc zero)) (suc (suc (suc i))) x h l e = absurd (omega arith)
short_a (suc (suc (suc zero))) zero x h l e = absurd (omega arith)
short_a (suc (suc (suc zero))) (suc zero) x h l e = e
short_a (suc (suc (suc zero))) (suc (suc zero)) x h l e = e
short_a (suc (suc (suc zero))) (suc (suc (suc zero))) x h l e = e
short_a (suc (suc (suc zero))) (suc (suc (suc (suc i)))) x h l e = absurd (omega arith)
short_a (suc (suc (suc (suc zero)))) zero x h l e = absurd (omega arith)
short_a (suc (suc (suc (suc zero)))) (suc zero) x h l e = e
short_a (suc (suc (suc (suc zero)))) (suc (suc zero)) x h l e = e
short_a (suc (suc (suc (suc zero)))) (suc (suc (suc zero))) x h l e = e
short_a (suc (suc (suc (suc zero)))) (suc (suc (suc (suc zero)))) x h l e = e
short_a (suc (suc (suc (suc zero)))) (suc (suc (suc (suc (suc i))))) x h l e = absurd (omega arith)
short_a (suc (suc (suc (suc (suc n))))) i x h l e = absurd (omega arith)

-- (a), for n from 5 on
module _ (n i x : ℕ) (h : 5 ≤ n) where
  pub a_first : i ≡ 1 → x ≡ 0 → x ≡ number_in n i (blocks_of_a n)
  a_first e z = rw (long_a n h) (is_number (stop x z (sym e)))

  pub a-run : 4 ≤ i → i < n → i + x ≡ n → x ≡ number_in n i (blocks_of_a n)
  a-run l u z =
      rw (long_a n h)
      (is_number (skip x (omega arith) (λ (q : 1 ≡ i). omega arith) (falling-stop _ (x - 1) _ (n - 1) (suc (n - 1) - 4) (omega arith) (omega arith))))

  -- past the run
  past-run : 2 ≤ i → (n ≤ i) ⊎ (i ≤ 3) → n ≤ x + 3 → Number n i (x - (n - 3)) (I 2 0 ∷ I 3 1 ∷ []) → x ≡ number_in n i (blocks_of_a n)
  past-run l o m w =
      let e : x - 1 - (suc (n - 1) - 4) ≡ x - (n - 3) = omega arith in
      let o' : (n - 1 < i) ⊎ (i + (suc (n - 1) - 4) ≤ n - 1) = ⊎_elim (λ p. inl (omega arith)) (λ p. inr (omega arith)) o in
      rw (long_a n h)
      (is_number
      (skip x (omega arith) (λ (q : 1 ≡ i). omega arith) (falling-skip (x - 1) _ (n - 1) (suc (n - 1) - 4) (omega arith) o' (rw e w))))

  a_second : i ≡ 2 → x + 3 ≡ n → x ≡ number_in n i (blocks_of_a n)
  a_second e z = past-run (omega arith) (inr (omega arith)) (omega arith) (stop _ (omega arith) (sym e))

  a-third : i ≡ 3 → x + 2 ≡ n → x ≡ number_in n i (blocks_of_a n)
  a-third e z =
      past-run (omega arith) (inr (omega arith)) (omega arith) (skip _ (omega arith) (λ (q : 2 ≡ i). omega arith) (stop _ (omega arith) (sym e)))

  pub a-last : 2 ≤ i → i < 4 → x + 5 ≡ n + i → x ≡ number_in n i (blocks_of_a n)
  a-last l u z = ⊎_elim (λ o. a_second (sym o) (omega arith)) (λ o. a-third (omega arith) (omega arith)) (eq-or-lt_of_le l)

  -- no block puts n at position n
  pub a-none : i ≡ n → x + 1 ≡ n → x ≡ number_in n i (blocks_of_a n)
  a-none e z =
      past-run (omega arith) (inl (omega arith)) (omega arith)
      (skip _ (omega arith) (λ (q : 2 ≡ i). omega arith) (skip _ (omega arith) (λ (q : 3 ≡ i). omega arith) (end _ (omega arith))))

-- (b)
pub b_extension : (n i : ℕ) → i ≡ n → 0 ≡ number_in n i (E 0 ∷ [])
b_extension n i e = is_number (here (sym e))

pub b_none : (n i : ℕ) → (i ≡ n → ⊥) → 1 ≡ number_in n i (E 0 ∷ [])
b_none n i o = is_number (later (λ e. o (sym e)) no_more)

-- (c)
fewer : (n x : ℕ) → 4 ≤ n → n ≤ x + 2 → x - 1 - 1 - (n - 4) ≡ x - (n - 2)
fewer n x h l = omega arith

less : (n x : ℕ) → 4 ≤ n → n ≤ x + 2 → x - 1 - 1 - (suc (n - 3) - 2) ≡ x - (n - 2)
less n x h l =
    let e : suc (n - 3) - 2 ≡ n - 4 = omega arith in
    ap (λ (y : ℕ). x - 1 - 1 - y) e ∙ fewer n x h l

module _ (n i x : ℕ) (h : 3 ≤ n) where
  -- for n = 3, and from 4 on
  by_three : (n ≡ 3 → Number n i x blocks_c3) → ((n ≡ 3 → ⊥) → Number n i x (blocks_c n)) → x ≡ number_in n i (cond (eqb n 3) blocks_c3 (blocks_c n))
  by_three three more = by-test (eqb n 3) refl
    where
      by-test : (t : Bool) → eqb n 3 ≡ t → x ≡ number_in n i (cond t blocks_c3 (blocks_c n))
      by-test true t = is_number (three (eqb-true n 3 t))
      by-test false t = is_number (more (eqb-false n 3 t))

  pub c-first : i ≡ 1 → x ≡ 0 → x ≡ number_in n i (cond (eqb n 3) blocks_c3 (blocks_c n))
  c-first e z = by_three (λ _. stop x z (sym e)) (λ _. stop x z (sym e))

  pub c-second : 2 ≤ i → i + 1 ≡ n → x ≡ 1 → x ≡ number_in n i (cond (eqb n 3) blocks_c3 (blocks_c n))
  c-second l e z =
      by_three
      (λ t. skip x (omega arith) (λ (q : 1 ≡ i). omega arith) (stop _ (omega arith) (omega arith)))
      (λ _. skip x (omega arith) (λ (q : 1 ≡ i). omega arith) (stop _ (omega arith) (omega arith)))

  pub c_run : 2 ≤ i → i + 3 ≤ n → x + i + 1 ≡ n → x ≡ number_in n i (cond (eqb n 3) blocks_c3 (blocks_c n))
  c_run l u z =
      by_three (λ t. absurd (omega arith))
      (λ _.
      skip x (omega arith) (λ (q : 1 ≡ i). omega arith)
      (skip _ (omega arith) (λ (q : n - 1 ≡ i). omega arith) (falling-stop _ (x - 1 - 1) _ (n - 3) (suc (n - 3) - 2) (omega arith) (omega arith))))

  -- past the run
  c-past : 2 ≤ i → (i + 2 ≡ n) ⊎ (i ≡ n) → n ≤ x + 2 → Number n i (x - (n - 2)) (I (n - 2) 0 ∷ E 1 ∷ []) → 4 ≤ n → Number n i x (blocks_c n)
  c-past l o m w g =
      let past : n - 3 < i = ⊎_elim (λ p. omega arith) (λ p. omega arith) o in
      let other : n - 1 ≡ i → ⊥ = λ q. ⊎_elim {C = ⊥} (λ p. omega arith) (λ p. omega arith) o in
      skip x (omega arith) (λ (q : 1 ≡ i). omega arith)
      (skip _ (omega arith) other (falling-skip (x - 1 - 1) _ (n - 3) (suc (n - 3) - 2) (omega arith) (inl past) (rw (less n x g m) w)))

  pub c-third : 2 ≤ i → i + 2 ≡ n → x + 2 ≡ n → x ≡ number_in n i (cond (eqb n 3) blocks_c3 (blocks_c n))
  c-third l e z =
      by_three (λ t. absurd (omega arith)) (λ _. c-past l (inl e) (omega arith) (stop _ (omega arith) (omega arith)) (omega arith))

  pub c-extension : i ≡ n → x + 1 ≡ n → x ≡ number_in n i (cond (eqb n 3) blocks_c3 (blocks_c n))
  c-extension e z =
      by_three
      (λ t.
      skip x (omega arith) (λ (q : 1 ≡ i). omega arith)
      (skip _ (omega arith) (λ (q : 2 ≡ i). omega arith) (stop _ (omega arith) (sym e))))
      (λ o.
      c-past (omega arith) (inr e) (omega arith)
      (skip _ (omega arith) (λ (q : n - 2 ≡ i). omega arith) (stop _ (omega arith) (sym e)))
      (omega arith))

-- (d)
module _ (n i x : ℕ) (h : 4 ≤ n) where
  pub d_first : i ≡ 1 → x ≡ 0 → x ≡ number_in n i (blocks_d n)
  d_first e z = is_number (stop x z (sym e))

  d-run : 3 ≤ i → i < n → x + 2 ≡ i → x ≡ number_in n i (blocks_d n)
  d-run l u z = is_number (skip x (omega arith) (λ (q : 1 ≡ i). omega arith) (rising-stop _ (x - 1) _ 3 (suc (n - 1) - 3) (omega arith) (omega arith)))

  d-past : (i < 3) ⊎ (n ≤ i) → 2 ≤ i → n ≤ x + 2 → Number n i (x - (n - 2)) (E 0 ∷ I 2 1 ∷ []) → x ≡ number_in n i (blocks_d n)
  d-past o l m w =
      let e : x - 1 - (suc (n - 1) - 3) ≡ x - (n - 2) = omega arith in
      let o' : (i < 3) ⊎ (3 + (suc (n - 1) - 3) ≤ i) = ⊎_elim (λ p. inl p) (λ p. inr (omega arith)) o in
      is_number (skip x (omega arith) (λ (q : 1 ≡ i). omega arith) (rising-skip (x - 1) _ 3 (suc (n - 1) - 3) (omega arith) o' (rw e w)))

  d-extension : i ≡ n → x + 2 ≡ n → x ≡ number_in n i (blocks_d n)
  d-extension e z = d-past (inr (omega arith)) (omega arith) (omega arith) (stop _ (omega arith) (sym e))

  pub d-more : 3 ≤ i → i ≤ n → x + 2 ≡ i → x ≡ number_in n i (blocks_d n)
  d-more l u z = ⊎_elim (λ o. d-extension o (omega arith)) (λ o. d-run l o z) (eq-or-lt_of_le u)

  pub d_last : i ≡ 2 → x + 1 ≡ n → x ≡ number_in n i (blocks_d n)
  d_last e z =
      d-past (inl (omega arith)) (omega arith) (omega arith) (skip _ (omega arith) (λ (q : n ≡ i). omega arith) (stop _ (omega arith) (sym e)))

-- (e)
module _ (n k i x : ℕ) (h : (2 ≤ k) × (k + 3 ≤ n)) where
  pub e-first : i ≡ 1 → x ≡ 0 → x ≡ number_in n i (blocks_e n k)
  e-first e z = is_number (stop x z (sym e))

  pub e-upper : k < i → i < n → x + i ≡ n → x ≡ number_in n i (blocks_e n k)
  e-upper l u z =
      is_number (skip x (omega arith) (λ (q : 1 ≡ i). omega arith) (falling-stop _ (x - 1) _ (n - 1) (suc (n - 1) - (k + 1)) (omega arith) (omega arith)))

  e-past : (n ≤ i) ⊎ (i ≤ k) → 2 ≤ i → n ≤ x + k → Number n i (x - (n - k)) (E k ∷ falling (λ i. I i (i - 1)) k (suc k - 2)) → x ≡ number_in n i (blocks_e n k)
  e-past o l m w =
      let e : x - 1 - (suc (n - 1) - (k + 1)) ≡ x - (n - k) = omega arith in
      let o' : (n - 1 < i) ⊎ (i + (suc (n - 1) - (k + 1)) ≤ n - 1) = ⊎_elim (λ p. inl (omega arith)) (λ p. inr (omega arith)) o in
      is_number (skip x (omega arith) (λ (q : 1 ≡ i). omega arith) (falling-skip (x - 1) _ (n - 1) (suc (n - 1) - (k + 1)) (omega arith) o' (rw e w)))

  pub e-extension : i ≡ n → x + k ≡ n → x ≡ number_in n i (blocks_e n k)
  e-extension e z = e-past (inl (omega arith)) (omega arith) (omega arith) (stop _ (omega arith) (sym e))

  pub e-lower : 2 ≤ i → i ≤ k → x + i ≡ n + 1 → x ≡ number_in n i (blocks_e n k)
  e-lower l u z =
      e-past (inr u) l (omega arith)
      (skip _ (omega arith) (λ (q : n ≡ i). omega arith)
      (subst (Number n i _) (append-nil _) (falling-stop [] _ _ k (suc k - 2) (omega arith) (omega arith))))

-- no block puts n outside 1 to n: all are counted
count-outside : (n i : ℕ) → (i < 1) ⊎ (n < i) → (bs : List Block) → ((j : ℕ) → InPlace n (block bs j)) → 1 ≤ n → length bs ≡ number_in n i bs
unfolding number_in
count-outside n i o [] p h = refl
count-outside n i o (I a e ∷ bs) p h =
    let q = p 0 in
    let other : a ≡ i → ⊥ = λ e. ⊎_elim {C = ⊥} (λ u. omega arith) (λ u. omega arith) o in
    rw (ne_eqb a i other) (ap suc (count-outside n i o bs (λ j. p (suc j)) h))
count-outside n i o (E e ∷ bs) p h =
    let other : n ≡ i → ⊥ = λ e. ⊎_elim {C = ⊥} (λ u. omega arith) (λ u. omega arith) o in
    rw (ne_eqb n i other) (ap suc (count-outside n i o bs (λ j. p (suc j)) h))

none : (n i : ℕ) (bs : List Block) → length bs ≡ 0 → length bs ≡ number_in n i bs
unfolding number_in
none n i [] e = refl
none n i (b ∷ bs) e = absurd (omega arith)

pub outside : (n k i : ℕ) → (i < 1) ⊎ (n < i) → length (blocks n k) ≡ number_of n k i
outside zero k i o = none 0 i (blocks 0 k) (omega (arith, few_blocks 0 k))
outside (suc n) k i o = count-outside (suc n) i o (blocks (suc n) k) (in_place (suc n) k) (omega arith)

-- how many blocks there are
count-a : (n x : ℕ) → 1 ≤ n → (n ≡ 1 → x ≡ 1) → (2 ≤ n → x + 1 ≡ n) → x ≡ length (blocks_of_a n)
unfolding blocks_of_a
count-a zero x h one more = absurd (omega arith)
count-a (suc zero) x h one more = one refl
count-a (suc (suc zero)) x h one more = omega (arith, more (omega arith))
count-a (suc (suc (suc zero))) x h one more = omega (arith, more (omega arith))
count-a (suc (suc (suc (suc zero)))) x h one more = omega (arith, more (omega arith))
count-a (suc (suc (suc (suc (suc m))))) x h one more = simp (length-append, length-falling) (omega (arith, more (omega arith)))

count-c : (n : ℕ) (t : Bool) → eqb n 3 ≡ t → 3 ≤ n → length (cond t blocks_c3 (blocks_c n)) ≡ n
count-c n true t h = sym (eqb-true n 3 t)
count-c n false t h = let g = eqb-false n 3 t in simp (length-append, length-falling) (omega arith)

-- by the relation that n and k are for
pub record CountOf (n k x : ℕ) : Type 0 where
  pub by_zero : k ≡ 0 → x ≡ 0
  pub by_beyond : n < k → x ≡ 0
  pub by_one : k ≡ n → 1 ≤ n → x ≡ 1
  pub by_a : k ≡ 1 → 2 ≤ n → x + 1 ≡ n
  pub by_more : 2 ≤ k → k < n → x ≡ n

is-count : (n k x : ℕ) → CountOf n k x → Which n k → x ≡ length (blocks n k)
unfolding blocks blocks_of blocks_of_a
is-count n k x w (is_none e o) = rw e (⊎_elim w.by_zero w.by_beyond o)
is-count n k x w (is-a e o h) = rw e (count-a n x h (λ q. w.by_one (omega arith) h) (w.by_a o))
is-count n k x w (is_b e o h) = rw e (w.by_one o (omega arith))
is-count n k x w (is_c e o h) = rw e (w.by_more (omega arith) (omega arith) ∙ sym (count-c n (eqb n 3) refl h))
is-count n k x w (is-d e o h) = rw e (w.by_more (omega arith) (omega arith) ∙ simp (length-append, length-rising) (omega arith))
is-count n k x w (is-e e h l) = rw e (w.by_more (omega arith) (omega arith) ∙ simp (length-append, length-falling) (omega arith))

pub counted : (n k x : ℕ) → CountOf n k x → x ≡ length (blocks n k)
counted n k x w = is-count n k x w (which n k)

-- the block that puts n at position i, with its number, as the relation has it that the letter names
pub picked : (n k i : ℕ) {l : Letter} {number : ℕ} → letter n k ≡ l → number ≡ number_in n i (blocks_of l n k) → number ≡ number_of n k i
unfolding blocks
picked n k i e f = f ∙ ap (λ (l : Letter). number_in n i (blocks_of l n k)) (sym e)

pub single : (j : ℕ) → E 0 ≡ block (E 0 ∷ []) j
single zero = refl
single (suc j) = refl
