-- The number of cycles, by following, of E(γ), of I(i,γ), and of a partial permutation with one position more; a cycle closes within n steps and has exactly one least
-- position. From what a permutation's values are, the pigeonhole principle, and the laws of counting. Assumes nothing.
use mathlib.Core.Path.{◌≡◌, refl, sym, ap, ◌∙◌}
use mathlib.Core.Logic.{◌⊎◌, inl, inr}
use mathlib.Core.Bool.{Bool, true, false}
use mathlib.Core.List.{List}
use Prim.Native.Nat.{ℕ, zero, suc, ◌+◌, ◌-◌, ◌≤◌, ◌<◌}
use native.Mathlib.Nat.{eq-or-lt_of_le, le_refl, le_antisymm, zero-add, suc-add}
use native.Mathlib.Decide.{ℕ_discrete}
use native.Mathlib.Omega.{arith}
use lib.Dec.{T, eqb, ltb, nltb→le}
use lib.ListN.{length}
use borrow.Author.Tests.{ltb-false, le-ltb, eq-eqb, ne_eqb}
use Rattle.perm.specs.Lists.{one, tally, positions}
use Rattle.perm.specs.Permutation.{IsPermutation, IsPartial, at, extend, insert}
use Rattle.perm.specs.Cycle.{follow, least, cycles}
use Rattle.perm.proofs.Tally.{tally-positions, tally-range_cong, range_none_passes, range-tally_none}
use Rattle.perm.proofs.Values.{in_range, injective}
use Rattle.perm.proofs.Split.{extend_permutation, insert_permutation, at-extend-low, at-extend-top, at-insert-here, at-insert-top, at-insert-other}
use Rattle.perm.proofs.Pigeonhole.{pigeonhole, minimum}

-- ---- following

pub follow_add : (s : List ℕ) (t u i : ℕ) → follow s (t + u) i ≡ follow s t (follow s u i)
unfolding follow
follow_add s zero u i = rw zero-add
follow_add s (suc t) u i = rw suc-add (ap (at s) (follow_add s t u i))

pub follow-fixed : (s : List ℕ) (i : ℕ) → at s i ≡ i → (t : ℕ) → follow s t i ≡ i
unfolding follow
follow-fixed s i e zero = refl
follow-fixed s i e (suc t) = ap (at s) (follow-fixed s i e t) ∙ e

-- as long as no 0 is met, where a value is missing, what is met is a position
follow_inside : {n : ℕ} {s : List ℕ} → IsPartial n s → (i : ℕ) → i ≤ n → (t : ℕ) → ((u : ℕ) → u < t → 1 ≤ follow s u i) → follow s t i ≤ n
unfolding follow
follow_inside p i h zero goes = h
follow_inside {n} {s} p i h (suc t) goes = p.bound (follow s t i) (goes t (omega arith)) (follow_inside p i h t (λ u l. goes u (omega arith)))

-- from a position that in n steps never leads to 0
module _ {n : ℕ} {s : List ℕ} (p : IsPartial n s) (i : ℕ) (h : i ≤ n) (goes : (t : ℕ) → t ≤ n → 1 ≤ follow s t i) where
  inside : (t : ℕ) → t ≤ n → follow s t i ≤ n
  inside t l = follow_inside p i h t (λ u b. goes u (omega arith))

  -- equal positions after a and after a + d steps: d steps lead back
  pub repeat-closes : (a d : ℕ) → a + d ≤ n → follow s a i ≡ follow s (a + d) i → i ≡ follow s d i
  unfolding follow
  repeat-closes zero d l e = rw zero-add at e
  repeat-closes (suc a) d l e =
      let f : at s (follow s a i) ≡ at s (follow s (a + d) i) = rw suc-add at e in
      repeat-closes a d (omega arith)
      (p.apart (follow s a i) (follow s (a + d) i) (goes a (omega arith)) (inside a (omega arith)) (goes (a + d) (omega arith)) (inside (a + d) (omega arith)) f
      (λ z. omega (arith, goes (suc a) (omega arith))))

  -- its cycle closes within n steps
  closes-within : (t : ℕ) × (1 ≤ t) × (t ≤ n) × (follow s t i ≡ i)
  closes-within =
      let (a, b, l, m, e) = pigeonhole n (λ t. follow s t i) (λ t k. (goes t k, inside t k)) in
      let d : a + (b - a) ≡ b = omega arith in
      (b - a, omega arith, omega arith, sym (repeat-closes a (b - a) (omega arith) (rw d e)))

-- a permutation is a partial one
pub partial : {n : ℕ} {s : List ℕ} → IsPermutation n s → IsPartial n s
partial p = record {
  size = p.size;
  bound = λ i h k. (in_range p i h k).1;
  apart = λ i j hi ki hj kj e _. injective p i j hi ki hj kj e;
}

pub follow-range : {n : ℕ} {s : List ℕ} → IsPermutation n s → (t i : ℕ) → 1 ≤ i → i ≤ n → (1 ≤ follow s t i) × (follow s t i ≤ n)
unfolding follow
follow-range p zero i h k = (h, k)
follow-range {n} {s} p (suc t) i h k = let r = follow-range p t i h k in in_range p (follow s t i) r.0 r.1

-- so its cycles close within n steps
pub closes : {n : ℕ} {s : List ℕ} → IsPermutation n s → (i : ℕ) → 1 ≤ i → i ≤ n → (t : ℕ) × (1 ≤ t) × (t ≤ n) × (follow s t i ≡ i)
closes p i h k = closes-within (partial p) i k (λ t _. (follow-range p t i h k).0)

-- what is met from i on a cycle that closes after c steps is met in fewer than c
module _ (s : List ℕ) (i c : ℕ) (h : 1 ≤ c) (q : follow s c i ≡ i) where
  met-step : (t u : ℕ) → follow s t i ≡ follow s u i → (suc u ≡ c) ⊎ (suc u < c) → (v : ℕ) × (v < c) × (follow s (suc t) i ≡ follow s v i)
  unfolding follow
  met-step t u e (inl d) = (0, h, ap (at s) e ∙ ap (λ x. follow s x i) d ∙ q)
  met-step t u e (inr l) = (suc u, l, ap (at s) e)

  pub met-before : (t : ℕ) → (u : ℕ) × (u < c) × (follow s t i ≡ follow s u i)
  met-before zero = (0, h, refl)
  met-before (suc t) = let (u, l, e) = met-before t in met-step t u e (eq-or-lt_of_le l)

module _ {n : ℕ} {s : List ℕ} (p : IsPermutation n s) (i : ℕ) (h : 1 ≤ i) (k : i ≤ n) where
  -- what is met from i is met within n steps
  pub met-within : (t : ℕ) → (u : ℕ) × (u ≤ n) × (follow s t i ≡ follow s u i)
  met-within t =
      let (c, l, m, q) = closes p i h k in
      let (u, b, e) = met-before s i c l q t in
      (u, omega arith, e)

  -- what is met from i is met from each position that is met from i
  pub met-from : (t u : ℕ) → (v : ℕ) × (follow s u i ≡ follow s v (follow s t i))
  met-from t u =
      let (c, l, m, q) = closes p i h k in
      let (w, b, e) = met-before s i c l q t in
      let d : c - w + w ≡ c = omega arith in
      let back : follow s (c - w) (follow s t i) ≡ i = ap (follow s (c - w)) e ∙ sym (follow_add s (c - w) w i) ∙ rw d q in
      (u + (c - w), sym (follow_add s u (c - w) (follow s t i) ∙ ap (follow s u) back))

-- ---- what `least` tests

one-true : (b : Bool) → T b → one b ≡ 1
one-true true h = refl
one-true false h = absurd h

one-false : (b : Bool) → (T b → ⊥) → one b ≡ 0
one-false true h = absurd (h tt)
one-false false h = refl

-- no position met from i is below i, however many steps are made
abbrev pub Low : List ℕ → ℕ → Type 0
Low s i = (t : ℕ) → i ≤ follow s t i

pub low_least : (s : List ℕ) (i : ℕ) → Low s i → T (least s i)
unfolding least
low_least s i low = rw (range-tally_none (λ t. ltb (follow s t i) i) 1 (length s) (λ t _ _. le-ltb _ _ (low t))) tt

least_bound : (s : List ℕ) (i : ℕ) → T (least s i) → (t : ℕ) → t ≤ length s → i ≤ follow s t i
unfolding least follow
least_bound s i l zero k = le_refl i
least_bound s i l (suc t) k =
    let none : tally (λ t. ltb (follow s t i) i) (positions (length s)) ≤ 0 = nltb→le _ _ l in
    ltb-false _ _ (range_none_passes (λ t. ltb (follow s t i) i) 1 (length s) (omega arith) (suc t) (omega arith) (omega arith))

least-low : {n : ℕ} {s : List ℕ} → IsPartial n s → (i : ℕ) → 1 ≤ i → i ≤ n → T (least s i) → Low s i
least-low {n} {s} p i h k l t =
    let low : (u : ℕ) → u ≤ n → i ≤ follow s u i = λ u b. least_bound s i l u (rw p.size b) in
    let (c, lc, mc, q) = closes-within p i k (λ u b. omega (arith, low u b)) in
    let (u, b, e) = met-before s i c lc q t in
    rw e (low u (omega arith))

-- the cycle of i holds a position that `least` counts
pub has_least : {n : ℕ} {s : List ℕ} → IsPermutation n s → (i : ℕ) → 1 ≤ i → i ≤ n → (t : ℕ) × (t ≤ n) × T (least s (follow s t i))
has_least {n} {s} p i h k =
    let (t, b, low) = minimum (λ t. follow s t i) n in
    (t, b, low_least s (follow s t i) (λ u. let (v, c, e) = met-within p i h k (u + t) in rw (← follow_add s u t i, e) (low v c)))

-- a least position on the cycle of i is at most each position of the cycle
pub least_le : {n : ℕ} {s : List ℕ} → IsPermutation n s → (i t u : ℕ) → 1 ≤ i → i ≤ n → T (least s (follow s t i)) → follow s t i ≤ follow s u i
least_le {n} {s} p i t u h k l =
    let r = follow-range p t i h k in
    let (v, e) = met-from p i h k t u in
    rw e (least-low (partial p) (follow s t i) r.0 r.1 l v)

-- and only one
pub one_least : {n : ℕ} {s : List ℕ} → IsPermutation n s → (i t u : ℕ) → 1 ≤ i → i ≤ n
    → T (least s (follow s t i)) → T (least s (follow s u i)) → follow s t i ≡ follow s u i
one_least p i t u h k lt lu = le_antisymm (least_le p i t u h k lt) (least_le p i u t h k lu)

-- a position that leads to itself is least, and one that leads below itself is not
pub fixed_least : (s : List ℕ) (i : ℕ) → at s i ≡ i → T (least s i)
fixed_least s i e = low_least s i (λ t. omega (arith, follow-fixed s i e t))

pub falls_least : (s : List ℕ) (i : ℕ) → 1 ≤ length s → at s i < i → T (least s i) → ⊥
unfolding follow
falls_least s i h k l = omega (arith, least_bound s i l 1 h)

-- ---- one position more

-- the position x of γ leads in s where it did in γ, straight or through the position m + 1
pub data Leads (m : ℕ) (γ s : List ℕ) (x : ℕ) : Type 0 where
  straight : at s x ≡ at γ x → Leads m γ s x
  through : at s x ≡ suc m → at s (suc m) ≡ at γ x → Leads m γ s x

-- x is met in γ from j; or it is m + 1, which leads in s to a position that is
data Met (m : ℕ) (γ s : List ℕ) (j x : ℕ) : Type 0 where
  old : (u : ℕ) → x ≡ follow γ u j → Met m γ s j x
  new : (u : ℕ) → x ≡ suc m → at s (suc m) ≡ follow γ u j → Met m γ s j x

-- tests that imply one another are equal
pub same_test : (a b : Bool) → (T a → T b) → (T b → T a) → a ≡ b
same_test true true f g = refl
same_test true false f g = absurd (f tt)
same_test false true f g = absurd (g tt)
same_test false false f g = refl

-- the cycle of j in γ and in s, which is γ with the position m + 1 added
module _ {m : ℕ} {γ s : List ℕ} (p : IsPartial m γ) (leads : (x : ℕ) → 1 ≤ x → x ≤ m → Leads m γ s x) (j : ℕ) (h : 1 ≤ j) (k : j ≤ m) where
  shorter-step : (t u : ℕ) → follow γ t j ≡ follow s u j → Leads m γ s (follow γ t j) → (v : ℕ) × (follow γ (suc t) j ≡ follow s v j)
  unfolding follow
  shorter-step t u e (straight f) = (suc u, sym f ∙ ap (at s) e)
  shorter-step t u e (through f g) = (suc (suc u), sym g ∙ ap (at s) (sym f ∙ ap (at s) e))

  -- a position met in γ is met in s, where none below j is
  shorter : Low s j → (t : ℕ) → (follow γ t j ≤ m) × ((u : ℕ) × (follow γ t j ≡ follow s u j))
  unfolding follow
  shorter low zero = (k, (0, refl))
  shorter low (suc t) =
      let (b, (u, e)) = shorter low t in
      let a : 1 ≤ follow γ t j = omega (arith, low u) in
      (p.bound (follow γ t j) a b, shorter-step t u e (leads (follow γ t j) a b))

  low-shorter : Low s j → Low γ j
  low-shorter low t = let (_, (u, e)) = shorter low t in rw e (low u)

  -- and the other way round, where none below j is met in γ
  module _ (low : Low γ j) where
    longer-old : (u : ℕ) → Leads m γ s (follow γ u j) → Met m γ s j (at s (follow γ u j))
    unfolding follow
    longer-old u (straight f) = old (suc u) f
    longer-old u (through f g) = new (suc u) f g

    longer-step : (x : ℕ) → Met m γ s j x → Met m γ s j (at s x)
    longer-step x (old u e) = rw e (longer-old u (leads (follow γ u j) (omega (arith, low u)) (follow_inside p j k u (λ t _. omega (arith, low t)))))
    longer-step x (new u e f) = old u (ap (at s) e ∙ f)

    -- a position met in s is met in γ, or is m + 1
    longer : (t : ℕ) → Met m γ s j (follow s t j)
    unfolding follow
    longer zero = old 0 refl
    longer (suc t) = longer-step (follow s t j) (longer t)

    met-low : (x : ℕ) → Met m γ s j x → j ≤ x
    met-low x (old u e) = rw e (low u)
    met-low x (new u e f) = omega arith

    low-longer : Low s j
    low-longer t = met-low (follow s t j) (longer t)

  least-same : IsPartial (suc m) s → least s j ≡ least γ j
  least-same q =
      same_test (least s j) (least γ j) (λ l. low_least γ j (low-shorter (least-low q j h (omega arith) l))) (λ l. low_least s j (low-longer (least-low p j h k l)))

-- m + 1 is the least position of its cycle just where it leads to itself
top_least : {m : ℕ} {s : List ℕ} → IsPartial (suc m) s → Dec (at s (suc m) ≡ suc m) → one (least s (suc m)) ≡ one (eqb (at s (suc m)) (suc m))
top_least {m} {s} q (yes e) = one-true (least s (suc m)) (fixed_least s (suc m) e) ∙ sym (ap one (eq-eqb (at s (suc m)) (suc m) e))
top_least {m} {s} q (no d) =
    let falls : at s (suc m) < suc m = omega (arith, q.bound (suc m) (omega arith) (omega arith)) in
    one-false (least s (suc m)) (falls_least s (suc m) (omega (arith, q.size)) falls) ∙ sym (ap one (ne_eqb (at s (suc m)) (suc m) d))

-- s has as many cycles as γ, and one more where m + 1 leads to itself
pub cycles-longer : {m : ℕ} {γ s : List ℕ} → IsPartial m γ → IsPartial (suc m) s → ((x : ℕ) → 1 ≤ x → x ≤ m → Leads m γ s x)
    → cycles s ≡ cycles γ + one (eqb (at s (suc m)) (suc m))
unfolding cycles tally
cycles-longer {m} {γ} {s} p q leads =
    rw (q.size, p.size, tally-positions, tally-range_cong (least s) (least γ) 1 m (λ j h k. least-same p leads j h (omega arith) q), ← top_least q (ℕ_discrete (at s (suc m)) (suc m)))

-- in E(γ) the new position is a cycle of its own
pub cycles-extend : {m : ℕ} {γ : List ℕ} → IsPermutation m γ → cycles (extend (suc m) γ) ≡ suc (cycles γ)
cycles-extend {m} {γ} p =
    let s = extend (suc m) γ in
    omega (
      arith,
      cycles-longer (partial p) (partial (extend_permutation p)) (λ x h k. straight (at-extend-low γ p.size x h k)),
      ap one (eq-eqb (at s (suc m)) (suc m) (at-extend-top γ p.size)),
    )

insert-leads : {m : ℕ} {γ : List ℕ} (i : ℕ) → 1 ≤ i → i ≤ m → IsPermutation m γ → (x : ℕ) → 1 ≤ x → x ≤ m → Dec (x ≡ i) → Leads m γ (insert (suc m) i γ) x
insert-leads {m} {γ} i h k p x hx kx (yes e) = rw e (through (at-insert-here γ i h k p.size) (at-insert-top γ i h k p.size))
insert-leads {m} {γ} i h k p x hx kx (no d) = straight (at-insert-other γ i h k p.size x hx kx d)

-- in I(i,γ) the new position joins the cycle of i, between i and γ(i)
pub cycles-insert : {m : ℕ} {γ : List ℕ} (i : ℕ) → 1 ≤ i → i ≤ m → IsPermutation m γ → cycles (insert (suc m) i γ) ≡ cycles γ
cycles-insert {m} {γ} i h k p =
    let s = insert (suc m) i γ in
    omega (
      arith,
      cycles-longer (partial p) (partial (insert_permutation i h k p)) (λ x hx kx. insert-leads i h k p x hx kx (ℕ_discrete x i)),
      ap one (ne_eqb (at s (suc m)) (suc m) (λ e. omega (arith, at-insert-top γ i h k p.size, (in_range p i h k).1))),
    )
