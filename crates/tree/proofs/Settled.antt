-- A permutation whose positions above h have their own values, and its exchange of one of the first positions with h + 1: what it has where, how it is undone, and the
-- highest position away. Assumes nothing.
use mathlib.Core.Path.{◌≡◌, refl, sym, ◌∙◌}
use Prim.Native.Nat.{ℕ, zero, suc, ◌+◌, ◌≤◌, ◌<◌}
use native.Mathlib.Omega.{arith}
use native.Mathlib.Decide.{ℕ_discrete}
use mathlib.Core.List.{List}
use mathlib.Core.Logic.{◌≢◌, ◌⊎◌, inl, inr}
use lib.ListN.{length}
use borrow.Author.Tests.{eq-eqb, ne_eqb}
use borrow.Table.Steps.{cases}
use Rattle.perm.specs.Lists.{positions}
use Rattle.perm.specs.Permutation.{at, IsPermutation, exchange}
use Rattle.perm.specs.Array.{position}
use Rattle.perm.proofs.Tally.{length-range}
use Rattle.perm.proofs.Values.{injective, permutation, at-positions, same_at}
use Rattle.perm.proofs.Exchange.{length-exchange, exchange_same, at-exchange_left, at-exchange-right, at-exchange-other}
use Rattle.perm.proofs.ArrayOf.{position_at}
use Rattle.perm.proofs.Parity.{exchange-permutation}
use Rattle.tree.specs.Tree.{home, highest_to}
use Rattle.tree.specs.Search.{Settled}

-- so it is above every higher position
pub settled_higher : {n h : ℕ} {s : List ℕ} (k : ℕ) → h ≤ k → Settled n h s → Settled n k s
settled_higher k u w = record { count = w.count; own = λ i a b. w.own i (omega arith) b }

-- the identity is a permutation, with every position settled
pub identity_settled : (n : ℕ) → Settled n 0 (positions n)
identity_settled n = record { count = length-range 1 n; own = λ i a b. at-positions n i (omega arith) b }

pub identity_permutation : (n : ℕ) → IsPermutation n (positions n)
identity_permutation n =
    permutation
    (length-range 1 n)
    (λ i a b. (omega (arith, at-positions n i a b), omega (arith, at-positions n i a b)))
    (λ i j a b c d e. omega (arith, at-positions n i a b, at-positions n j c d))

-- an exchange done twice changes nothing
pub exchange-twice : (a b : ℕ) (s : List ℕ) → 1 ≤ a → a ≤ length s → 1 ≤ b → b ≤ length s → exchange a b (exchange a b s) ≡ s
exchange-twice a b s ha ka hb kb =
    let z = length-exchange a b s in
    same_at _ s (length-exchange a b (exchange a b s) ∙ z) (λ i h k. by-position i h (omega arith) (omega arith) (ℕ_discrete i a) (ℕ_discrete i b))
  where
    by-position : (i : ℕ) → 1 ≤ i → a ≤ length (exchange a b s) → b ≤ length (exchange a b s) → Dec (i ≡ a) → Dec (i ≡ b) → at (exchange a b (exchange a b s)) i ≡ at s i
    by-position i h la lb (yes e) d = rw e (at-exchange_left a b (exchange a b s) ha la hb lb ∙ at-exchange-right a b s ha ka hb kb)
    by-position i h la lb (no c) (yes e) = rw e (at-exchange-right a b (exchange a b s) ha la hb lb ∙ at-exchange_left a b s ha ka hb kb)
    by-position i h la lb (no c) (no d) = at-exchange-other a b (exchange a b s) ha la hb lb i h c d ∙ at-exchange-other a b s ha ka hb kb i h c d

-- s with the positions above h settled, where l, one of the positions 1 to h + 1, is exchanged with h + 1
module _ {n h : ℕ} {s : List ℕ} (w : Settled n h s) (room : h < n) (l : ℕ) (a : 1 ≤ l) (b : l ≤ suc h) where
  -- l gets the value h + 1
  pub child-low : at (exchange l (suc h) s) l ≡ suc h
  child-low = let z = w.count in at-exchange_left l (suc h) s a (omega arith) (omega arith) (omega arith) ∙ w.own (suc h) (omega arith) (omega arith)

  -- h + 1 gets the value of l
  pub child-top : at (exchange l (suc h) s) (suc h) ≡ at s l
  child-top = let z = w.count in at-exchange-right l (suc h) s a (omega arith) (omega arith) (omega arith)

  -- and the others keep theirs
  pub child-other : (i : ℕ) → 1 ≤ i → i ≢ l → i ≢ suc h → at (exchange l (suc h) s) i ≡ at s i
  child-other i c d e = let z = w.count in at-exchange-other l (suc h) s a (omega arith) (omega arith) (omega arith) i c d e

  -- the positions above h + 1 are settled
  pub child-settled : Settled n (suc h) (exchange l (suc h) s)
  child-settled = record {
    count = length-exchange l (suc h) s ∙ w.count;
    own = λ i c d. child-other i (omega arith) (λ e. omega arith) (λ e. omega arith) ∙ w.own i (omega arith) d;
  }

  -- the same exchange leads back
  pub child-back : exchange l (suc h) (exchange l (suc h) s) ≡ s
  child-back = let z = w.count in exchange-twice l (suc h) s a (omega arith) (omega arith) (omega arith)

  module _ (p : IsPermutation n s) where
    pub child-permutation : IsPermutation n (exchange l (suc h) s)
    child-permutation = by-position (ℕ_discrete l (suc h))
      where
        by-position : Dec (l ≡ suc h) → IsPermutation n (exchange l (suc h) s)
        by-position (yes e) = rw (e, exchange_same (suc h) s) p
        by-position (no d) = exchange-permutation p l (suc h) a (omega arith) (omega arith) (omega arith) d

    -- l is where the value h + 1 stands
    pub child-position : position (suc h) (exchange l (suc h) s) ≡ l
    child-position = rw child-low at (position_at child-permutation l a (omega arith))

    -- below h + 1 no position has the value h + 1
    pub child-away : l ≤ h → at s l ≢ suc h
    child-away c e =
        omega (arith, injective p l (suc h) a (omega arith) (omega arith) (omega arith) (e ∙ sym (w.own (suc h) (omega arith) (omega arith))))

-- the highest position away is at least 1
pub highest_least : (s : List ℕ) (m : ℕ) → 1 ≤ highest_to s m
unfolding highest_to
highest_least s zero = omega arith
highest_least s (suc m) = cases (home s (suc m)) (λ t. rw t (highest_least s m)) (λ t. rw t (omega arith))

-- and at most m, where m is 1 or more
pub highest_most : (s : List ℕ) (m : ℕ) → 1 ≤ m → highest_to s m ≤ m
unfolding highest_to
highest_most s zero u = absurd (omega arith)
highest_most s (suc zero) u = cases (home s 1) (λ t. rw t (omega arith)) (λ t. rw t (omega arith))
highest_most s (suc (suc m)) u =
    let rest = highest_most s (suc m) (omega arith) in
    cases (home s (suc (suc m))) (λ t. rw t (omega arith)) (λ t. rw t (omega arith))

-- above it every position has its own value
pub highest_settled : (s : List ℕ) (m i : ℕ) → highest_to s m < i → i ≤ m → at s i ≡ i
unfolding highest_to
highest_settled s zero i a b = absurd (omega arith)
highest_settled s (suc m) i a b = by_value (ℕ_discrete (at s (suc m)) (suc m)) (λ c d. highest_settled s m i c d)
  where
    by_value : Dec (at s (suc m) ≡ suc m) → (highest_to s m < i → i ≤ m → at s i ≡ i) → at s i ≡ i
    by_value (yes e) ih = by_last (ℕ_discrete i (suc m))
      where
        below : highest_to s m < i
        below = rw (eq-eqb (at s (suc m)) (suc m) e) at a

        by_last : Dec (i ≡ suc m) → at s i ≡ i
        by_last (yes f) = rw f e
        by_last (no d) = ih below (omega arith)
    by_value (no d) ih =
        let top : suc m < i = rw (ne_eqb (at s (suc m)) (suc m) d) at a in
        absurd (omega arith)

-- a position whose value is away, with every position above it settled, is the highest
pub highest-is : (s : List ℕ) (h m : ℕ) → 1 ≤ h → at s h ≢ h → ((i : ℕ) → h < i → i ≤ h + m → at s i ≡ i) → highest_to s (h + m) ≡ h
unfolding highest_to
highest-is s zero m a d set = absurd (omega arith)
highest-is s (suc h) zero a d set = let e : suc h + 0 ≡ suc h = omega arith in rw (e, ne_eqb (at s (suc h)) (suc h) d)
highest-is s (suc h) (suc m) a d set =
    let e : suc h + suc m ≡ suc (suc h + m) = omega arith in
    let top = set (suc h + suc m) (omega arith) (omega arith) in
    rw (e, eq-eqb (at s (suc (suc h + m))) (suc (suc h + m)) (rw e at top)) (highest-is s (suc h) m a d (λ i b c. set i b (omega arith)))

-- where every position is settled there is none, and it is 1
pub highest_none : (s : List ℕ) (m : ℕ) → ((i : ℕ) → 1 ≤ i → i ≤ m → at s i ≡ i) → highest_to s m ≡ 1
unfolding highest_to
highest_none s zero own = refl
highest_none s (suc m) own = rw (eq-eqb (at s (suc m)) (suc m) (own (suc m) (omega arith) (omega arith))) (highest_none s m (λ i a b. own i a (omega arith)))

-- and any other is away
pub highest-away : (s : List ℕ) (m : ℕ) → (highest_to s m ≡ 1) ⊎ (at s (highest_to s m) ≢ highest_to s m)
unfolding highest_to
highest-away s zero = inl refl
highest-away s (suc m) = by_value (ℕ_discrete (at s (suc m)) (suc m)) (highest-away s m)
  where
    by_value : Dec (at s (suc m) ≡ suc m) → (highest_to s m ≡ 1) ⊎ (at s (highest_to s m) ≢ highest_to s m) → (highest_to s (suc m) ≡ 1) ⊎ (at s (highest_to s (suc m)) ≢ highest_to s (suc m))
    by_value (yes e) ih = rw (eq-eqb (at s (suc m)) (suc m) e) ih
    by_value (no d) ih = rw (ne_eqb (at s (suc m)) (suc m) d) (inr d)
