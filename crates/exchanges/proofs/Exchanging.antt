-- What pairs do, one after another: those of the array of the permutation that carries s to t turn s into t, they are as many as n less its cycles, and no list of
-- pairs that turns s into t has fewer. Assumes nothing.
use mathlib.Core.Path.{◌≡◌, refl, sym, ap, ◌∙◌, subst}
use Prim.Native.Nat.{ℕ, zero, suc, ◌+◌, ◌≤◌}
use native.Mathlib.Omega.{arith}
use native.Mathlib.Decide.{ℕ_discrete}
use mathlib.Core.List.{List, [], ◌∷◌, ◌++◌}
use lib.ListN.{length}
use Rattle.perm.specs.Lists.{tally, range, positions}
use Rattle.perm.specs.Permutation.{IsPermutation, at, exchange, extend}
use Rattle.perm.specs.Cycle.{cycles}
use Rattle.perm.specs.Array.{IsArray, partial, product, array_of}
use Rattle.perm.proofs.Tally.{range_snoc, length-range}
use Rattle.perm.proofs.Exchange.{exchange_same, length-exchange}
use Rattle.perm.proofs.Split.{extend_permutation}
use Rattle.perm.proofs.Cycles.{cycles-extend}
use Rattle.perm.proofs.Parity.{exchange-permutation, exchange-near}
use Rattle.perm.proofs.Arrays.{cycles-product}
use Rattle.perm.proofs.ArrayOf.{array_of_lem}
use Rattle.exchanges.specs.Carrying.{multiply, Carries, carrying}
use Rattle.perm.specs.Pairs.{Pair}
use Rattle.exchanges.specs.Pairs.{pair_at, pairs_to, pairs_of, exchange_all, Inside}
use Rattle.exchanges.specs.Between.{pairs_between}
use Rattle.exchanges.proofs.Pairs.{by_entry, pairs_number}
use Rattle.exchanges.proofs.Carrying.{multiply-exchange, multiply_identity, carries, one-carries}

-- pairs after other pairs
all_append : (x y : List Pair) (s : List ℕ) → exchange_all (x ++ y) s ≡ exchange_all y (exchange_all x s)
unfolding exchange_all
all_append [] y s = refl
all_append (a ∷ x) y s = all_append x y (exchange a.0 a.1 s)

-- a fixed entry exchanges nothing
all_at : (p : List ℕ) (i : ℕ) (s : List ℕ) → exchange_all (pair_at p i) s ≡ exchange (at p i) i s
unfolding exchange_all
all_at p i s = by_entry (λ x. exchange_all x s ≡ exchange (at p i) i s) p i (λ e. rw e (sym (exchange_same i s))) (λ d. refl)

-- the pairs of an array, from the identity on, make its product
all-pairs : (n : ℕ) (p : List ℕ) (m : ℕ) → exchange_all (pairs_to p m) (positions n) ≡ partial n p m
unfolding exchange_all pairs_to partial
all-pairs n p zero = refl
all-pairs n p (suc m) =
    all_append (pairs_to p m) (pair_at p (suc m)) (positions n)
    ∙ all_at p (suc m) (exchange_all (pairs_to p m) (positions n))
    ∙ ap (exchange (at p (suc m)) (suc m)) (all-pairs n p m)

-- pairs of positions after other such pairs
inside_append : (n : ℕ) (x y : List Pair) → Inside n x → Inside n y → Inside n (x ++ y)
unfolding Inside
inside_append n [] y f g = g
inside_append n (a ∷ x) y f g = (f.0, f.1, f.2, f.3, inside_append n x y f.4 g)

-- the pairs of an array of n name positions 1 to n
inside_pairs : {n : ℕ} {p : List ℕ} → IsArray n p → (m : ℕ) → m ≤ n → Inside n (pairs_to p m)
unfolding Inside pairs_to
inside_pairs a zero h = tt
inside_pairs {n} {p} a (suc m) h =
    let r = a.bound (suc m) (omega arith) h in
    inside_append
    n
    (pairs_to p m)
    (pair_at p (suc m))
    (inside_pairs a m (omega arith))
    (by_entry (Inside n) p (suc m) (λ e. tt) (λ d. (r.0, omega (arith, r.1), omega arith, h, tt)))

-- s·u after some pairs is s·w, where w is u after them
all-multiply : {n : ℕ} (x : List Pair) (s u : List ℕ) → length u ≡ n → Inside n x → exchange_all x (multiply s u) ≡ multiply s (exchange_all x u)
unfolding exchange_all Inside
all-multiply [] s u e i = refl
all-multiply (a ∷ x) s u e i =
    ap (exchange_all x) (multiply-exchange s u a.0 a.1 i.0 (omega (arith, e, i.1)) i.2 (omega (arith, e, i.3)))
    ∙ all-multiply x s (exchange a.0 a.1 u) (length-exchange a.0 a.1 u ∙ e) i.4

-- of a permutation of n, one exchange makes a permutation that has at most one cycle less
near : {n : ℕ} {s : List ℕ} → IsPermutation n s → (a b : ℕ) → 1 ≤ a → a ≤ n → 1 ≤ b → b ≤ n
    → IsPermutation n (exchange a b s) × (cycles s ≤ suc (cycles (exchange a b s)))
near {n} {s} p a b ha ka hb kb = by_place (ℕ_discrete a b)
  where
    by_place : Dec (a ≡ b) → IsPermutation n (exchange a b s) × (cycles s ≤ suc (cycles (exchange a b s)))
    by_place (yes e) = rw (e, exchange_same b s) (p, omega arith)
    by_place (no d) = (exchange-permutation p a b ha ka hb kb d, (exchange-near p a b ha ka hb kb d).0)

-- and some exchanges one that has at most as many cycles less
all_near : {n : ℕ} (x : List Pair) {s : List ℕ} → IsPermutation n s → Inside n x
    → IsPermutation n (exchange_all x s) × (cycles s ≤ length x + cycles (exchange_all x s))
unfolding exchange_all Inside
all_near [] p i = (p, omega arith)
all_near (a ∷ x) p i =
    let d = near p a.0 a.1 i.0 i.1 i.2 i.3 in
    let r = all_near x d.0 i.4 in
    (r.0, omega (arith, d.1, r.1))

-- the identity is a permutation of n with n cycles
identity_zero : IsPermutation 0 (positions 0) × (cycles (positions 0) ≡ 0)
unfolding range cycles tally
identity_zero = (record { size = refl; once = λ v h k. absurd (omega arith) }, refl)

identity : (n : ℕ) → IsPermutation n (positions n) × (cycles (positions n) ≡ n)
unfolding extend
identity zero = identity_zero
identity (suc n) =
    let r = identity n in
    let e : positions (suc n) ≡ extend (suc n) (positions n) = range_snoc 1 n ∙ ap (λ (v : ℕ). positions n ++ (v ∷ [])) (omega arith) in
    rw e (extend_permutation r.0, cycles-extend r.0 ∙ ap suc r.1)

-- pairs of positions 1 to n that lead from the identity to u, and are n less the cycles of u
record Leads (n : ℕ) (u : List ℕ) (x : List Pair) : Type 0 where
  inside : Inside n x
  effect : exchange_all x (positions n) ≡ u
  number : length x + cycles u ≡ n

-- such are the pairs of the array of u
pairs-product : {n : ℕ} {r : List ℕ} → IsArray n r → exchange_all (pairs_of r) (positions n) ≡ product r
unfolding product
pairs-product {n} {r} a = let e = a.size in rw e (all-pairs n r n)

leads-product : {n : ℕ} {r : List ℕ} → IsArray n r → Leads n (product r) (pairs_of r)
leads-product {n} {r} a =
    let e = a.size in
    record { inside = inside_pairs a (length r) (omega arith); effect = pairs-product a; number = rw (e, cycles-product a) (pairs_number r n) }

leads : {n : ℕ} {u : List ℕ} → IsPermutation n u → Leads n u (pairs_of (array_of n u))
leads {n} {u} p =
    let o = array_of_lem p in
    subst (λ (w : List ℕ). Leads n w (pairs_of (array_of n u))) o.equal (leads-product (subst (λ (m : ℕ). IsArray m (array_of n u)) p.size o.array))

-- two permutations of n
module _ {n : ℕ} {s t : List ℕ} (p : IsPermutation n s) (q : IsPermutation n t) where
  -- the pairs from s to t lead from the identity to the permutation that carries s to t
  leads-carrying : Leads n (carrying s t) (pairs_between s t)
  leads-carrying = rw p.size (leads (carries p q).permutation)

  -- so they name positions 1 to n
  pub inside : Inside n (pairs_between s t)
  inside = leads-carrying.inside

  -- and turn s into t
  pub turned : exchange_all (pairs_between s t) s ≡ t
  turned =
      let l = leads-carrying in
      ap (exchange_all (pairs_between s t)) (sym (multiply_identity s p.size))
      ∙ all-multiply (pairs_between s t) s (positions n) (length-range 1 n) l.inside
      ∙ ap (multiply s) l.effect
      ∙ (carries p q).product

  -- they are n less the cycles of the permutation that carries s to t
  pub counted : {u : List ℕ} → Carries n s t u → length (pairs_between s t) + cycles u ≡ n
  counted {u} c = subst (λ (w : List ℕ). length (pairs_between s t) + cycles w ≡ n) (one-carries p q (carries p q) c) leads-carrying.number

  -- pairs of positions that turn s into t lead from the identity to the permutation that carries s to t
  turns : (x : List Pair) → Inside n x → exchange_all x s ≡ t → Carries n s t (exchange_all x (positions n))
  turns x i e = record {
    permutation = (all_near x (identity n).0 i).0;
    product =
        sym (all-multiply x s (positions n) (length-range 1 n) i)
        ∙ ap (exchange_all x) (multiply_identity s p.size)
        ∙ e;
  }

  -- and no such pairs are fewer
  pub fewest : (x : List Pair) → Inside n x → exchange_all x s ≡ t → length (pairs_between s t) ≤ length x
  fewest x i e = omega (arith, counted (turns x i e), (all_near x (identity n).0 i).1, (identity n).1)
