-- S(n,k) has c(n,k) rows: every permutation of n with exactly k cycles exactly once, and nothing else. Assumes nothing.
use mathlib.Core.Path.{◌≡◌, refl, sym, ap, ◌∙◌}
use Prim.Native.Nat.{ℕ, zero, suc, ◌≤◌, ◌<◌}
use native.Mathlib.Omega.{arith}
use mathlib.Core.Bool.{Bool, true}
use mathlib.Core.List.{List, [], ◌∷◌}
use lib.ListN.{length}
use Rattle.stirling.specs.Count.{c}
use Rattle.perm.specs.Lists.{tally, range, same}
use Rattle.perm.specs.Permutation.{IsPermutation, extend, insert}
use Rattle.perm.specs.Cycle.{cycles}
use Rattle.gray.specs.Order.{Row, S}
use Rattle.gray.specs.Listing.{row_at, HasCycles, Complete}
use Rattle.perm.proofs.Tally.{tally-none, tally-all, some-passes, one_passes, two-pass}
use Rattle.perm.proofs.Split.{Split, extended, inserted, split, extend_permutation, insert_permutation, extend_one, insert_one, extend-insert}
use Rattle.perm.proofs.Cycles.{cycles-extend, cycles-insert}
use Rattle.gray.proofs.Joined.{S-zero}
use Rattle.gray.proofs.Sum.{sum_equal, sum-zero, sum_one, sum-part}
use Rattle.gray.proofs.Counting.{tally_empty, tally-S}
use Rattle.perm.proofs.Same.{same_equal, same_true, same_false, same_iff}

tally-true : (L : List Row) → tally (λ γ. true) L ≡ length L
tally-true L = tally-all (λ γ. true) [] L (λ r b. refl)

-- S(n,k) has c(n,k) rows
pub length-S : (n k : ℕ) → length (S n k) ≡ c n k
unfolding S c
length-S zero zero = refl
length-S zero (suc k) = refl
length-S (suc n) zero = rw (S-zero (suc n) (omega arith))
length-S (suc n) (suc k) = simp (tally-true, sum_equal, length-S n (suc k), length-S n k) at (tally-S (λ γ. true) n k)

-- where a row of S(n+1,k+1) comes from
pub data Made (n k : ℕ) (s : Row) : Type 0 where
  by-extend : (place : ℕ) → place < length (S n k) → s ≡ extend (suc n) (row_at (S n k) place) → Made n k s
  by-insert : (i place : ℕ) → 1 ≤ i → i ≤ n → place < length (S n (suc k)) → s ≡ insert (suc n) i (row_at (S n (suc k)) place) → Made n k s

made : (n k : ℕ) (s : Row) → 1 ≤ tally (same s) (S (suc n) (suc k)) → Made n k s
made n k s h = by_value (tally (λ γ. same s (extend (suc n) γ)) (S n k)) refl
  where
    by_value : (v : ℕ) → tally (λ γ. same s (extend (suc n) γ)) (S n k) ≡ v → Made n k s
    by_value zero e =
        let (i, l, u, g) = sum-part (λ i. tally (λ γ. same s (insert (suc n) i γ)) (S n (suc k))) n (omega (arith, tally-S (same s) n k)) in
        let (place, b, t) = some-passes (λ γ. same s (insert (suc n) i γ)) [] (S n (suc k)) g in
        by-insert i place l u b (same_true s _ t)
    by_value (suc v) e =
        let (place, b, t) = some-passes (λ γ. same s (extend (suc n) γ)) [] (S n k) (omega arith) in
        by-extend place b (same_true s _ t)

-- each row comes from a shorter one, by E or by I
pub row_made : (n k place : ℕ) → place < length (S (suc n) (suc k)) → Made n k (row_at (S (suc n) (suc k)) place)
row_made n k place h =
    made n k (row_at (S (suc n) (suc k)) place) (one_passes (same _) [] (S (suc n) (suc k)) place h (same_equal _ _ refl))

-- induction over the rows of all lists: what holds of the empty row and is kept by E and I holds of each row of S(n,k)
pub every : (P : ℕ → ℕ → Row → Type 0)
    → P 0 0 []
    → ((n k : ℕ) (γ : Row) → P n k γ → P (suc n) (suc k) (extend (suc n) γ))
    → ((n k i : ℕ) (γ : Row) → 1 ≤ i → i ≤ n → P n k γ → P (suc n) k (insert (suc n) i γ))
    → (n k place : ℕ)
    → place < length (S n k)
    → P n k (row_at (S n k) place)
unfolding S
every P nil ext ins zero zero zero h = nil
every P nil ext ins zero zero (suc place) h = absurd (omega arith)
every P nil ext ins zero (suc k) place h = absurd (omega arith)
every P nil ext ins (suc n) zero place h = absurd (omega (arith, ap length (S-zero (suc n) (omega arith))))
every P nil ext ins (suc n) (suc k) place h = by-origin (row_made n k place h) (every P nil ext ins n (suc k)) (every P nil ext ins n k)
  where
    by-origin : {s : Row}
        → Made n k s
        → ((q : ℕ) → q < length (S n (suc k)) → P n (suc k) (row_at (S n (suc k)) q))
        → ((q : ℕ) → q < length (S n k) → P n k (row_at (S n k) q))
        → P (suc n) (suc k) s
    by-origin (by-extend q b m) hi he = rw m (ext n k _ (he q b))
    by-origin (by-insert i q l u b m) hi he = rw m (ins n (suc k) i _ l u (hi q b))

no_cycles : cycles [] ≡ 0
unfolding cycles range tally
no_cycles = refl

-- each row is a permutation of n with k cycles
sound : (n k place : ℕ) → place < length (S n k) → HasCycles n k (row_at (S n k) place)
sound = every HasCycles nothing by-extending by-inserting
  where
    nothing : HasCycles 0 0 []
    nothing = record { permutation = record { size = refl; once = λ v l u. absurd (omega arith) }; count = no_cycles }

    by-extending : (n k : ℕ) (γ : Row) → HasCycles n k γ → HasCycles (suc n) (suc k) (extend (suc n) γ)
    by-extending n k γ h =
        record { permutation = extend_permutation h.permutation; count = cycles-extend h.permutation ∙ ap suc h.count }

    by-inserting : (n k i : ℕ) (γ : Row) → 1 ≤ i → i ≤ n → HasCycles n k γ → HasCycles (suc n) k (insert (suc n) i γ)
    by-inserting n k i γ l u h =
        record { permutation = insert_permutation i l u h.permutation; count = cycles-insert i l u h.permutation ∙ h.count }

-- tests that agree at each place count alike
pub tally_agree : (p q : Row → Bool) (L : List Row) → ((r : ℕ) → r < length L → p (row_at L r) ≡ q (row_at L r)) → tally p L ≡ tally q L
unfolding tally
tally_agree p q [] h = refl
tally_agree p q (γ ∷ L) h = rw (h 0 (omega arith), tally_agree p q L (λ r b. h (suc r) (omega arith)))

-- what equality to E(γ) or to I(i,γ) counts among the extensions and the insertions of S(m,k), for a permutation γ of m
module _ (m k : ℕ) {γ : Row} (p : IsPermutation m γ) where
  extend-extends : tally (λ δ. same (extend (suc m) γ) (extend (suc m) δ)) (S m k) ≡ tally (same γ) (S m k)
  extend-extends =
      tally_agree _ (same γ) (S m k) (λ r b. same_iff _ _ γ _ (extend_one (suc m) γ _) (ap (extend (suc m))))

  extend-inserts : (j : ℕ) → 1 ≤ j → j ≤ m → tally (λ δ. same (extend (suc m) γ) (insert (suc m) j δ)) (S m k) ≡ 0
  extend-inserts j l u =
      tally-none _ [] (S m k) (λ r b. same_false _ _ (extend-insert j l u p (sound m k r b).permutation))

  module _ (i : ℕ) (l : 1 ≤ i) (u : i ≤ m) where
    insert-extends : tally (λ δ. same (insert (suc m) i γ) (extend (suc m) δ)) (S m k) ≡ 0
    insert-extends =
        tally-none _ [] (S m k) (λ r b. same_false _ _ (λ e. extend-insert i l u (sound m k r b).permutation p (sym e)))

    insert-inserts : tally (λ δ. same (insert (suc m) i γ) (insert (suc m) i δ)) (S m k) ≡ tally (same γ) (S m k)
    insert-inserts =
        tally_agree _ (same γ) (S m k)
        (λ r b. same_iff _ _ γ _ (λ e. (insert_one i i l u l u p (sound m k r b).permutation e).1) (ap (insert (suc m) i)))

    insert-others : (j : ℕ) → 1 ≤ j → j ≤ m → (i ≡ j → ⊥) → tally (λ δ. same (insert (suc m) i γ) (insert (suc m) j δ)) (S m k) ≡ 0
    insert-others j lj uj d =
        tally-none _ [] (S m k) (λ r b. same_false _ _ (λ e. d (insert_one i j l u lj uj p (sound m k r b).permutation e).0))

-- once at m + 1 from once at m: a permutation comes from one shorter one, by E or by I at one position
once-step : (m : ℕ)
    → ((k : ℕ) (γ : Row) → HasCycles m k γ → tally (same γ) (S m k) ≡ 1)
    → (k : ℕ) {s : Row}
    → Split m s
    → cycles s ≡ k
    → tally (same s) (S (suc m) k) ≡ 1
once-step m shorter zero (extended γ p) e = absurd (omega (arith, cycles-extend p))
once-step m shorter (suc k) (extended γ p) e =
    let h : HasCycles m k γ = record { permutation = p; count = omega (arith, cycles-extend p) } in
    rw (tally-S, sum-zero _ m (extend-inserts m (suc k) p), extend-extends m k p, shorter k γ h)
once-step m shorter zero (inserted i γ l u p) e =
    let h : HasCycles m 0 γ = record { permutation = p; count = omega (arith, cycles-insert i l u p) } in
    absurd (omega (arith, shorter 0 γ h, tally_empty (same γ) (S-zero m (omega arith))))
once-step m shorter (suc k) (inserted i γ l u p) e =
    let h : HasCycles m (suc k) γ = record { permutation = p; count = omega (arith, cycles-insert i l u p) } in
    rw
    (tally-S, sum_one _ m i l u (insert-others m (suc k) p i l u), insert-inserts m (suc k) p i l u, insert-extends m k p i l u, shorter (suc k) γ h)

-- counted by the test of equality, each permutation of n with k cycles occurs once
pub once : (n k : ℕ) (s : Row) → HasCycles n k s → tally (same s) (S n k) ≡ 1
unfolding S tally same
once zero zero [] h = refl
once zero (suc k) [] h = absurd (omega (arith, no_cycles, h.count))
once zero zero (v ∷ s) h = absurd (omega (arith, h.permutation.size))
once zero (suc k) (v ∷ s) h = absurd (omega (arith, h.permutation.size))
once (suc n) k s h = once-step n (once n) k (split h.permutation) h.count

-- and any other row not at all
pub absent : (n k : ℕ) (s : Row) → (HasCycles n k s → ⊥) → tally (same s) (S n k) ≡ 0
absent n k s h = tally-none (same s) [] (S n k) (λ place b. same_false s _ (λ e. h (rw e (sound n k place b))))

-- so no row stands at two places
twice : (n k r q : ℕ) → r < q → q < length (S n k) → row_at (S n k) r ≡ row_at (S n k) q → ⊥
twice n k r q l h e =
    let s : Row = row_at (S n k) r in
    omega
    (arith, once n k s (sound n k r (omega arith)), two-pass (same s) [] (S n k) r q l h (same_equal s _ refl) (same_equal s _ e))

-- every permutation of n with k cycles exactly once, and nothing else
pub complete : (n k : ℕ) → Complete n k (S n k)
complete n k =
    record {
      sound = sound n k;
      place = λ s h.
          let (r, b, e) = some-passes (same s) [] (S n k) (omega (arith, once n k s h)) in
          (r, b, sym (same_true s _ e));
      only = λ r q hr hq e.
          let not-below : ¬ (r < q) = λ l. twice n k r q l hq e in
          let not-above : ¬ (q < r) = λ l. twice n k q r l hr (sym e) in
          omega arith;
    }
