-- The moves round cycle after cycle: each is possible, and the end is the permutation. What stands where, once the cycles with a least position up to m are gone round:
-- their values are where the permutation has them, and all others are at their own positions. Assumes nothing.
use mathlib.Core.Path.{◌≡◌, refl, sym, ap, ◌∙◌}
use mathlib.Core.Logic.{◌≢◌, ◌⊎◌, inl, inr}
use mathlib.Core.Bool.{true, false}
use Prim.Native.Nat.{ℕ, zero, suc, ◌+◌, ◌≤◌, ◌<◌}
use native.Mathlib.Omega.{arith}
use native.Mathlib.Decide.{ℕ_discrete}
use mathlib.Core.List.{List, ◌∷◌, ◌++◌}
use borrow.Table.Steps.{cases}
use lib.Dec.{T}
use lib.ListN.{length}
use lib.Seq.{ext_get_or}
use Rattle.perm.specs.Permutation.{at, IsPermutation}
use Rattle.perm.specs.Cycle.{follow, least}
use Rattle.perm.proofs.Tally.{refuted, length-range}
use Rattle.perm.proofs.Values.{at_suc}
use Rattle.perm.proofs.Cycles.{low_least, follow_add, follow-fixed, follow-range, met-before, met-from, has_least, least_le}
use Rattle.perm.specs.Pairs.{Pair}
use Rattle.moves.specs.State.{State, standing, placed, home, after, LeadsTo}
use Rattle.moves.specs.Written.{around, begins, moves_to, moves_of}
use Rattle.moves.specs.Round.{AtHome}
use Rattle.moves.proofs.Moving.{standing-home, Each, each_at, each_append, after-append}
use Rattle.moves.proofs.Long.{begins_least, begins-away, begins_holds, begins-not, moves_begun, moves_none}
use Rattle.moves.proofs.OneCycle.{Drawn, Returns, returns, settle, length_settle, settle_other, settle-met, around-drawn, after-around}

-- position i: its cycle is gone round, and it has its value; or the cycle lies above m, and i has its own
abbrev Stands : List ℕ → ℕ → State → ℕ → Type 0
Stands s m t i = ((u : ℕ) × (follow s u i ≤ m) × (standing t i ≡ at s i)) ⊎ (((u : ℕ) → m < follow s u i) × (standing t i ≡ i))

-- the cycles with a least position up to m are gone round
pub record Gone (s : List ℕ) (m : ℕ) (t : State) : Type 0 where
  pub size : length t ≡ suc (length s)
  pub empty : standing t 0 ≡ 0
  pub each : (i : ℕ) → 1 ≤ i → i ≤ length s → Stands s m t i

-- a cycle above m, by a position i of it: it is that of m + 1, which then is its least position, or it lies above m + 1
data Above (s : List ℕ) (m i : ℕ) : Type 0 where
  on : (u v : ℕ) → i ≡ follow s u (suc m) → follow s v i ≡ suc m → T (least s (suc m)) → Above s m i
  over : ((u : ℕ) → suc m < follow s u i) → Above s m i

module _ {s : List ℕ} (p : IsPermutation (length s) s) where
  -- none at first
  gone-none : Gone s 0 (home (length s))
  gone-none = record {
    size = ap suc (length-range 1 (length s));
    empty = refl;
    each = λ i h k. inr (λ u. (follow-range p u i h k).0, standing-home (length s) i h k);
  }

  -- all at last
  gone-all : {t : State} → Gone s (length s) t → t ≡ placed s
  unfolding follow
  gone-all {t} g = ext_get_or 0 t (placed s) g.size by-position
    where
      settled : (i : ℕ) → i < length s → Stands s (length s) t (suc i) → standing t (suc i) ≡ standing (placed s) (suc i)
      settled i l (inl (u, b, e)) = e ∙ at_suc s i
      settled i l (inr (low, e)) = absurd (omega (arith, low 0))

      by-position : (i : ℕ) → i < length t → standing t i ≡ standing (placed s) i
      by-position zero l = g.empty
      by-position (suc i) l = settled i (omega (arith, g.size)) (g.each (suc i) (omega arith) (omega (arith, g.size)))

  -- the cycle of i lies above m: it is that of m + 1, or it lies above m + 1
  above_more : (m i : ℕ) → 1 ≤ i → i ≤ length s → ((u : ℕ) → m < follow s u i) → Above s m i
  unfolding follow
  above_more m i h k low =
      let (v, b, l) = has_least p i h k in
      by-least v l (ℕ_discrete (follow s v i) (suc m))
    where
      by-least : (v : ℕ) → T (least s (follow s v i)) → Dec (follow s v i ≡ suc m) → Above s m i
      by-least v l (yes e) = let (u, f) = met-from p i h k v 0 in on u v (f ∙ ap (follow s u) e) e (rw e at l)
      by-least v l (no d) = over (λ u. omega (arith, low v, least_le p i v u h k l))

  module _ {m : ℕ} (k : suc m ≤ length s) {t : State} (g : Gone s m t) where
    -- no cycle of two or more begins at m + 1: nothing is to be done
    gone-skip : (T (least s (suc m)) → at s (suc m) ≡ suc m) → Gone s (suc m) t
    gone-skip fixed = record { size = g.size; empty = g.empty; each = λ i h b. each i h b (g.each i h b) }
      where
        by-above : (i : ℕ) → standing t i ≡ i → Above s m i → Stands s (suc m) t i
        by-above i e (on u v f q l) =
            let own : i ≡ suc m = f ∙ follow-fixed s (suc m) (fixed l) u in
            inl (v, omega arith, e ∙ own ∙ sym (fixed l) ∙ ap (at s) (sym own))
        by-above i e (over low) = inr (low, e)

        each : (i : ℕ) → 1 ≤ i → i ≤ length s → Stands s m t i → Stands s (suc m) t i
        each i h b (inl (u, c, e)) = inl (u, omega arith, e)
        each i h b (inr (low, e)) = by-above i e (above_more m i h b low)

    -- m + 1 is the least position of its cycle
    module _ (l : T (least s (suc m))) where
      low : (u : ℕ) → suc m ≤ follow s u (suc m)
      unfolding follow
      low u = least_le p (suc m) 0 u (omega arith) k l

      -- which is still at home
      pub at_home : AtHome s (suc m) t
      at_home = record { size = g.size; empty = g.empty; own = own }
        where
          by-stand : (u : ℕ) → Stands s m t (follow s u (suc m)) → standing t (follow s u (suc m)) ≡ follow s u (suc m)
          by-stand u (inl (v, b, e)) = absurd (omega (arith, low (v + u), follow_add s v u (suc m)))
          by-stand u (inr (a, e)) = e

          own : (u : ℕ) → standing t (follow s u (suc m)) ≡ follow s u (suc m)
          own u = let b = follow-range p u (suc m) (omega arith) k in by-stand u (g.each (follow s u (suc m)) b.0 b.1)

      -- the positions of the cycle have their values, and the others what they had
      module _ {c : ℕ} (r : Returns s (suc m) c) where
        settled_here : (u : ℕ) → standing (settle s (suc m) t c) (follow s u (suc m)) ≡ at s (follow s u (suc m))
        settled_here u =
            let (v, b, e) = met-before s (suc m) c r.values.some_steps r.values.back u in
            rw e (settle-met p (suc m) (omega arith) k t g.size c v b)

        settled-other : (i : ℕ) → ((u : ℕ) → follow s u (suc m) ≢ i) → standing (settle s (suc m) t c) i ≡ standing t i
        settled-other i d = settle_other s (suc m) t c i (λ u _. d u)

        -- neither a position of a cycle that was gone round is met, nor one of a cycle above m + 1
        before-apart : (i u : ℕ) → follow s u i ≤ m → (v : ℕ) → follow s v (suc m) ≢ i
        before-apart i u b v e = omega (arith, low (u + v), follow_add s u v (suc m), ap (follow s u) e)

        over-apart : (i : ℕ) → ((u : ℕ) → suc m < follow s u i) → (v : ℕ) → follow s v (suc m) ≢ i
        unfolding follow
        over-apart i above v e = let (u, f) = met-from p (suc m) (omega arith) k v 0 in omega (arith, above u, ap (follow s u) e)

        by-above : (i : ℕ) → standing t i ≡ i → Above s m i → Stands s (suc m) (settle s (suc m) t c) i
        by-above i e (on u v f q _) = inl (v, omega arith, rw f (settled_here u))
        by-above i e (over above) = inr (above, settled-other i (over-apart i above) ∙ e)

        each : (i : ℕ) → 1 ≤ i → i ≤ length s → Stands s m t i → Stands s (suc m) (settle s (suc m) t c) i
        each i h b (inl (u, d, e)) = inl (u, omega arith, settled-other i (before-apart i u d) ∙ e)
        each i h b (inr (above, e)) = by-above i e (above_more m i h b above)

        settled : Gone s (suc m) (settle s (suc m) t c)
        settled = record {
          size = length_settle s (suc m) t c ∙ g.size;
          empty = settled-other 0 (λ u e. omega (arith, low u)) ∙ g.empty;
          each = λ i h b. each i h b (g.each i h b);
        }

      -- and the cycle is gone round
      gone-round : begins s (suc m) ≡ true → Gone s (suc m) (after t (around s (suc m))) × Each (Drawn s) t (around s (suc m))
      gone-round b =
          let (c, r) = returns p (suc m) (omega arith) k in
          (rw (after-around p (suc m) (omega arith) k r at_home) (settled r), around-drawn p (suc m) (omega arith) k r at_home b)

  -- the state after the moves round the cycles with a least position up to m
  abbrev state : ℕ → State
  state m = after (home (length s)) (moves_to s m)

  abbrev Past : ℕ → Type 0
  Past m = Gone s m (state m) × Each (Drawn s) (home (length s)) (moves_to s m)

  past_more : {m : ℕ} → suc m ≤ length s → Past m → Past (suc m)
  past_more {m} k (g, v) = cases (begins s (suc m)) begun (λ b. rw (moves_none s m b) (gone-skip k g (begins-not s (suc m) b), v))
    where
      begun : begins s (suc m) ≡ true → Past (suc m)
      begun b =
          let (h, w) = gone-round k g (begins_least s (suc m) b) b in
          rw (moves_begun s m b, after-append (home (length s)) (moves_to s m) (around s (suc m)))
          (h, each_append (Drawn s) (home (length s)) (moves_to s m) (around s (suc m)) v w)

  -- cycle after cycle
  pub gone : (m : ℕ) → m ≤ length s → Past m
  unfolding moves_to after Each
  gone zero k = (gone-none, tt)
  gone (suc m) k = past_more k (gone m (omega arith))

  -- each written move is possible, and comes about as the document says
  pub written-drawn : (before rest : List Pair) (m : Pair) → moves_of s ≡ before ++ (m ∷ rest) → Drawn s (after (home (length s)) before) m
  written-drawn before rest m e =
      let v = (gone (length s) (omega arith)).1 in
      each_at (Drawn s) (home (length s)) before rest m (rw e at v)

  -- so they lead to s
  pub written-leads : LeadsTo s (moves_of s)
  written-leads =
      record { valid = λ before rest m e. (written-drawn before rest m e).0; end = gone-all (gone (length s) (omega arith)).0 }

  -- past m, a cycle of two or more begins at m + 1 just where the value there is not the one that s has
  module _ {m : ℕ} (k : suc m ≤ length s) {t : State} (g : Gone s m t) where
    pub begins-there : standing t (suc m) ≢ at s (suc m) → begins s (suc m) ≡ true
    begins-there d = by-stand (g.each (suc m) (omega arith) k)
      where
        by-stand : Stands s m t (suc m) → begins s (suc m) ≡ true
        by-stand (inl (u, b, e)) = absurd (d e)
        by-stand (inr (above, e)) =
            begins_holds s (suc m) (low_least s (suc m) above) (λ f. d (e ∙ sym f))

    pub begins-not-there : standing t (suc m) ≡ at s (suc m) → begins s (suc m) ≡ false
    begins-not-there f = refuted (begins s (suc m)) (λ b. by-stand b (g.each (suc m) (omega arith) k))
      where
        by-stand : begins s (suc m) ≡ true → Stands s m t (suc m) → ⊥
        by-stand b (inl (u, c, e)) = omega (arith, low k g (begins_least s (suc m) b) u)
        by-stand b (inr (above, e)) = begins-away s (suc m) b (sym f ∙ e)
