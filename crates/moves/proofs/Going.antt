-- Going round one cycle: the moves to its position x are written, and the positions before x have their values. Assumes nothing.
use mathlib.Core.Path.{◌≡◌, refl, sym, ap, ◌∙◌}
use mathlib.Core.Logic.{◌≢◌}
use Prim.Native.Nat.{ℕ, zero, suc, ◌+◌, ◌*◌, ◌-◌, ◌≤◌, ◌<◌}
use native.Mathlib.Omega.{arith}
use mathlib.Core.List.{List, [], ◌∷◌, ◌++◌, append_assoc}
use lib.ListN.{length, set, length-append, length-set}
use lib.Seq.{drop-set-lt}
use borrow.Author.Tests.{eq-eqb, ne_eqb}
use Rattle.perm.specs.Permutation.{at, IsPermutation}
use Rattle.perm.specs.Cycle.{follow}
use Rattle.perm.specs.Pairs.{Pair, bytes_of, front}
use Rattle.perm.proofs.Pairs.{length_front, front-step}
use Rattle.perm.proofs.Cycles.{follow-range}
use Rattle.moves.specs.State.{State, after}
use Rattle.moves.specs.Written.{filling, around}
use Rattle.moves.specs.Round.{AtHome}
use Rattle.moves.proofs.OneCycle.{Returns, returns, settle, length_settle, after-around, length-around}

-- the first move, and j more
unfoldable pub filled : List ℕ → ℕ → ℕ → List Pair
filled s a zero = (a, 0) ∷ []
filled s a (suc j) = filled s a j ++ ((follow s (suc j) a, follow s j a) ∷ [])

length_filled : (s : List ℕ) (a j : ℕ) → length (filled s a j) ≡ suc j
unfolding filled
length_filled s a zero = refl
length_filled s a (suc j) = omega (arith, length-append (filled s a j) ((follow s (suc j) a, follow s j a) ∷ []), length_filled s a j)

module _ (s : List ℕ) (a : ℕ) {c : ℕ} (r : Returns s a c) where
  -- a move that is not the last
  fill-next : (most j : ℕ) → suc j < c → filling s a (suc most) (follow s j a) ≡ (follow s (suc j) a, follow s j a) ∷ filling s a most (follow s (suc j) a)
  unfolding filling follow
  fill-next most j l = rw (ne_eqb (at s (follow s j a)) a (r.values.first (suc j) (omega arith) l))

  -- the last
  fill-last : (most j : ℕ) → at s (follow s j a) ≡ a → filling s a (suc most) (follow s j a) ≡ (0, follow s j a) ∷ []
  unfolding filling
  fill-last most j e = rw (eq-eqb (at s (follow s j a)) a e)

  -- with j moves after the first, the rest begins at the next position
  filled-rest : (j : ℕ) → j < c → around s a ≡ filled s a j ++ filling s a (length s - j) (follow s j a)
  unfolding filled follow
  filled-rest zero l = let e : length s - 0 ≡ length s = omega arith in rw e
  filled-rest (suc j) l =
      let e : length s - j ≡ suc (length s - suc j) = omega (arith, r.bound) in
      let m = length s - suc j in
      filled-rest j (omega arith)
      ∙ ap (λ (ms : List Pair). filled s a j ++ ms) (ap (λ (most : ℕ). filling s a most (follow s j a)) e ∙ fill-next m j l)
      ∙ sym (append_assoc (filled s a j) ((follow s (suc j) a, follow s j a) ∷ []) (filling s a m (follow s (suc j) a)))

  -- and where that is the last, one move is left
  filled-last : (j : ℕ) → j < c → at s (follow s j a) ≡ a → around s a ≡ filled s a j ++ ((0, follow s j a) ∷ [])
  filled-last j l f =
      let e : length s - j ≡ suc (length s - suc j) = omega (arith, r.bound) in
      filled-rest j l
      ∙ ap (λ (ms : List Pair). filled s a j ++ ms) (ap (λ (most : ℕ). filling s a most (follow s j a)) e ∙ fill-last (length s - suc j) j f)

  -- which then is the last step
  last_step : (j : ℕ) → j < c → at s (follow s j a) ≡ a → suc j ≡ c
  unfolding follow
  last_step j l f = let no_more : suc j < c → ⊥ = λ b. r.values.first (suc j) (omega arith) b f in omega arith

  not_last : (j : ℕ) → j < c → at s (follow s j a) ≢ a → suc j < c
  unfolding follow
  not_last j l d = let more : suc j ≡ c → ⊥ = λ e. d (ap (λ (x : ℕ). follow s x a) e ∙ r.values.back) in omega arith

-- a buffer with the first move in front; it makes no difference to what is written over it
abbrev pub begun : List ℕ → ℕ → List ℕ
begun before a = set (set before 0 a) 1 0

front-begun : (m : Pair) (ms : List Pair) (before : List ℕ) (a : ℕ) → front (m ∷ ms) (begun before a) ≡ front (m ∷ ms) before
front-begun m ms before a =
    let n = 2 * suc (length ms) in
    ap (λ (l : List ℕ). bytes_of (m ∷ ms) ++ l) (drop-set-lt n (set before 0 a) 1 0 (omega arith) ∙ drop-set-lt n before 0 a (omega arith))

-- the loop that goes round the cycle of a from the state t, and writes to what was `before`, has come to x
pub record Going (s : List ℕ) (a : ℕ) (t : State) (before state out : List ℕ) (size x : ℕ) : Type 0 where
  pub c : ℕ
  pub steps : ℕ
  pub returned : Returns s a c
  pub less : steps < c
  pub here : x ≡ follow s steps a
  pub bytes : size ≡ 2 * suc steps
  pub written : out ≡ front (filled s a steps) before
  pub settled : state ≡ settle s a t steps

module _ {s : List ℕ} (p : IsPermutation (length s) s) {a : ℕ} (h : 1 ≤ a) (k : a ≤ length s) {t : State} (w : AtHome s a t) (before : List ℕ)
    (room : 2 * length (around s a) ≤ length before) where
  -- there are two moves at least
  pub first-room : 4 ≤ length before
  first-room = let (c, r) = returns p a h k in omega (arith, length-around p a h k r w, r.values.some_steps)

  -- it begins at a, with the first move written
  pub going-begun : Going s a t (begun before a) t (begun before a) 2 a
  unfolding follow filled settle bytes_of
  going-begun =
      let (c, r) = returns p a h k in
      record {
        c = c;
        steps = 0;
        returned = r;
        less = r.values.some_steps;
        here = refl;
        bytes = refl;
        written = front-step [] before a 0 (omega (arith, first-room)) ∙ sym (front-begun (a, 0) [] before a);
        settled = refl;
      }

  module _ {state out : List ℕ} {size x : ℕ} (g : Going s a t (begun before a) state out size x) where
    -- x is a position, and there is room for one move more
    pub going-inside : (1 ≤ x) × (x ≤ length s)
    going-inside = rw g.here (follow-range p g.steps a h k)

    pub going-room : (size + 2 ≤ length before) × (size ≤ 2 * length s)
    going-room = let r = g.returned in (omega (arith, g.bytes, g.less, length-around p a h k r w), omega (arith, g.bytes, g.less, r.bound))

    filled-room : 2 * suc (length (filled s a g.steps)) ≤ length (begun before a)
    filled-room = simp length-set (omega (arith, going-room.0, g.bytes, length_filled s a g.steps))

    pub going-sizes : (length out ≡ length before) × (length state ≡ suc (length s))
    going-sizes = (
      ap length g.written ∙ length_front (filled s a g.steps) (begun before a) (omega (arith, filled-room)) ∙ simp length-set,
      ap length g.settled ∙ length_settle s a t g.steps ∙ w.size,
    )

    -- two bytes more
    more : (u v : ℕ) → set (set out size u) (size + 1) v ≡ front (filled s a g.steps ++ ((u, v) ∷ [])) (begun before a)
    more u v =
        let e : size ≡ 2 * length (filled s a g.steps) = omega (arith, g.bytes, length_filled s a g.steps) in
        rw (g.written, e) (front-step (filled s a g.steps) (begun before a) u v filled-room)

    -- it goes on to the next position
    pub going_on : at s x ≢ a → Going s a t (begun before a) (set state x (at s x)) (set (set out size (at s x)) (size + 1) x) (size + 2) (at s x)
    unfolding follow filled settle
    going_on d =
        record {
          c = g.c;
          steps = suc g.steps;
          returned = g.returned;
          less = not_last s a g.returned g.steps g.less (rw g.here at d);
          here = ap (at s) g.here;
          bytes = omega (arith, g.bytes);
          written = more (at s x) x ∙ ap (λ (y : ℕ). front (filled s a g.steps ++ ((at s y, y) ∷ [])) (begun before a)) g.here;
          settled = rw (g.settled, g.here);
        }

    -- or ends, with the last move
    pub going-ended : at s x ≡ a
        → (size + 2 ≡ 2 * length (around s a)) × (set (set out size 0) (size + 1) x ≡ front (around s a) before) × (set state x a ≡ after t (around s a))
    unfolding settle
    going-ended f =
        let r = g.returned in
        let here : at s (follow s g.steps a) ≡ a = rw g.here at f in
        let last : suc g.steps ≡ g.c = last_step s a r g.steps g.less here in (
          omega (arith, g.bytes, length-around p a h k r w),
          more 0 x
              ∙ ap (λ (y : ℕ). front (filled s a g.steps ++ ((0, y) ∷ [])) (begun before a)) g.here
              ∙ ap (λ (ms : List Pair). front ms (begun before a)) (sym (filled-last s a r g.steps g.less here))
              ∙ front-begun (a, 0) (filling s a (length s) a) before a,
          rw (after-around p a h k r w, ← last, g.settled, g.here, here) refl,
        )
