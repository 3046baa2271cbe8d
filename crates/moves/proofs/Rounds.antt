-- Going round cycle after cycle: the moves round the cycles with a least position up to m are written, and made. Assumes nothing.
use mathlib.Core.Path.{◌≡◌, refl, sym, ap, ◌∙◌}
use mathlib.Core.Logic.{◌≢◌}
use mathlib.Core.Bool.{true, cond}
use Prim.Native.Nat.{ℕ, zero, suc, ◌+◌, ◌*◌, ◌-◌, ◌≤◌, ◌<◌}
use native.Mathlib.Nat.{add-zero, add-suc, le_refl}
use native.Mathlib.Omega.{arith}
use mathlib.Core.List.{List, [], ◌++◌, append-nil}
use lib.ListN.{length, get_or, take, drop, length-append, length-drop, drop_of_length-le}
use lib.Seq.{take_all}
use Rattle.perm.specs.Permutation.{at, IsPermutation}
use Rattle.perm.specs.Pairs.{Pair, bytes_of, front}
use Rattle.perm.proofs.Values.{at_suc}
use Rattle.perm.proofs.Pairs.{length_front, front-append}
use Rattle.moves.specs.State.{standing, home, after}
use Rattle.moves.specs.Written.{around, begins, moves_to, moves_of}
use Rattle.moves.specs.Round.{AtHome}
use Rattle.moves.proofs.Moving.{after-append}
use Rattle.moves.proofs.Long.{begins_least, moves_begun, moves_none}
use Rattle.moves.proofs.Gone.{gone, begins-there, begins-not-there, at_home}

-- no fewer with more positions
moves_more : (s : List ℕ) (m d : ℕ) → length (moves_to s m) ≤ length (moves_to s (m + d))
unfolding moves_to
moves_more s m zero = rw (add-zero m) (le_refl (length (moves_to s m)))
moves_more s m (suc d) =
    rw (add-suc m d)
    (omega (arith, moves_more s m d, length-append (moves_to s (m + d)) (cond (begins s (suc (m + d))) (around s (suc (m + d))) [])))

-- the loop that goes round the cycles, and writes to what was `before`, is past position m
pub record Rounds (s before state out : List ℕ) (size m : ℕ) : Type 0 where
  pub less : m ≤ length s
  pub bytes : size ≡ 2 * length (moves_to s m)
  pub written : out ≡ front (moves_to s m) before
  pub made : state ≡ after (home (length s)) (moves_to s m)

-- at first past none
pub rounds_none : (s before : List ℕ) {state : List ℕ} → state ≡ home (length s) → Rounds s before state before 0 0
unfolding moves_to bytes_of after
rounds_none s before e = record { less = omega arith; bytes = refl; written = refl; made = e }

module _ {s : List ℕ} (p : IsPermutation (length s) s) {before state out : List ℕ} (room : 2 * length (moves_of s) ≤ length before) {size m : ℕ}
    (r : Rounds s before state out size m) where
  -- the moves so far are some of all
  so_far : (k : ℕ) → k ≤ length s → 2 * length (moves_to s k) ≤ length before
  so_far k l =
      let e : k + (length s - k) ≡ length s = omega arith in
      omega (arith, moves_more s k (length s - k), ap (λ (i : ℕ). length (moves_to s i)) e)

  pub rounds-size : (length out ≡ length before) × (size ≤ length before)
  rounds-size = (ap length r.written ∙ length_front (moves_to s m) before (so_far m r.less), omega (arith, r.bytes, so_far m r.less))

  pub rounds-state : length state ≡ suc (length s)
  rounds-state = ap length r.made ∙ (gone p m r.less).0.size

  -- at last past all
  pub rounds-all : m ≡ length s → (size ≡ 2 * length (moves_of s)) × (out ≡ front (moves_of s) before)
  rounds-all e = rw (← e) (r.bytes, r.written)

  -- the next position, as the code counts it
  module _ (l : m < length s) {a : ℕ} (next : a ≡ suc m) where
    here : at s a ≡ get_or s m 0
    here = rw next (at_suc s m)

    -- it has its value: no cycle begins there
    pub rounds-skip : standing state a ≡ get_or s m 0 → Rounds s before state out size a
    rounds-skip e =
        let value : standing state (suc m) ≡ at s (suc m) = rw (← next) (e ∙ sym here) in
        let none = moves_none s m (begins-not-there p l (gone p m r.less).0 (rw r.made at value)) in
        rw next (record { less = l; bytes = rw none r.bytes; written = rw none r.written; made = rw none r.made })

    -- it has not: the cycle that begins there is still at home, and there is room for the moves round it
    module _ (d : standing state a ≢ get_or s m 0) where
      begun : begins s (suc m) ≡ true
      begun =
          let other : standing state (suc m) ≢ at s (suc m) = rw (← next) (λ e. d (e ∙ here)) in
          begins-there p l (gone p m r.less).0 (rw r.made at other)

      more : moves_to s (suc m) ≡ moves_to s m ++ around s a
      more = rw next (moves_begun s m begun)

      pub round-home : AtHome s a state
      round-home = rw (next, r.made) (at_home p l (gone p m r.less).0 (begins_least s (suc m) begun))

      -- what is lent is the part behind the moves so far
      lent : take (length out - size) (drop size out) ≡ drop size out
      lent = take_all (length out - size) (drop size out) (omega (arith, length-drop size out))

      pub round_room : 2 * length (around s a) ≤ length (take (length out - size) (drop size out))
      round_room =
          rw (lent, length-drop)
          (omega (arith, r.bytes, rounds-size.0, so_far (suc m) l, ap length more, length-append (moves_to s m) (around s a)))

      -- and comes back with those round the cycle in front
      pub rounds-next : {state' part : List ℕ} {bytes : ℕ} → bytes ≡ 2 * length (around s a) → part ≡ front (around s a) (take (length out - size) (drop size out))
          → state' ≡ after state (around s a)
          → Rounds s before state' (take size out ++ (part ++ drop (length out - size) (drop size out))) (size + bytes) a
      rounds-next {part = part} e f g = rw next (record {
        less = l;
        bytes = omega (arith, e, r.bytes, ap length more, length-append (moves_to s m) (around s a));
        written = ap (λ (x : List ℕ). take size out ++ x) back ∙ in-front ∙ ap (λ (ms : List Pair). front ms before) (sym more);
        made = g ∙ rw (r.made, more) (sym (after-append (home (length s)) (moves_to s m) (around s a)));
      })
        where
          short : length (drop size out) ≤ length out - size
          short = omega (arith, length-drop size out)

          back : part ++ drop (length out - size) (drop size out) ≡ front (around s a) (drop size out)
          back = rw (drop_of_length-le (drop size out) short, append-nil part) (f ∙ ap (front (around s a)) lent)

          in-front : take size out ++ front (around s a) (drop size out) ≡ front (moves_to s m ++ around s a) before
          in-front = rw (r.written, r.bytes) (front-append (moves_to s m) (around s a) before)
