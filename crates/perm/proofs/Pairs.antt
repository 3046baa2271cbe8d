-- Pairs of positions as bytes in the front of a buffer, pair after pair. Assumes nothing.
use mathlib.Core.Path.{◌≡◌, refl, sym, ap, ap₂, ◌∙◌}
use Prim.Native.Nat.{ℕ, suc, ◌+◌, ◌*◌, ◌≤◌}
use native.Mathlib.Numerals.{add-one}
use native.Mathlib.Omega.{arith}
use mathlib.Core.List.{List, [], ◌∷◌, ◌++◌, append_assoc}
use lib.ListN.{length, take, drop, set, length-append, length-drop}
use lib.Seq.{sets-eq, take_at, drop_at, drop-append-add, drop-drop}
use Rattle.perm.specs.Pairs.{Pair, bytes_of, front, pairs_in}

bytes-append : (x y : List Pair) → bytes_of (x ++ y) ≡ bytes_of x ++ bytes_of y
unfolding bytes_of
bytes-append [] y = refl
bytes-append (a ∷ x) y = ap (λ (l : List ℕ). a.0 ∷ a.1 ∷ l) (bytes-append x y)

-- two bytes a pair
pub length-bytes : (x : List Pair) → length (bytes_of x) ≡ 2 * length x
unfolding bytes_of
length-bytes [] = refl
length-bytes (a ∷ x) = omega (arith, length-bytes x)

-- bytes of pairs, read as pairs
pub pairs-bytes : (x : List Pair) → pairs_in (bytes_of x) ≡ x
unfolding bytes_of pairs_in
pairs-bytes [] = refl
pairs-bytes (a ∷ x) = ap (λ (l : List Pair). a ∷ l) (pairs-bytes x)

-- the front of a buffer
module _ (x : List Pair) (before : List ℕ) where
  -- holds the pairs
  pub take-front : take (2 * length x) (front x before) ≡ bytes_of x
  take-front = take_at (bytes_of x) (drop (2 * length x) before) (2 * length x) (length-bytes x)

  -- and the buffer is as long as it was
  pub length_front : 2 * length x ≤ length before → length (front x before) ≡ length before
  length_front h = rw (length-append (bytes_of x) (drop (2 * length x) before), length-drop (2 * length x) before, length-bytes x) (omega arith)

  -- two bytes more
  pub front-step : (a b : ℕ) → 2 * suc (length x) ≤ length before
      → set (set (front x before) (2 * length x) a) (2 * length x + 1) b ≡ front (x ++ ((a, b) ∷ [])) before
  unfolding bytes_of
  front-step a b h =
      let l = 2 * length x in
      let after : drop (l + 2) (front x before) ≡ drop (l + 2) before =
      rw (← length-bytes x, drop-append-add (bytes_of x) (drop (length (bytes_of x)) before) 2, drop-drop 2 (length (bytes_of x)) before) in
      let more : l + 2 ≡ 2 * length (x ++ ((a, b) ∷ [])) = omega (arith, length-append x ((a, b) ∷ [])) in
      rw (add-one, sets-eq (a ∷ b ∷ []) (front x before) l (omega (arith, length_front (omega arith))), take-front, after)
      (ap₂ (λ (u v : List ℕ). u ++ v) (sym (bytes-append x ((a, b) ∷ []))) (ap (λ (k : ℕ). drop k before) more))

-- pairs behind those in front, written to the part of the buffer from there on
pub front-append : (x y : List Pair) (before : List ℕ)
    → take (2 * length x) (front x before) ++ front y (drop (2 * length x) (front x before)) ≡ front (x ++ y) before
front-append x y before =
    let l = 2 * length x in
    let rest : drop l (front x before) ≡ drop l before = drop_at (bytes_of x) (drop l before) l (length-bytes x) in
    let more : l + 2 * length y ≡ 2 * length (x ++ y) = omega (arith, length-append x y) in
    rw (take-front x before, rest, drop-drop (2 * length y) l before)
    (sym (append_assoc (bytes_of x) (bytes_of y) (drop (l + 2 * length y) before))
    ∙ ap₂ (λ (u v : List ℕ). u ++ v) (sym (bytes-append x y)) (ap (λ (k : ℕ). drop k before) more))
