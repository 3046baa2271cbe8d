-- Wishes in a list that has the wish of position i at index i. Assumes nothing.
use mathlib.Core.Path.{◌≡◌, refl, sym, ap, ◌∙◌}
use Prim.Native.Nat.{ℕ, zero, suc, ◌+◌, ◌-◌, ◌≤◌, ◌<◌}
use native.Mathlib.Omega.{arith}
use mathlib.Core.Bool.{Bool, true, false, ◌||◌}
use mathlib.Core.List.{List, [], ◌∷◌}
use lib.Dec.{ltb}
use lib.ListN.{length, get_or, set, take, drop, length-drop}
use lib.Seq.{length-take-le, get_or-take, get_or-drop, take-set-lt, take-take, drop-set-lt, drop-set-add}
use borrow.Author.Tests.{lt-ltb}
use Rattle.std.specs.List.{list_any}
use Rattle.perm.specs.Lists.{one, tally, some}
use Rattle.perm.specs.Permutation.{at}
use Rattle.find.specs.Search.{smaller, pattern_of}

pub length_pattern : (n : ℕ) (w : List ℕ) → n < length w → length (pattern_of n w) ≡ n
length_pattern n w h = length-take-le n (drop 1 w) (omega (arith, length-drop 1 w))

pub pattern_at : (n : ℕ) (w : List ℕ) (i : ℕ) → 1 ≤ i → i ≤ n → at (pattern_of n w) i ≡ get_or w i 0
pattern_at n w i l u =
    let e : 1 + (i - 1) ≡ i = omega arith in
    get_or-take n (drop 1 w) (i - 1) 0 (omega arith) ∙ get_or-drop 1 w (i - 1) 0 ∙ ap (λ (j : ℕ). get_or w j 0) e

-- index 0 is no position
pub pattern_none : (n : ℕ) (w : List ℕ) (v : ℕ) → pattern_of n (set w 0 v) ≡ pattern_of n w
pattern_none n w v = ap (take n) (drop-set-lt 1 w 0 v (omega arith))

-- what is left of the wishes of m + 1 positions: position x gets the wish of the last
pub pattern_left : (m : ℕ) (w : List ℕ) (x : ℕ) → 1 ≤ x → x ≤ suc m
    → pattern_of m (set w x (get_or w (suc m) 0)) ≡ smaller m x (pattern_of (suc m) w)
pattern_left m w x l u =
    let v = get_or w (suc m) 0 in
    let e : 1 + (x - 1) ≡ x = omega arith in
    ap (λ (j : ℕ). pattern_of m (set w j v)) (sym e)
    ∙ ap (take m) (drop-set-add 1 w (x - 1) v)
    ∙ sym (take-take m (suc m) (set (drop 1 w) (x - 1) v) (omega arith))
    ∙ ap (take m) (take-set-lt (suc m) (drop 1 w) (x - 1) v (omega arith))
    ∙ ap (λ (y : ℕ). take m (set (pattern_of (suc m) w) (x - 1) y)) (sym (pattern_at (suc m) w (suc m) (omega arith) (omega arith)))

pub pattern_below : (n : ℕ) (w : List ℕ) (x : ℕ) → 1 ≤ x → x ≤ n → pattern_of (n - 1) (set w x (get_or w n 0)) ≡ smaller (n - 1) x (pattern_of n w)
pattern_below zero w x l u = absurd (omega arith)
pattern_below (suc m) w x l u =
    let e : suc m - 1 ≡ m = omega arith in
    ap (λ (j : ℕ). pattern_of j (set w x (get_or w (suc m) 0))) e ∙ pattern_left m w x l u ∙ ap (λ (j : ℕ). smaller j x (pattern_of (suc m) w)) (sym e)

-- some wish passes a test
pub some-any : (p : ℕ → Bool) (w : List ℕ) → list_any p w ≡ some p w
unfolding tally
some-any p [] = refl
some-any p (x ∷ w) = by_first (p x) (some-any p w)
  where
    by_first : (b : Bool) → list_any p w ≡ some p w → (b || list_any p w) ≡ ltb 0 (one b + tally p w)
    by_first true e = sym (lt-ltb 0 (1 + tally p w) (omega arith))
    by_first false e = let z : 0 + tally p w ≡ tally p w = omega arith in rw z e
