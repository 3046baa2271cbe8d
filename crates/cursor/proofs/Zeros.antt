-- What the derived `default` gives: a walk of zeros, and an answer of zeros. Assumes nothing.
use mathlib.Core.Path.{◌≡◌, refl}
use mathlib.Core.List.{List, [], ◌∷◌}
use Prim.Native.Nat.{ℕ, zero, suc, ◌<◌}
use native.Mathlib.Omega.{arith}
use lib.ListN.{length, get_or, replicate}
use Rattle.std.specs.Array.{AllOfLen}
use Rattle.cursor.specs.Machine.{bare}
use Rattle.cursor.specs.Walk.{zeros}
use Rattle.cursor.specs.declared.Answer.{Answer}
use Rattle.cursor.specs.declared.Cursor.{Cursor}

-- a list of n zeros
zeros_only : (n : ℕ) (s : List ℕ) → length s ≡ n → ((i : ℕ) → i < n → get_or s i 0 ≡ 0) → s ≡ replicate n 0
zeros_only zero [] e z = refl
zeros_only zero (x ∷ s) e z = absurd (omega arith)
zeros_only (suc n) [] e z = absurd (omega arith)
zeros_only (suc n) (x ∷ s) e z = rw (z 0 (omega arith), zeros_only n s (omega arith) (λ i h. z (suc i) (omega arith)))

array_zeros : (s : List ℕ) → AllOfLen (λ x. x ≡ 0) s 20 → s ≡ replicate 20 0
array_zeros s d = zeros_only 20 s d.long (λ i h. d.at i 0 h)

-- an answer by default
pub answer_zeros : (a : Answer)
    → (a.refusal ≡ 0 × (a.i ≡ 0 × (a.j ≡ 0 × (a.l ≡ 0 × (a.changed ≡ 0 × (a.place ≡ 0 × (AllOfLen (λ x. x ≡ 0) a.perm 20 × (AllOfLen (λ x. x ≡ 0) a.array 20 × a.fixed ≡ 0))))))))
    → a ≡ bare 0
answer_zeros a (refusal, (i, (j, (l, (changed, (place, (perm, (array, fixed)))))))) = λ t. record {
  refusal = refusal t;
  i = i t;
  j = j t;
  l = l t;
  changed = changed t;
  place = place t;
  perm = array_zeros a.perm perm t;
  array = array_zeros a.array array t;
  fixed = fixed t;
}

-- and a record
pub cursor_zeros : (w : Cursor)
    → (w.n ≡ 0 × (w.k ≡ 0 × (w.place ≡ 0 × (w.lowest ≡ 0 × (w.highest ≡ 0 × (AllOfLen (λ x. x ≡ 0) w.perm 20 × AllOfLen (λ x. x ≡ 0) w.array 20))))))
    → w ≡ zeros
cursor_zeros w (n, (k, (place, (lowest, (highest, (perm, array)))))) = λ t. record {
  n = n t;
  k = k t;
  place = place t;
  lowest = lowest t;
  highest = highest t;
  perm = array_zeros w.perm perm t;
  array = array_zeros w.array array t;
}
