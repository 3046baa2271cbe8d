-- The identity written value by value. Assumes nothing.
use mathlib.Core.Path.{◌≡◌, refl, sym, ap, ◌∙◌}
use Prim.Native.Nat.{ℕ, suc, ◌+◌, ◌<◌}
use native.Mathlib.Numerals.{add-one}
use native.Mathlib.Omega.{arith}
use mathlib.Core.List.{List, [], ◌∷◌, ◌++◌, append_assoc, append-nil}
use lib.ListN.{length, set, drop}
use lib.Seq.{drop-cons, drop-length, set_at}
use Rattle.perm.specs.Lists.{range, positions}
use Rattle.perm.proofs.Tally.{range_snoc, length-range}

-- at first nothing is written
pub none_written : (before : List ℕ) → before ≡ positions 0 ++ drop 0 before
unfolding range
none_written before = refl

-- one value more: the slice begins with 1 to i, and then with 1 to i + 1
pub next-value : (i : ℕ) (before out : List ℕ) → i < length before → out ≡ positions i ++ drop i before
    → set out i (i + 1) ≡ positions (i + 1) ++ drop (i + 1) before
next-value i before out h e =
    let one : 1 + i ≡ i + 1 = omega arith in
    let next : positions (i + 1) ≡ positions i ++ ((i + 1) ∷ []) = ap positions (add-one i) ∙ range_snoc 1 i ∙ ap (λ (x : ℕ). positions i ++ (x ∷ [])) one in
    let rest : drop (i + 1) before ≡ drop (suc i) before = ap (λ (x : ℕ). drop x before) (add-one i) in
    ap (λ (l : List ℕ). set l i (i + 1)) (e ∙ ap (λ (l : List ℕ). positions i ++ l) (drop-cons before i 0 h))
    ∙ set_at (positions i) _ (drop (suc i) before) (i + 1) i (length-range 1 i)
    ∙ sym (append_assoc (positions i) ((i + 1) ∷ []) (drop (suc i) before))
    ∙ rw (next, rest)

-- at last it is the identity
pub all-values : (i : ℕ) (before out : List ℕ) → i ≡ length before → out ≡ positions i ++ drop i before → out ≡ positions (length before)
all-values i before out h e =
    let none : drop i before ≡ [] = ap (λ (x : ℕ). drop x before) h ∙ drop-length before in
    rw (← h) (e ∙ ap (λ (l : List ℕ). positions i ++ l) none ∙ append-nil (positions i))
