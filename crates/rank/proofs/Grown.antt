-- I(i,γ) and E(γ) are γ with n added at its end and exchanged with the value at a position. Assumes nothing.
use mathlib.Core.Path.{◌≡◌, sym, ◌∙◌}
use Prim.Native.Nat.{ℕ, ◌-◌, ◌≤◌, ◌<◌}
use native.Mathlib.Omega.{arith}
use mathlib.Core.List.{List, [], ◌∷◌, ◌++◌}
use lib.ListN.{length, get_or, set, length-set, get_or-append}
use lib.Seq.{get_or_at, set_at, set-append_left}
use Rattle.perm.specs.Permutation.{exchange, extend, insert}
use Rattle.rank.specs.Search.{grown}

module _ (n : ℕ) (γ : List ℕ) (e : length γ ≡ n - 1) (h : 1 ≤ n) where
  -- n stands at position n
  at-end : (v : ℕ) → get_or (γ ++ (v ∷ [])) (n - 1) 0 ≡ v
  at-end v = get_or_at γ v [] 0 (n - 1) e

  pub grown-insert : (i : ℕ) → 1 ≤ i → i < n → insert n i γ ≡ grown n i γ
  unfolding insert exchange extend
  grown-insert i g l =
      let m : i - 1 < length γ = omega arith in
      let s : length (set γ (i - 1) n) ≡ n - 1 = length-set γ (i - 1) n ∙ e in
      rw (at-end n, set-append_left γ (n ∷ []) (i - 1) n m, get_or-append γ (n ∷ []) 0 (i - 1) m)
      (sym (set_at (set γ (i - 1) n) n [] (get_or γ (i - 1) 0) (n - 1) s))

  pub grown-extend : extend n γ ≡ grown n n γ
  unfolding exchange extend
  grown-extend = rw (at-end n, set_at γ n [] n (n - 1) e, set_at γ n [] n (n - 1) e)
