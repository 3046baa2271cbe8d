-- Values put at positions, and the product s·⟨a,b⟩: its length, its value at each position, and the product with a longer list. Assumes nothing.
use mathlib.Core.Path.{◌≡◌, ◌∙◌, ap}
use mathlib.Core.Logic.{◌≢◌}
use Prim.Native.Nat.{ℕ, suc, ◌-◌, ◌≤◌, ◌<◌}
use native.Mathlib.Omega.{arith}
use native.Mathlib.Decide.{ℕ_discrete}
use mathlib.Core.List.{List, [], ◌∷◌, ◌++◌}
use lib.ListN.{length, length-set, get_or-append}
use lib.Seq.{lt-length-set, set-set, set_comm, set-get_or, set_at, set-append_left, get_or_at, get_or-set_same, get_or-set_other}
use Rattle.perm.specs.Permutation.{at, put, exchange}

-- different positions, which count from 1, have different indices, which count from 0
index_differs : (i j : ℕ) → 1 ≤ i → 1 ≤ j → i ≢ j → i - 1 ≢ j - 1
index_differs i j h k d = omega arith

-- a value put at a position stands there
pub at-put_same : (s : List ℕ) (i v : ℕ) → 1 ≤ i → i ≤ length s → at (put s i v) i ≡ v
at-put_same s i v h k = get_or-set_same s (i - 1) v 0 (omega arith)

-- and leaves the other positions
pub at-put_other : (s : List ℕ) (i j v : ℕ) → 1 ≤ i → 1 ≤ j → j ≢ i → at (put s i v) j ≡ at s j
at-put_other s i j v h k d = get_or-set_other s (i - 1) (j - 1) v 0 (index_differs j i k h d)

-- values put at two positions, in either order
pub put_comm : (s : List ℕ) (i j v w : ℕ) → 1 ≤ i → 1 ≤ j → i ≢ j → put (put s i v) j w ≡ put (put s j w) i v
put_comm s i j v w h k d = set_comm s (i - 1) (j - 1) v w (index_differs i j h k d)

-- an exchange keeps the length
pub length-exchange : (a b : ℕ) (s : List ℕ) → length (exchange a b s) ≡ length s
unfolding exchange
length-exchange a b s = rw (length-set, length-set)

-- ⟨a,a⟩ changes nothing
pub exchange_same : (a : ℕ) (s : List ℕ) → exchange a a s ≡ s
unfolding exchange
exchange_same a s = rw (set-set, set-get_or)

-- ⟨a,b⟩ is ⟨b,a⟩
pub exchange_comm : (a b : ℕ) (s : List ℕ) → exchange a b s ≡ exchange b a s
unfolding exchange
exchange_comm a b s = by_index (ℕ_discrete (a - 1) (b - 1))
  where
    by_index : Dec (a - 1 ≡ b - 1) → put (put s a (at s b)) b (at s a) ≡ put (put s b (at s a)) a (at s b)
    by_index (yes e) = rw e
    by_index (no d) = set_comm s (a - 1) (b - 1) (at s b) (at s a) d

-- an exchange within a list leaves what is appended
pub exchange-append : (a b : ℕ) (s t : List ℕ) → 1 ≤ a → a ≤ length s → 1 ≤ b → b ≤ length s → exchange a b (s ++ t) ≡ exchange a b s ++ t
unfolding exchange
exchange-append a b s t ha ka hb kb =
    let x : a - 1 < length s = omega arith in
    let y : b - 1 < length s = omega arith in
    let z : b - 1 < length (put s a (at s b)) = lt-length-set s (a - 1) (at s b) y in
    rw (get_or-append s t 0 (a - 1), get_or-append s t 0 (b - 1), set-append_left s t (a - 1), set-append_left (put s a (at s b)) t (b - 1))

-- an exchange of a position with the one last appended
pub exchange_top : {m : ℕ} (i v : ℕ) (s : List ℕ) → length s ≡ m → 1 ≤ i → i ≤ m → exchange i (suc m) (s ++ (v ∷ [])) ≡ put s i v ++ (at s i ∷ [])
unfolding exchange
exchange_top {m} i v s e h k =
    let x : i - 1 < length s = omega arith in
    let y : suc m - 1 ≡ m = omega arith in
    let z : length (put s i v) ≡ m = rw length-set e in
    rw (y, get_or_at s v [] 0 m, get_or-append s (v ∷ []) 0 (i - 1), set-append_left s (v ∷ []) (i - 1), set_at (put s i v) v [] (at s i) m)

-- two positions of s
module _ (a b : ℕ) (s : List ℕ) (ha : 1 ≤ a) (ka : a ≤ length s) (hb : 1 ≤ b) (kb : b ≤ length s) where
  -- after the exchange b has the value of a
  pub at-exchange-right : at (exchange a b s) b ≡ at s a
  unfolding exchange
  at-exchange-right = at-put_same (put s a (at s b)) b (at s a) hb (rw length-set kb)

  -- any other position has its own
  pub at-exchange-other : (i : ℕ) → 1 ≤ i → i ≢ a → i ≢ b → at (exchange a b s) i ≡ at s i
  unfolding exchange
  at-exchange-other i h da db = at-put_other (put s a (at s b)) b i (at s a) hb h db ∙ at-put_other s a i (at s b) ha h da

-- and a has the value of b
pub at-exchange_left : (a b : ℕ) (s : List ℕ) → 1 ≤ a → a ≤ length s → 1 ≤ b → b ≤ length s → at (exchange a b s) a ≡ at s b
at-exchange_left a b s ha ka hb kb = ap (λ t. at t a) (exchange_comm a b s) ∙ at-exchange-right b a s hb kb ha ka
