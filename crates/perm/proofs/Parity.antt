-- A product s·⟨a,b⟩ of a permutation with an exchange of two positions is a permutation, and has one cycle more or one less: it turns the parity of the number of
-- cycles. Assumes nothing.
use mathlib.Core.Path.{◌≡◌, ◌∙◌, sym, ap₂}
use mathlib.Core.Logic.{◌≢◌}
use Prim.Native.Nat.{ℕ, zero, suc, ◌+◌, ◌-◌, ◌%◌, ◌≤◌}
use native.Mathlib.Omega.{arith}
use native.Mathlib.Decide.{ℕ_discrete}
use mathlib.Core.List.{List, [], ◌∷◌, ◌++◌}
use lib.ListN.{length, length-set}
use lib.Seq.{set-set, set-get_or}
use Rattle.perm.specs.Permutation.{IsPermutation, at, put, exchange, extend, insert}
use Rattle.perm.specs.Cycle.{cycles}
use Rattle.perm.proofs.Split.{Split, extended, inserted, split, extend_permutation, insert_permutation}
use Rattle.perm.proofs.Cycles.{cycles-extend, cycles-insert}
use Rattle.perm.proofs.Exchange.{exchange_comm, exchange-append, exchange_top, at-put_same, at-put_other, put_comm, at-exchange-right, at-exchange-other}

-- a value put before an exchange, at another position
exchange-put_other : (s : List ℕ) (a b i v : ℕ) → 1 ≤ a → 1 ≤ b → 1 ≤ i → i ≢ a → i ≢ b → exchange a b (put s i v) ≡ put (exchange a b s) i v
unfolding exchange
exchange-put_other s a b i v ha hb hi da db =
    rw
    (at-put_other s i a v hi ha (λ e. da (sym e)), at-put_other s i b v hi hb (λ e. db (sym e)), put_comm s i a v (at s b) hi ha da)
    (put_comm (put s a (at s b)) i b v (at s a) hi hb db)

-- a value put after an exchange, at its second position
put-exchange : (s : List ℕ) (a b v : ℕ) → put (exchange a b s) b v ≡ put (put s a (at s b)) b v
unfolding exchange
put-exchange s a b v = set-set (put s a (at s b)) (b - 1) (at s a) v

-- a value put before an exchange, at its first position
exchange-put : (s : List ℕ) (a b v : ℕ) → 1 ≤ a → a ≤ length s → 1 ≤ b → a ≢ b → exchange a b (put s a v) ≡ put (exchange a b s) b v
unfolding exchange
exchange-put s a b v ha ka hb d =
    rw (at-put_same s a v ha ka, at-put_other s a b v ha hb (λ e. d (sym e)), set-set s) (sym (put-exchange s a b v))

-- a list with one value appended
abbrev snoc : List ℕ → ℕ → List ℕ
snoc s v = s ++ (v ∷ [])

-- two positions of γ, a list of m values
module _ {m : ℕ} (γ : List ℕ) (e : length γ ≡ m) (a b : ℕ) (ha : 1 ≤ a) (ka : a ≤ m) (hb : 1 ≤ b) (kb : b ≤ m) where
  -- an exchange within E(γ)
  exchange-extend : exchange a b (extend (suc m) γ) ≡ extend (suc m) (exchange a b γ)
  unfolding extend
  exchange-extend = exchange-append a b γ (suc m ∷ []) ha (omega arith) hb (omega arith)

  -- an exchange within I(i,γ) is one of γ with the inserted value
  within-insert : (i : ℕ) → exchange a b (insert (suc m) i γ) ≡ snoc (exchange a b (put γ i (suc m))) (at γ i)
  unfolding insert
  within-insert i =
      let l = length-set γ (i - 1) (suc m) in
      exchange-append a b (put γ i (suc m)) (at γ i ∷ []) ha (omega arith) hb (omega arith)

  -- an exchange within I(i,γ) that leaves the inserted value
  exchange-insert-other : (i : ℕ) → 1 ≤ i → i ≢ a → i ≢ b → exchange a b (insert (suc m) i γ) ≡ insert (suc m) i (exchange a b γ)
  unfolding insert
  exchange-insert-other i h da db =
      within-insert i
      ∙ ap₂ snoc (exchange-put_other γ a b i (suc m) ha hb h da db) (sym (at-exchange-other a b γ ha (omega arith) hb (omega arith) i h da db))

  -- an exchange within I(a,γ) that moves the inserted value
  exchange-insert-here : a ≢ b → exchange a b (insert (suc m) a γ) ≡ insert (suc m) b (exchange a b γ)
  unfolding insert
  exchange-insert-here d =
      within-insert a
      ∙ ap₂ snoc (exchange-put γ a b (suc m) ha (omega arith) hb d) (sym (at-exchange-right a b γ ha (omega arith) hb (omega arith)))

  -- an exchange of I(b,γ) with the last position
  exchange-insert-last : a ≢ b → exchange a (suc m) (insert (suc m) b γ) ≡ insert (suc m) b (exchange a b γ)
  unfolding insert
  exchange-insert-last d =
      exchange_top a (at γ b) (put γ b (suc m)) (length-set γ (b - 1) (suc m) ∙ e) ha ka
      ∙ ap₂ snoc
      (put_comm γ b a (suc m) (at γ b) hb ha (λ q. d (sym q)) ∙ sym (put-exchange γ a b (suc m)))
      (at-put_other γ b a (suc m) hb ha d ∙ sym (at-exchange-right a b γ ha (omega arith) hb (omega arith)))

-- an exchange of E(γ) with the last position
exchange-extend_last : {m : ℕ} (γ : List ℕ) (a : ℕ) → length γ ≡ m → 1 ≤ a → a ≤ m → exchange a (suc m) (extend (suc m) γ) ≡ insert (suc m) a γ
unfolding extend insert
exchange-extend_last {m} γ a e h k = exchange_top a (suc m) γ e h k

-- an exchange that undoes I(a,γ)
exchange-insert_undone : {m : ℕ} (γ : List ℕ) (a : ℕ) → length γ ≡ m → 1 ≤ a → a ≤ m → exchange a (suc m) (insert (suc m) a γ) ≡ extend (suc m) γ
unfolding extend insert
exchange-insert_undone {m} γ a e h k =
    exchange_top a (at γ a) (put γ a (suc m)) (length-set γ (a - 1) (suc m) ∙ e) h k
    ∙ ap₂ snoc (set-set γ (a - 1) (suc m) (at γ a) ∙ set-get_or γ (a - 1) 0) (at-put_same γ a (suc m) h (omega arith))

-- t is a permutation of n, of the numbers of cycles of s and t one is odd and the other even, and neither is above the other by more than one
record Turned (n : ℕ) (s t : List ℕ) : Type 0 where
  permutation : IsPermutation n t
  parity : (cycles s + cycles t) % 2 ≡ 1
  near : (cycles s ≤ suc (cycles t)) × (cycles t ≤ suc (cycles s))

-- every exchange of two different positions in a permutation of n turns the parity
abbrev Turns : ℕ → Type 0
Turns n = (s : List ℕ) → IsPermutation n s → (a b : ℕ) → 1 ≤ a → a ≤ n → 1 ≤ b → b ≤ n → a ≢ b → Turned n s (exchange a b s)

module _ {m : ℕ} {γ : List ℕ} (g : IsPermutation m γ) where
  -- E keeps what an exchange of γ turns
  turned-extend : {δ : List ℕ} → Turned m γ δ → Turned (suc m) (extend (suc m) γ) (extend (suc m) δ)
  turned-extend d =
      let x = cycles-extend g in
      let y = cycles-extend d.permutation in
      record {
        permutation = extend_permutation d.permutation;
        parity = omega (arith, x, y, d.parity);
        near = (omega (arith, x, y, d.near.0), omega (arith, x, y, d.near.1));
      }

  -- and so does I
  turned-insert : {δ : List ℕ} (i j : ℕ) → 1 ≤ i → i ≤ m → 1 ≤ j → j ≤ m → Turned m γ δ → Turned (suc m) (insert (suc m) i γ) (insert (suc m) j δ)
  turned-insert i j hi ki hj kj d = record {
    permutation = insert_permutation j hj kj d.permutation;
    parity = rw (cycles-insert i hi ki g, cycles-insert j hj kj d.permutation) d.parity;
    near = rw (cycles-insert i hi ki g, cycles-insert j hj kj d.permutation) d.near;
  }

  -- I in place of E turns the parity, and so does E in place of I
  turned-inserted : (i : ℕ) → 1 ≤ i → i ≤ m → Turned (suc m) (extend (suc m) γ) (insert (suc m) i γ)
  turned-inserted i h k =
      let x = cycles-extend g in
      let y = cycles-insert i h k g in
      record { permutation = insert_permutation i h k g; parity = omega (arith, x, y); near = (omega (arith, x, y), omega (arith, x, y)) }

  turned-undone : (i : ℕ) → 1 ≤ i → i ≤ m → Turned (suc m) (insert (suc m) i γ) (extend (suc m) γ)
  turned-undone i h k =
      let d = turned-inserted i h k in
      record { permutation = extend_permutation g; parity = omega (arith, d.parity); near = (d.near.1, d.near.0) }

-- an exchange that leaves the last position
turned-within : {m : ℕ} {s : List ℕ} → Turns m → Split m s → (a b : ℕ) → 1 ≤ a → a ≤ m → 1 ≤ b → b ≤ m → a ≢ b → Turned (suc m) s (exchange a b s)
turned-within ih (extended γ g) a b ha ka hb kb d = rw (exchange-extend γ g.size a b ha ka hb kb) (turned-extend g (ih γ g a b ha ka hb kb d))
turned-within {m} ih (inserted i γ h k g) a b ha ka hb kb d = by_place (ℕ_discrete i a) (ℕ_discrete i b)
  where
    by_place : Dec (i ≡ a) → Dec (i ≡ b) → Turned (suc m) (insert (suc m) i γ) (exchange a b (insert (suc m) i γ))
    by_place (yes e) y =
        rw (e, exchange-insert-here γ g.size a b ha ka hb kb d) (turned-insert g a b ha ka hb kb (ih γ g a b ha ka hb kb d))
    by_place (no x) (yes e) =
        rw (e, exchange_comm a b, exchange-insert-here γ g.size b a hb kb ha ka (λ q. d (sym q))) (turned-insert g b a hb kb ha ka (ih γ g b a hb kb ha ka (λ q. d (sym q))))
    by_place (no x) (no y) =
        rw (exchange-insert-other γ g.size a b ha ka hb kb i h x y) (turned-insert g i i h k h k (ih γ g a b ha ka hb kb d))

-- an exchange with the last position
turned_last : {m : ℕ} {s : List ℕ} → Turns m → Split m s → (a : ℕ) → 1 ≤ a → a ≤ m → Turned (suc m) s (exchange a (suc m) s)
turned_last ih (extended γ g) a ha ka = rw (exchange-extend_last γ a g.size ha ka) (turned-inserted g a ha ka)
turned_last {m} ih (inserted i γ h k g) a ha ka = by_place (ℕ_discrete a i)
  where
    by_place : Dec (a ≡ i) → Turned (suc m) (insert (suc m) i γ) (exchange a (suc m) (insert (suc m) i γ))
    by_place (yes e) = rw (e, exchange-insert_undone γ i g.size h k) (turned-undone g i h k)
    by_place (no d) = rw (exchange-insert-last γ g.size a i ha ka h k d) (turned-insert g i i h k h k (ih γ g a i ha ka h k d))

-- by induction on n: the last position, or two others, are exchanged
turns : (n : ℕ) → Turns n
turns zero s p a b ha ka hb kb d = absurd (omega arith)
turns (suc m) s p a b ha ka hb kb d = by_place (turns m) (ℕ_discrete a (suc m)) (ℕ_discrete b (suc m))
  where
    by_place : Turns m → Dec (a ≡ suc m) → Dec (b ≡ suc m) → Turned (suc m) s (exchange a b s)
    by_place ih (yes e) y = rw (exchange_comm a b, e) (turned_last ih (split p) b hb (omega arith))
    by_place ih (no x) (yes e) = rw e (turned_last ih (split p) a ha (omega arith))
    by_place ih (no x) (no y) = turned-within ih (split p) a b ha (omega arith) hb (omega arith) d

module _ {n : ℕ} {s : List ℕ} (p : IsPermutation n s) (a b : ℕ) (ha : 1 ≤ a) (ka : a ≤ n) (hb : 1 ≤ b) (kb : b ≤ n) (d : a ≢ b) where
  -- a product with one exchange of two positions is a permutation
  pub exchange-permutation : IsPermutation n (exchange a b s)
  exchange-permutation = (turns n s p a b ha ka hb kb d).permutation

  -- and turns the parity of the number of cycles
  pub exchange-parity : (cycles s + cycles (exchange a b s)) % 2 ≡ 1
  exchange-parity = (turns n s p a b ha ka hb kb d).parity

  -- by no more than one: with the parity, it has one cycle more or one less
  pub exchange-near : (cycles s ≤ suc (cycles (exchange a b s))) × (cycles (exchange a b s) ≤ suc (cycles s))
  exchange-near = (turns n s p a b ha ka hb kb d).near
