-- Of the blocks of S(n,k) at most one extends, at an index that n and k give; the others insert. Assumes nothing.
use mathlib.Core.Path.{◌≡◌, refl, sym, ap, ◌∙◌}
use Prim.Native.Nat.{ℕ, zero, suc, ◌+◌, ◌-◌, ◌≤◌, ◌<◌}
use native.Mathlib.Omega.{arith}
use mathlib.Core.Bool.{Bool, true, false, cond}
use mathlib.Core.List.{List, [], ◌∷◌, ◌++◌}
use lib.Dec.{eqb}
use borrow.Author.Tests.{eqb-true, eqb-false}
use lib.ListN.{length}
use Rattle.gray.specs.declared.Block.{Block}
use Rattle.gray.specs.declared.Block.TheVariants.{Insert as I, Extend as E}
use Rattle.gray.specs.Order.{rising, falling, blocks_c3, blocks_c}
use Rattle.gray.specs.Blocks.{blocks_of_a, blocks_of, blocks}
use Rattle.gray.proofs.Which.{Which, is_none, is-a, is_b, is_c, is-d, is-e, which}
use Rattle.gray.proofs.Indexed.{block}
use Rattle.rank.specs.Search.{cycles_of, number_read, ExtendsAt}
use Rattle.rank.proofs.Starts.{number_inside, number_back, block_read}

-- every block inserts
data Inserts : List Block → Type 0 where
  no_more : Inserts []
  one_more : {i e : ℕ} {bs : List Block} → Inserts bs → Inserts (I i e ∷ bs)

-- the block at index x extends, if there are so many, and the others insert
data Extends : ℕ → List Block → Type 0 where
  past : {x : ℕ} → Extends x []
  here : {e : ℕ} {bs : List Block} → Inserts bs → Extends 0 (E e ∷ bs)
  later : {x i e : ℕ} {bs : List Block} → Extends x bs → Extends (suc x) (I i e ∷ bs)

-- what a block is made from, by its index
module _ (k : ℕ) where
  inserting : {bs : List Block} → Inserts bs → (j : ℕ) → j < length bs → cycles_of k (block bs j) ≡ k
  inserting no_more j h = absurd (omega arith)
  inserting (one_more p) zero h = refl
  inserting (one_more p) (suc j) h = inserting p j (omega arith)

  extended : {x : ℕ} {bs : List Block} → Extends x bs → (j : ℕ) → j < length bs → j ≡ x → cycles_of k (block bs j) ≡ k - 1
  extended past j h e = absurd (omega arith)
  extended (here p) zero h e = refl
  extended (here p) (suc j) h e = absurd (omega arith)
  extended (later p) zero h e = absurd (omega arith)
  extended (later p) (suc j) h e = extended p j (omega arith) (omega arith)

  inserted : {x : ℕ} {bs : List Block} → Extends x bs → (j : ℕ) → j < length bs → (j ≡ x → ⊥) → cycles_of k (block bs j) ≡ k
  inserted past j h o = absurd (omega arith)
  inserted (here p) zero h o = absurd (o refl)
  inserted (here p) (suc j) h o = inserting p j (omega arith)
  inserted (later p) zero h o = refl
  inserted (later p) (suc j) h o = inserted p j (omega arith) (λ e. o (omega arith))

-- the index counts down over insertions
skip : {i e : ℕ} {bs : List Block} (x : ℕ) → 1 ≤ x → Extends (x - 1) bs → Extends x (I i e ∷ bs)
skip zero h p = absurd (omega arith)
skip (suc x) h p = let e : suc x - 1 ≡ x = omega arith in later (rw e at p)

stop : {e : ℕ} {bs : List Block} (x : ℕ) → x ≡ 0 → Inserts bs → Extends x (E e ∷ bs)
stop x h p = rw h (here p)

-- a run of insertions, alone and before other blocks
falling_inserts : (g : ℕ → ℕ) (a m : ℕ) → Inserts (falling (λ i. I i (g i)) a m)
unfolding falling
falling_inserts g a zero = no_more
falling_inserts g a (suc m) = one_more (falling_inserts g (a - 1) m)

falling-skip : {t : List Block} (x : ℕ) (g : ℕ → ℕ) (a m : ℕ) → m ≤ x → Extends (x - m) t → Extends x (falling (λ i. I i (g i)) a m ++ t)
unfolding falling
falling-skip x g a zero h p = let e : x - 0 ≡ x = omega arith in rw e at p
falling-skip x g a (suc m) h p =
    let e : x - 1 - m ≡ x - suc m = omega arith in
    skip x (omega arith) (falling-skip (x - 1) g (a - 1) m (omega arith) (rw e p))

rising-skip : {t : List Block} (x : ℕ) (g : ℕ → ℕ) (a m : ℕ) → m ≤ x → Extends (x - m) t → Extends x (rising (λ i. I i (g i)) a m ++ t)
unfolding rising
rising-skip x g a zero h p = let e : x - 0 ≡ x = omega arith in rw e at p
rising-skip x g a (suc m) h p =
    let e : x - 1 - m ≡ x - suc m = omega arith in
    skip x (omega arith) (rising-skip (x - 1) g (suc a) m (omega arith) (rw e p))

-- (a) has no block that extends, but for n = 1
a_extends : (n x : ℕ) → 1 ≤ n → x ≡ n - 1 → Extends x (blocks_of_a n)
unfolding blocks_of_a
a_extends zero x h e = past
a_extends (suc zero) x h e = stop x (omega arith) no_more
a_extends (suc (suc zero)) x h e = skip x (omega arith) past
a_extends (suc (suc (suc zero))) x h e = skip x (omega arith) (skip (x - 1) (omega arith) past)
a_extends (suc (suc (suc (suc zero)))) x h e = skip x (omega arith) (skip (x - 1) (omega arith) (skip (x - 1 - 1) (omega arith) past))
a_extends (suc (suc (suc (suc (suc m))))) x h e =
    skip x (omega arith)
    (falling-skip (x - 1) _ (5 + m - 1) (suc (5 + m - 1) - 4) (omega arith) (skip _ (omega arith) (skip _ (omega arith) past)))

-- (c) ends with its extension: for n ≥ 4 after m + 3 insertions, m of them in the run
c_run : (x a b d e m : ℕ) → x ≡ m + 3 → Extends x (I 1 0 ∷ I a 0 ∷ (falling (λ i. I i 0) b m ++ (I d 0 ∷ E e ∷ [])))
c_run x a b d e m h =
    skip x (omega arith)
    (skip (x - 1) (omega arith)
    (falling-skip (x - 1 - 1) _ b m (omega arith) (skip _ (omega arith) (stop _ (omega arith) no_more))))

c_extends : (n x : ℕ) (b : Bool) → eqb n 3 ≡ b → 3 ≤ n → x ≡ n - 1 → Extends x (cond b blocks_c3 (blocks_c n))
c_extends n x true t h e = let g = eqb-true n 3 t in skip x (omega arith) (skip (x - 1) (omega arith) (stop _ (omega arith) no_more))
c_extends n x false t h e = let g = eqb-false n 3 t in c_run x (n - 1) (n - 3) (n - 2) 1 (suc (n - 3) - 2) (omega arith)

-- the index of the block that extends, by the relation that n and k are for
pub record IndexOf (n k x : ℕ) : Type 0 where
  pub by_a : k ≡ 1 → x ≡ n - 1
  pub by_b : k ≡ n → x ≡ 0
  pub by_c : k + 1 ≡ n → x ≡ n - 1
  pub by_d : 1 < k → k + 2 ≡ n → x ≡ n - 2
  pub by_e : 1 < k → k + 3 ≤ n → x ≡ n - k

by-letter : (n k x : ℕ) → IndexOf n k x → Which n k → Extends x (blocks n k)
unfolding blocks blocks_of
by-letter n k x i (is_none e z) = rw e past
by-letter n k x i (is-a e o h) = rw e (a_extends n x h (i.by_a o))
by-letter n k x i (is_b e a h) = rw e (stop x (i.by_b a) no_more)
by-letter n k x i (is_c e o h) = rw e (c_extends n x (eqb n 3) refl h (i.by_c o))
by-letter n k x i (is-d e o h) =
    let y = i.by_d (omega arith) o in
    rw e (skip x (omega arith) (rising-skip (x - 1) _ 3 (suc (n - 1) - 3) (omega arith) (stop _ (omega arith) (one_more no_more))))
by-letter n k x i (is-e e m h) =
    let y = i.by_e (omega arith) h in
    rw e
    (skip x (omega arith)
    (falling-skip (x - 1) _ (n - 1) (suc (n - 1) - (k + 1)) (omega arith) (stop _ (omega arith) (falling_inserts _ k (suc k - 2)))))

-- the blocks of S(n,k), as written
pub extends_at : (n k x : ℕ) → IndexOf n k x → ExtendsAt n k false x
extends_at n k x i =
    let p = by-letter n k x i (which n k) in
    record { extends = extended k p; inserts = inserted k p }

-- read backward, the index is counted from the other end; past the last block it stays past it
pub extends_read : (n k x : ℕ) → ExtendsAt n k false x → x < length (blocks n k) → ExtendsAt n k true (number_read n k true x)
extends_read n k x w h =
    record {
      extends = λ j l e.
          ap (cycles_of k) (block_read n k true j l)
          ∙ w.extends (number_read n k true j) (number_inside n k true j l) (ap (number_read n k true) e ∙ number_back n k true x h);
      inserts = λ j l o.
          ap (cycles_of k) (block_read n k true j l)
          ∙ w.inserts (number_read n k true j) (number_inside n k true j l) (λ e. o (sym (number_back n k true j l) ∙ ap (number_read n k true) e));
    }

pub extends_none : (n k x : ℕ) → ExtendsAt n k false x → length (blocks n k) ≤ x → ExtendsAt n k true x
extends_none n k x w h =
    record {
      extends = λ j l e. absurd (omega arith);
      inserts = λ j l o.
          ap (cycles_of k) (block_read n k true j l)
          ∙ w.inserts (number_read n k true j) (number_inside n k true j l) (λ e. omega (arith, number_inside n k true j l));
    }
