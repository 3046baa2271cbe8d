-- Each relation (a) to (e) makes a run of its rows, if L and M are runs and the ends of its blocks are a step apart. Assumes nothing.
use mathlib.Core.Path.{◌≡◌}
use Prim.Native.Nat.{ℕ, zero, suc, ◌+◌, ◌-◌, ◌≤◌, ◌<◌}
use native.Mathlib.Nat.{suc-sub-suc}
use native.Mathlib.Numerals.{add-one}
use native.Mathlib.Omega.{arith}
use mathlib.Core.Bool.{Bool, true, false, cond, not-not}
use mathlib.Core.List.{List, [], ◌∷◌, ◌++◌, append-nil}
use Rattle.gray.specs.declared.Block.{Block}
use Rattle.gray.specs.declared.Block.TheVariants.{Insert as I, Extend as E}
use Rattle.gray.specs.Order.{Row, odd, rows, joined, rising, falling, blocks_a4, blocks_a, blocks_c3, blocks_c, blocks_d, blocks_e}
use Rattle.gray.proofs.Joined.{joined-append}
use Rattle.gray.proofs.Total.{weight, total, total-append}
use Rattle.gray.proofs.Run.{Kind, Run, run-append, run-extend, run-insert, end, run-reading}

-- differences that do not compute
pub less_one : (n : ℕ) → suc n - 1 ≡ n
less_one n = omega arith

suc_less : (n m : ℕ) → m ≤ n → suc n - m ≡ suc (n - m)
suc_less n m h = omega arith

-- [L](e+1) starts where [L](e−1) does
pub end_back : {A : Type 0} (e : ℕ) (f g : A) → 1 ≤ e → end (suc e) f g ≡ end (e - 1) f g
unfolding odd
end_back zero f g h = absurd (omega arith)
end_back (suc e) f g h = rw (less_one e, not-not (odd e))

module _ (K : Kind) (n : ℕ) (L M : List Row) (x y : ℕ) where
  -- E and I, by one value more
  abbrev ext : K.End → K.End
  ext f = K.extended (suc n) f

  abbrev ins : ℕ → K.End → K.End
  ins i f = K.inserted (suc n) i f

  -- the rows of a list of blocks are a run from f to g, whose steps count x in each I(i,L), y in E(M), and z between blocks
  pub record Blocks (z : ℕ) (f g : K.End) (bs : List Block) : Type 0 where
    pub run : Run K (suc n) (total (λ i. x) y bs + z) f g (joined (suc n) L M bs)

  -- the rows of one block
  abbrev Rows : K.End → K.End → Block → Type 0
  Rows f g b = Run K (suc n) (weight (λ i. x) y b) f g (rows (suc n) L M b)

  -- a block alone; a block, or blocks, before others
  block_last : {f g : K.End} (b : Block) → Rows f g b → Blocks 0 f g (b ∷ [])
  unfolding joined total
  block_last b run =
      let e : weight (λ i. x) y b + 0 + 0 ≡ weight (λ i. x) y b = omega arith in
      record { run = rw (append-nil (rows (suc n) L M b), e) run }

  block-then : {c w z : ℕ} {f g h l : K.End} (b : Block) (bs : List Block) → Rows f g b → K.Step (suc n) c g h → Blocks w h l bs → z ≡ c + w
      → Blocks z f l (b ∷ bs)
  unfolding joined total
  block-then b bs run st rest e = record { run = run-append run st rest.run (omega arith) }

  blocks-then : {z : ℕ} {f g h l : K.End} (bs ds : List Block) → Blocks 0 f g bs → K.Step (suc n) 0 g h → Blocks z h l ds → Blocks z f l (bs ++ ds)
  blocks-then bs ds some st rest =
      record { run = rw (joined-append (suc n) L M bs ds, total-append) (run-append some.run st rest.run (omega arith)) }

  module _ {f g : K.End} (run : Run K n x f g L) where
    -- the block I(i,[L]e), alone or before others
    insert-run : (i e : ℕ) → (1 ≤ i) × (i ≤ n) → Rows (ins i (end e f g)) (ins i (end (suc e) f g)) (I i e)
    unfolding rows weight
    insert-run i e h = run-insert i h (run-reading e run)

    insert-last : (i e : ℕ) → (1 ≤ i) × (i ≤ n) → Blocks 0 (ins i (end e f g)) (ins i (end (suc e) f g)) (I i e ∷ [])
    insert-last i e h = block_last (I i e) (insert-run i e h)

    insert-then : (i e : ℕ) {z : ℕ} {h l : K.End} (bs : List Block) → (1 ≤ i) × (i ≤ n)
        → K.Step (suc n) 0 (ins i (end (suc e) f g)) h → Blocks z h l bs → Blocks z (ins i (end e f g)) l (I i e ∷ bs)
    insert-then i e bs h st rest = block-then (I i e) bs (insert-run i e h) st rest (omega arith)

    -- I(i,[L]e(i)) for i = a down to b, if each starts where the one before stopped
    falling-run : (e : ℕ → ℕ) → ((i : ℕ) → 2 ≤ i → end (suc (e i)) f g ≡ end (e (i - 1)) f g) → (c a b : ℕ)
        → (a ≡ c + b) × (1 ≤ b) × (a ≤ n)
        → Blocks 0 (ins a (end (e a) f g)) (ins b (end (suc (e b)) f g)) (falling (λ i. I i (e i)) a (suc c))
    unfolding falling
    falling-run e turns zero a b h =
        let p : a ≡ b = omega arith in
        rw (← p) (insert-last a (e a) (omega arith))
    falling-run e turns (suc c) a b h =
        insert-then a (e a) _ (omega arith)
        (rw (turns a (omega arith)) (K.step-position (end (e (a - 1)) f g) a (a - 1) (omega arith)))
        (falling-run e turns c (a - 1) b (omega arith))

    -- I(i,[L]i) for i = a up to b
    rising-run : (c a b : ℕ) → (b ≡ c + a) × (1 ≤ a) × (b ≤ n)
        → Blocks 0 (ins a (end a f g)) (ins b (end (suc b) f g)) (rising (λ i. I i i) a (suc c))
    unfolding rising
    rising-run zero a b h =
        let p : b ≡ a = omega arith in
        rw p (insert-last a a (omega arith))
    rising-run (suc c) a b h =
        insert-then a a _ (omega arith) (K.step-position (end (suc a) f g) a (suc a) (omega arith)) (rising-run c (suc a) b (omega arith))

    -- from I(1,L) to I(n,[L]e), if there is a step for even e
    step_start : 2 ≤ n → K.Step (suc n) 0 (ins 1 g) (ins n f) → (e : ℕ) → K.Step (suc n) 0 (ins 1 g) (ins n (end e f g))
    step_start l turn e = go (odd e)
      where
        go : (t : Bool) → K.Step (suc n) 0 (ins 1 g) (ins n (cond t g f))
        go true = K.step-position g 1 n (omega arith)
        go false = turn

    -- (a), n ≥ 5
    pub relation-a : 4 ≤ n → K.Step (suc n) 0 (ins 1 g) (ins n f) → Blocks 0 (ins 1 f) (ins 3 f) (blocks_a (suc n))
    unfolding odd
    relation-a l turn =
        rw (less_one n, suc_less n 4 (omega arith))
        (insert-then 1 0 _ (omega arith) (step_start (omega arith) turn (n + 1))
        (blocks-then _ _ (falling-run (λ i. i + 1) turns (n - 4) n 4 (omega arith)) (K.step-position f 4 2 (omega arith))
        (insert-then 2 0 _ (omega arith) (K.step-position g 2 3 (omega arith))
        (insert-last 3 1 (omega arith)))))
      where
        turns : (i : ℕ) → 2 ≤ i → end (suc (i + 1)) f g ≡ end (i - 1 + 1) f g
        turns i h =
            let p : i - 1 + 1 ≡ i + 1 - 1 = omega arith in
            rw p (end_back (i + 1) f g (omega arith))

    -- (a), n = 4
    pub relation-a4 : n ≡ 3 → K.Step (suc n) 0 (ins 2 f) (ins 3 g) → Blocks 0 (ins 1 f) (ins 3 f) blocks_a4
    unfolding odd
    relation-a4 l st =
        insert-then 1 0 _ (omega arith) (K.step-position g 1 2 (omega arith))
        (insert-then 2 1 _ (omega arith) st
        (insert-last 3 1 (omega arith)))

    -- (a), n = 2
    pub relation-a2 : 1 ≤ n → Blocks 0 (ins 1 f) (ins 1 g) (I 1 0 ∷ [])
    unfolding odd
    relation-a2 l = insert-last 1 0 (omega arith)

  module _ {f g : K.End} (run : Run K n y f g M) where
    -- the block E([M]e), alone or before others
    extend-run : (e : ℕ) → Rows (ext (end e f g)) (ext (end (suc e) f g)) (E e)
    unfolding rows weight
    extend-run e = run-extend (run-reading e run)

    extend-last : (e : ℕ) → Blocks 0 (ext (end e f g)) (ext (end (suc e) f g)) (E e ∷ [])
    extend-last e = block_last (E e) (extend-run e)

    extend-then : (e : ℕ) {c : ℕ} {h l : K.End} (bs : List Block) → K.Step (suc n) c (ext (end (suc e) f g)) h → Blocks 0 h l bs
        → Blocks c (ext (end e f g)) l (E e ∷ bs)
    extend-then e bs st rest = block-then (E e) bs (extend-run e) st rest (omega arith)

    -- (b), and (a) for n = 1
    pub relation-b : Blocks 0 (ext f) (ext g) (E 0 ∷ [])
    unfolding odd
    relation-b = extend-last 0

  -- where L starts and ends at the same row
  module _ {f : K.End} (run : Run K n x f f L) where
    -- (a), n = 3
    pub relation-a3 : 2 ≤ n → Blocks 0 (ins 1 f) (ins 2 f) (I 1 0 ∷ I 2 0 ∷ [])
    unfolding odd
    relation-a3 l = insert-then run 1 0 _ (omega arith) (K.step-position f 1 2 (omega arith)) (insert-last run 2 0 (omega arith))

    -- I(p,L), then I(i,L) for c positions i from a down, then blocks that start at I(q,L)
    falling-then : (c a p q : ℕ) {l : K.End} (bs : List Block)
        → (c < a) × (a < p) × (p ≤ n) × (a < q) × (q ≤ n) × (p ≡ q → ⊥)
        → Blocks 0 (ins q f) l bs → Blocks 0 (ins p f) l (I p 0 ∷ (falling (λ i. I i 0) a c ++ bs))
    unfolding odd falling
    falling-then zero a p q bs h rest = insert-then run p 0 _ (omega arith) (K.step-position f p q (omega arith)) rest
    falling-then (suc c) a p q bs h rest =
        insert-then run p 0 _ (omega arith) (K.step-position f p a (omega arith)) (falling-then c (a - 1) a q bs (omega arith) rest)

    module _ {f' g' : K.End} (run' : Run K n y f' g' M) where
      -- (c), n = 3
      pub relation-c3 : 2 ≤ n → K.Step (suc n) 0 (ins 2 f) (ext f') → Blocks 0 (ins 1 f) (ext g') blocks_c3
      unfolding odd
      relation-c3 l st =
          insert-then run 1 0 _ (omega arith) (K.step-position f 1 2 (omega arith))
          (insert-then run 2 0 _ (omega arith) st
          (extend-last run' 0))

      -- (c), n ≥ 4
      pub relation-c : 3 ≤ n → K.Step (suc n) 0 (ins (n - 1) f) (ext g') → Blocks 0 (ins 1 f) (ext f') (blocks_c (suc n))
      unfolding odd
      relation-c l st =
          rw (less_one n, suc-sub-suc n 1, suc-sub-suc n 2)
          (insert-then run 1 0 _ (omega arith) (K.step-position f 1 n (omega arith))
          (falling-then (suc (n - 2) - 2) (n - 2) n (n - 1) _ (omega arith)
          (insert-then run (n - 1) 0 _ (omega arith) st
          (extend-last run' 1))))

  module _ {f g f' g' : K.End} (run : Run K n x f g L) (run' : Run K n y f' g' M) where
    -- (d)
    pub relation-d : 3 ≤ n → K.Step (suc n) 0 (ins n f) (ext f') → K.Step (suc n) 0 (ins n g) (ext f')
        → K.Step (suc n) 0 (ext g') (ins 2 g) → Blocks 0 (ins 1 f) (ins 2 f) (blocks_d (suc n))
    unfolding odd
    relation-d l from_First from_last back =
        rw (less_one n, suc_less n 3 (omega arith))
        (insert-then run 1 0 _ (omega arith) (K.step-position g 1 3 (omega arith))
        (blocks-then _ _ (rising-run run (n - 3) 3 n (omega arith)) (from_end (odd (suc n)))
        (extend-then run' 0 _ back
        (insert-last run 2 1 (omega arith)))))
      where
        from_end : (t : Bool) → K.Step (suc n) 0 (ins n (cond t g f)) (ext f')
        from_end true = from_last
        from_end false = from_First

    -- (e), where the step from E to I(k,·) may count
    pub relation-e : (k : ℕ) {c : ℕ} → (2 ≤ k) × (k + 2 ≤ n) → K.Step (suc n) 0 (ins 1 g) (ins n f)
        → K.Step (suc n) 0 (ins (suc k) (end k f g)) (ext (end k f' g'))
        → K.Step (suc n) c (ext (end (suc k) f' g')) (ins k (end (suc k) f g))
        → Blocks c (ins 1 f) (ins 2 f) (blocks_e (suc n) k)
    unfolding odd
    relation-e k h turn to-extend from-extend =
        rw (less_one n, add-one k, suc_less n (suc k) (omega arith), suc_less k 2 (omega arith))
        (insert-then run 1 0 _ (omega arith) (step_start run (omega arith) turn n)
        (blocks-then _ _ (falling-run run (λ i. i) (λ i j. end_back i f g (omega arith)) (n - suc k) n (suc k) (omega arith))
        (rw (not-not (odd k)) to-extend)
        (extend-then run' k _ (rw (← end_back k f g (omega arith)) from-extend)
        (falling-run run (λ i. i - 1) (λ i j. end_back (i - 1) f g (omega arith)) (k - 2) k 2 (omega arith)))))
