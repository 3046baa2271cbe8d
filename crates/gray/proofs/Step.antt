-- Rows read as functions on positions: E(γ) is γ, and I(i,γ) is γ·⟨i,n⟩. Two rows that are h·⟨a,b⟩ and h·⟨a,c⟩ are near. Assumes nothing.
use mathlib.Core.Path.{◌≡◌, refl, sym, ap, ◌∙◌, fun_ext}
use Prim.Native.Nat.{ℕ, zero, suc, ◌-◌, ◌≤◌, ◌<◌}
use native.Mathlib.Omega.{arith}
use native.Mathlib.Decide.{ℕ_discrete, dec_lt}
use mathlib.Core.List.{List, [], ◌∷◌, ◌++◌}
use lib.ListN.{length, get_or, set, length-append, length-set, get_or-append, get_or-eq_default}
use lib.Seq.{get_or_at, get_or-set_same, get_or-set_other, ext_get_or}
use Rattle.perm.specs.Permutation.{at, put, rotate, extend, insert}
use Rattle.gray.specs.Order.{Row}
use Rattle.gray.specs.Listing.{Positions, Near}
use Rattle.gray.proofs.Exchange.{◌·◌, same, swap, swap_left, swap_right, swap_other, swap_injective, swap_sym, swap_past, swap_apart, swap_round}
use Rattle.gray.proofs.Exchange.{Met, left, right, neither, met}

-- a row as a function that leaves 0 and the positions past its end alone
abbrev pub fn : Row → ℕ → ℕ
fn s x = get_or (0 ∷ s) x x

-- s is a row of n values, and f as a function
pub record Reads (n : ℕ) (s : Row) (f : ℕ → ℕ) : Type 0 where
  pub size : length s ≡ n
  pub reads : fn s ≡ f

-- within a list the default does not matter
get_or-within : (s : List ℕ) (y d e : ℕ) → y < length s → get_or s y d ≡ get_or s y e
get_or-within [] y d e h = omega arith
get_or-within (x ∷ s) zero d e h = refl
get_or-within (x ∷ s) (suc y) d e h = get_or-within s y d e (omega arith)

-- a row with one value more, at the new position and elsewhere
fn_new : (s : Row) (v n : ℕ) → length s ≡ n → fn (s ++ (v ∷ [])) (suc n) ≡ v
fn_new s v n e = get_or_at s v [] (suc n) n e

fn_old : (s : Row) (v n x : ℕ) → length s ≡ n → (x ≡ suc n → ⊥) → fn (s ++ (v ∷ [])) x ≡ fn s x
fn_old s v n zero e h = refl
fn_old s v n (suc y) e h = go (dec_lt y n)
  where
    go : Dec (y < n) → get_or (s ++ (v ∷ [])) y (suc y) ≡ get_or s y (suc y)
    go (yes l) = get_or-append s (v ∷ []) (suc y) y (omega arith)
    go (no l) =
        get_or-eq_default (s ++ (v ∷ [])) (suc y) (simp length-append (omega arith))
        ∙ sym (get_or-eq_default s (suc y) (omega arith))

-- past the end
fn_past : (s : Row) (n : ℕ) → length s ≡ n → fn s (suc n) ≡ suc n
fn_past s n e = get_or-eq_default s (suc n) (omega arith)

-- the row of nothing
pub reads_none : Reads 0 [] same
reads_none = record { size = refl; reads = fun_ext go }
  where
    go : (x : ℕ) → fn [] x ≡ x
    go zero = refl
    go (suc y) = refl

-- E(γ) is γ
pub reads_extend : {n : ℕ} {s : Row} {f : ℕ → ℕ} → Reads n s f → Reads (suc n) (extend (suc n) s) f
unfolding extend
reads_extend {n} {s} {f} r =
    record { size = length-append s (suc n ∷ []) ∙ omega arith; reads = fun_ext (λ x. go x (ℕ_discrete x (suc n))) ∙ r.reads }
  where
    go : (x : ℕ) → Dec (x ≡ suc n) → fn (s ++ (suc n ∷ [])) x ≡ fn s x
    go x (yes e) = rw e (fn_new s (suc n) n r.size ∙ sym (fn_past s n r.size))
    go x (no h) = fn_old s (suc n) n x r.size h

-- a row with v at position i + 1
fn-set : (s : Row) (i v x : ℕ) → (x ≡ suc i → ⊥) → fn (set s i v) x ≡ fn s x
fn-set s i v zero h = refl
fn-set s i v (suc y) h = get_or-set_other s i y v (suc y) (λ e. h (ap suc e))

-- value n at position i + 1, and what stood there at position n
fn-insert : (n i : ℕ) (s : Row) → length s ≡ n → i < n → fn (set s i (suc n) ++ (get_or s i 0 ∷ [])) ≡ fn s · swap (suc i) (suc n)
fn-insert n i s e h = fun_ext (λ x. go x (met (suc i) (suc n) x))
  where
    size : length (set s i (suc n)) ≡ n
    size = length-set s i (suc n) ∙ e

    go : (x : ℕ) → Met (suc i) (suc n) x → fn (set s i (suc n) ++ (get_or s i 0 ∷ [])) x ≡ fn s (swap (suc i) (suc n) x)
    go x (left q v) =
        rw (v, q)
        (fn_old (set s i (suc n)) (get_or s i 0) n (suc i) size (omega arith)
        ∙ get_or-set_same s i (suc n) (suc i) (omega arith)
        ∙ sym (fn_past s n e))
    go x (right q v) = rw (v, q) (fn_new (set s i (suc n)) (get_or s i 0) n size ∙ get_or-within s i 0 (suc i) (omega arith))
    go x (neither k l v) = rw v (fn_old (set s i (suc n)) (get_or s i 0) n x size l ∙ fn-set s i (suc n) x k)

-- I(i,γ) is γ·⟨i,n⟩
pub reads_insert : {n : ℕ} {s : Row} {f : ℕ → ℕ} (i : ℕ) → (1 ≤ i) × (i ≤ n) → Reads n s f
    → Reads (suc n) (insert (suc n) i s) (f · swap i (suc n))
unfolding insert
reads_insert zero h r = absurd (omega arith)
reads_insert {n} {s} {f} (suc i) h r =
    let e : suc i - 1 ≡ i = omega arith in
    let q : length (set s i (suc n)) ≡ n = length-set s i (suc n) ∙ r.size in
    rw e
    (record {
      size = length-append (set s i (suc n)) (get_or s i 0 ∷ []) ∙ omega arith;
      reads = fn-insert n i s r.size (omega arith) ∙ ap (λ g. g · swap (suc i) (suc n)) r.reads;
    })

-- the value at a position of the row
at_fn : (s : Row) (x : ℕ) → 1 ≤ x → x ≤ length s → at s x ≡ fn s x
at_fn s zero l h = absurd (omega arith)
at_fn s (suc y) l h = let e : suc y - 1 ≡ y = omega arith in rw e (get_or-within s y 0 (suc y) h)

-- a row with v at position i, at i and elsewhere
fn-put : (s : Row) (i v : ℕ) → 1 ≤ i → i ≤ length s → fn (put s i v) i ≡ v
fn-put s zero v l h = absurd (omega arith)
fn-put s (suc j) v l h = let e : suc j - 1 ≡ j = omega arith in rw e (get_or-set_same s j v (suc j) h)

fn-put_other : (s : Row) (i v x : ℕ) → 1 ≤ i → (x ≡ i → ⊥) → fn (put s i v) x ≡ fn s x
fn-put_other s zero v x l h = absurd (omega arith)
fn-put_other s (suc j) v x l h = let e : suc j - 1 ≡ j = omega arith in rw e (fn-set s j v x h)

-- two rows of one length are equal if they are one function
fn_one : (s t : Row) → length s ≡ length t → ((x : ℕ) → fn s x ≡ fn t x) → s ≡ t
fn_one s t e q =
    ext_get_or 0 s t e (λ y h. get_or-within s y 0 (suc y) h ∙ q (suc y) ∙ get_or-within t y (suc y) 0 (omega arith))

-- f and g are h·⟨a,b⟩ and h·⟨a,c⟩ for three different positions
pub record Step (n : ℕ) (f g : ℕ → ℕ) : Type 0 where
  pub h : ℕ → ℕ
  pub a : ℕ
  pub b : ℕ
  pub c : ℕ
  pub three : Positions n a b c
  pub from : f ≡ h · swap a b
  pub to : g ≡ h · swap a c

-- the same, by parts
pub star : {n : ℕ} {f g : ℕ → ℕ} (h : ℕ → ℕ) (a b c : ℕ) → Positions n a b c
    → f ≡ h · swap a b → g ≡ h · swap a c → Step n f g
star h a b c three from to = record { h = h; a = a; b = b; c = c; three = three; from = from; to = to }

-- such rows: the second is the first with its values at b, a and c gone round
module _
    {n : ℕ} {s t : Row} (h : ℕ → ℕ) (a b c : ℕ) (three : Positions n a b c)
    (rs : Reads n s (h · swap a b)) (rt : Reads n t (h · swap a c)) where
  value : (x : ℕ) → 1 ≤ x → x ≤ n → at s x ≡ h (swap a b x)
  value x l k = at_fn s x l (omega (arith, rs.size)) ∙ ap (λ g. g x) rs.reads

  -- s with its new values at b, then at a too
  abbrev one : Row
  one = put s b (at s a)

  abbrev two : Row
  two = put one a (at s c)

  length-one : length one ≡ n
  length-one = length-set s (b - 1) (at s a) ∙ rs.size

  length_two : length two ≡ n
  length_two = length-set one (a - 1) (at s c) ∙ length-one

  -- and at c, as `rotate` has it
  turned : (x : ℕ) → Met a c x → h (swap a c x) ≡ fn (put two c (at s b)) x
  turned x (left e v) =
      rw (v, e)
      (sym
      (fn-put_other two c (at s b) a (omega arith) (omega arith)
      ∙ fn-put one a (at s c) (omega arith) (omega (arith, length-one))
      ∙ value c (omega arith) (omega arith)
      ∙ ap h (swap_other a b c (omega arith) (omega arith))))
  turned x (right e v) =
      rw (v, e)
      (sym
      (fn-put two c (at s b) (omega arith) (omega (arith, length_two)) ∙ value b (omega arith) (omega arith) ∙ ap h (swap_right a b)))
  turned x (neither k l v) =
      rw v
      (sym
      (fn-put_other two c (at s b) x (omega arith) l ∙ fn-put_other one a (at s c) x (omega arith) k ∙ go (ℕ_discrete x b)))
    where
      go : Dec (x ≡ b) → fn one x ≡ h x
      go (yes e) = rw e (fn-put s b (at s a) (omega arith) (omega (arith, rs.size)) ∙ value a (omega arith) (omega arith) ∙ ap h (swap_left a b))
      go (no j) = fn-put_other s b (at s a) x (omega arith) j ∙ ap (λ g. g x) rs.reads ∙ ap h (swap_other a b x k j)

  rotated : t ≡ rotate s b a c
  unfolding rotate
  rotated =
      fn_one t (rotate s b a c) (rt.size ∙ sym (length-set two (c - 1) (at s b) ∙ length_two))
      (λ x. ap (λ g. g x) rt.reads ∙ turned x (met a c x))

-- rows a step apart are near
pub near : {n : ℕ} {s t : Row} {f g : ℕ → ℕ} → Reads n s f → Reads n t g → Step n f g → Near n s t
near r q st =
    record {
      i = st.b;
      j = st.a;
      l = st.c;
      three = omega (arith, st.three);
      step =
          rotated st.h st.a st.b st.c st.three
          (record { size = r.size; reads = r.reads ∙ st.from })
          (record { size = q.size; reads = q.reads ∙ st.to });
    }

-- a step backward
pub step_back : {n : ℕ} {f g : ℕ → ℕ} → Step n f g → Step n g f
step_back st = star st.h st.a st.c st.b (omega (arith, st.three)) st.to st.from

-- E(γ) keeps steps
pub step-extend : {n : ℕ} {f g : ℕ → ℕ} → Step n f g → Step (suc n) f g
step-extend st = star st.h st.a st.b st.c (omega (arith, st.three)) st.from st.to

-- ⟨i,n⟩ keeps the positions 1 to n
swap_in : (n i x : ℕ) → (1 ≤ i) × (i ≤ n) → (1 ≤ x) × (x ≤ n) → (1 ≤ swap i n x) × (swap i n x ≤ n)
swap_in n i x p q = go (met i n x)
  where
    go : Met i n x → (1 ≤ swap i n x) × (swap i n x ≤ n)
    go (left e v) = omega arith
    go (right e v) = omega arith
    go (neither k l v) = omega arith

swap_positions : (n i : ℕ) {a b c : ℕ} → (1 ≤ i) × (i ≤ n) → Positions n a b c → Positions n (swap i n a) (swap i n b) (swap i n c)
swap_positions n i {a} {b} {c} h p =
    record {
      i_in = swap_in n i a h p.i_in;
      j_in = swap_in n i b h p.j_in;
      l_in = swap_in n i c h p.l_in;
      i_j = λ e. p.i_j (swap_injective i n a b e);
      j_l = λ e. p.j_l (swap_injective i n b c e);
      l_i = λ e. p.l_i (swap_injective i n c a e);
    }

-- I(i,γ) keeps steps
pub step-insert : {n : ℕ} {f g : ℕ → ℕ} (i : ℕ) → (1 ≤ i) × (i ≤ n) → Step n f g
    → Step (suc n) (f · swap i (suc n)) (g · swap i (suc n))
step-insert {n} i h st =
    star (st.h · swap i (suc n)) (swap i (suc n) st.a) (swap i (suc n) st.b) (swap i (suc n) st.c)
    (swap_positions (suc n) i (omega arith) (omega (arith, st.three)))
    (ap (λ g. g · swap i (suc n)) st.from ∙ swap_past st.h st.a st.b i (suc n))
    (ap (λ g. g · swap i (suc n)) st.to ∙ swap_past st.h st.a st.c i (suc n))

-- from I(i,h) to I(j,h)
pub step-position : {n : ℕ} (h : ℕ → ℕ) (i j : ℕ) → Positions n n i j → Step n (h · swap i n) (h · swap j n)
step-position {n} h i j p = star h n i j p (ap (λ g. h · g) (swap_sym i n)) (ap (λ g. h · g) (swap_sym j n))

-- from I(p,I(a,γ)) to I(m,I(p,γ)), where the inner I puts in m and the outer n
pub step_twice : {n : ℕ} (γ : ℕ → ℕ) (a p m : ℕ) → Positions n m a p → (n ≡ a → ⊥) × (n ≡ p → ⊥) × (n ≡ m → ⊥)
    → Step n (γ · swap a m · swap p n) (γ · swap p m · swap m n)
step_twice {n} γ a p m t h =
    star (γ · swap p n) m a p t
    (swap_apart γ a m p n (omega arith) ∙ ap (λ g. γ · swap p n · g) (swap_sym a m))
    (swap_round γ p m n (omega arith) ∙ ap (λ g. γ · swap p n · g) (swap_sym p m))
