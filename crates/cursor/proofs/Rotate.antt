-- The product s·⟨i,j,l⟩ at three different positions: its values, its other spellings and its inverse. Assumes nothing.
use mathlib.Core.Path.{◌≡◌, ◌∙◌, sym, ap}
use mathlib.Core.Logic.{◌≢◌}
use Prim.Native.Nat.{ℕ, ◌≤◌, ◌<◌}
use native.Mathlib.Omega.{arith}
use native.Mathlib.Decide.{ℕ_discrete, dec_lt}
use lib.ListN.{length, length-set}
use Rattle.perm.specs.Permutation.{at, put, rotate}
use Rattle.perm.proofs.Values.{same_at}
use Rattle.perm.proofs.Exchange.{at-put_same, at-put_other, put_comm}
use Rattle.gray.specs.Order.{Row}
use Rattle.gray.specs.Listing.{Positions, Near}

-- the three positions, counted from the next one round
turn-positions : {n i j l : ℕ} → Positions n i j l → Positions n j l i
turn-positions p = record { i_in = p.j_in; j_in = p.l_in; l_in = p.i_in; i_j = p.j_l; j_l = p.l_i; l_i = p.i_j }

-- the other way round
pub back_positions : {n i j l : ℕ} → Positions n i j l → Positions n i l j
back_positions p =
    record {
      i_in = p.i_in;
      j_in = p.l_in;
      l_in = p.j_in;
      i_j = λ e. p.l_i (sym e);
      j_l = λ e. p.j_l (sym e);
      l_i = λ e. p.i_j (sym e);
    }

-- a rotation keeps the length
pub length-rotate : (s : Row) (i j l : ℕ) → length (rotate s i j l) ≡ length s
unfolding rotate
length-rotate s i j l = rw (length-set, length-set, length-set)

-- two lists that agree at i, at j, at l and at the other positions agree at every position
by-position : {i j l : ℕ} (s t : Row) → at s i ≡ at t i → at s j ≡ at t j → at s l ≡ at t l
    → (x : ℕ) → (x ≢ i → x ≢ j → x ≢ l → at s x ≡ at t x) → at s x ≡ at t x
by-position {i} {j} {l} s t ei ej el x other = by-i (ℕ_discrete x i) (ℕ_discrete x j) (ℕ_discrete x l)
  where
    by-i : Dec (x ≡ i) → Dec (x ≡ j) → Dec (x ≡ l) → at s x ≡ at t x
    by-i (yes e) b d = rw e ei
    by-i (no a) (yes e) d = rw e ej
    by-i (no a) (no b) (yes e) = rw e el
    by-i (no a) (no b) (no d) = other a b d

module _ {n i j l : ℕ} (s : Row) (z : length s ≡ n) (p : Positions n i j l) where
  -- ⟨i,j,l⟩ is ⟨j,l,i⟩
  pub rotate-turn : rotate s i j l ≡ rotate s j l i
  unfolding rotate
  rotate-turn =
      ap (λ t. put t l (at s i)) (put_comm s i j (at s j) (at s l) p.i_in.0 p.j_in.0 p.i_j)
      ∙ put_comm (put s j (at s l)) i l (at s j) (at s i) p.i_in.0 p.l_in.0 (λ e. p.l_i (sym e))

  -- position l has the value of i
  at-rotate-l : at (rotate s i j l) l ≡ at s i
  unfolding rotate
  at-rotate-l = at-put_same (put (put s i (at s j)) j (at s l)) l (at s i) p.l_in.0 (rw (length-set, length-set) (omega (arith, p.l_in)))

  -- the other positions keep theirs
  pub at-rotate-other : (x : ℕ) → 1 ≤ x → x ≢ i → x ≢ j → x ≢ l → at (rotate s i j l) x ≡ at s x
  unfolding rotate
  at-rotate-other x h di dj dl =
      at-put_other (put (put s i (at s j)) j (at s l)) l x (at s i) p.l_in.0 h dl
      ∙ at-put_other (put s i (at s j)) j x (at s l) p.j_in.0 h dj
      ∙ at-put_other s i x (at s j) p.i_in.0 h di

-- position i has the value of j
pub at-rotate_i : {n i j l : ℕ} (s : Row) → length s ≡ n → Positions n i j l → at (rotate s i j l) i ≡ at s j
at-rotate_i s z p = rw (rotate-turn s z p) (at-rotate-l s z (turn-positions p))

-- position j has the value of l
pub at-rotate_j : {n i j l : ℕ} (s : Row) → length s ≡ n → Positions n i j l → at (rotate s i j l) j ≡ at s l
at-rotate_j s z p = rw (rotate-turn s z p) (at-rotate_i s z (turn-positions p))

-- ⟨i,l,j⟩ undoes ⟨i,j,l⟩
pub rotate_back : {n i j l : ℕ} (s : Row) → length s ≡ n → Positions n i j l → rotate (rotate s i j l) i l j ≡ s
rotate_back {n} {i} {j} {l} s z p =
    let t = rotate s i j l in
    let y : length t ≡ n = length-rotate s i j l ∙ z in
    let q = back_positions p in
    let at_i = at-rotate_i t y q ∙ at-rotate-l s z p in
    let at-l = at-rotate_j t y q ∙ at-rotate_j s z p in
    let at_j = at-rotate-l t y q ∙ at-rotate_i s z p in
    same_at (rotate t i l j) s (length-rotate t i l j ∙ length-rotate s i j l)
    (λ x h k.
    by-position (rotate t i l j) s at_i at_j at-l x
    (λ di dj dl. at-rotate-other t y q x h di dl dj ∙ at-rotate-other s z p x h di dj dl))

-- near rows have one length
pub near_length : {n : ℕ} {s t : Row} → Near n s t → length t ≡ length s
near_length {s = s} r = rw r.step (length-rotate s r.i r.j r.l)

-- being near goes both ways
pub near_back : {n : ℕ} {s t : Row} → length s ≡ n → Near n s t → Near n t s
near_back {s = s} z r =
    record {
      i = r.i;
      j = r.l;
      l = r.j;
      three = back_positions r.three;
      step = rw r.step (sym (rotate_back s z r.three));
    }

module _ {n : ℕ} {s t : Row} (z : length s ≡ n) where
  -- the same step by its three positions from the next one round
  abbrev near-turn : Near n s t → Near n s t
  near-turn r =
      record {
        i = r.j;
        j = r.l;
        l = r.i;
        three = turn-positions r.three;
        step = r.step ∙ rotate-turn s z r.three;
      }

  -- and from the smallest one on
  pub from-smallest : Near n s t → (r : Near n s t) × (r.i < r.j) × (r.i < r.l)
  from-smallest r = by_order r.three (dec_lt r.i r.j) (dec_lt r.i r.l) (dec_lt r.j r.l)
    where
      by_order : Positions n r.i r.j r.l → Dec (r.i < r.j) → Dec (r.i < r.l) → Dec (r.j < r.l)
          → (r : Near n s t) × (r.i < r.j) × (r.i < r.l)
      by_order p (yes a) (yes b) d = (r, a, b)
      by_order p (yes a) (no b) d = (near-turn (near-turn r), omega arith, omega arith)
      by_order p (no a) b (yes d) = (near-turn r, omega arith, omega arith)
      by_order p (no a) b (no d) = (near-turn (near-turn r), omega arith, omega arith)
