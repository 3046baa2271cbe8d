-- Runs of permutations as functions on positions: the first and the last row of S(k+d,k), how they change from k to k+1, and the steps between them. Assumes nothing.
use mathlib.Core.Path.{◌≡◌, refl, sym, ap, ◌∙◌}
use Prim.Native.Nat.{ℕ, zero, suc, ◌+◌, ◌-◌, ◌≤◌, ◌<◌}
use native.Mathlib.Omega.{arith}
use mathlib.Core.Bool.{Bool, true, false, cond}
use Rattle.gray.specs.Order.{odd}
use Rattle.gray.proofs.Run.{Kind, end}
use Rattle.gray.proofs.Ends.{place, place_two, identity, first, last, first_next, last-next, last_one, Seams}
use Rattle.gray.proofs.Exchange.{◌·◌, same, swap, swap_sym, swap_apart, swap_round}
use Rattle.gray.proofs.Step.{Reads, Step, star, reads_none, reads_extend, reads_insert, step_back, step-extend, step-insert, step-position, step_twice}

-- the end of a row is the row as a function, and the steps count nothing of their own
abbrev pub functions : Kind
functions = record {
  End = ℕ → ℕ;
  Has = Reads;
  Step = λ n c f g. Step n f g;
  none = same;
  extended = λ n f. f;
  inserted = λ n i f. f · swap i n;
  has_one = λ r q. sym r.reads ∙ q.reads;
  has_none = reads_none;
  has_extend = reads_extend;
  has_insert = reads_insert;
  step_back = step_back;
  step-extend = step-extend;
  step-insert = step-insert;
  step-position = step-position;
  step_twice = step_twice;
}

-- (1,2,…,n) leaves every position alone
identity_same : (n : ℕ) → identity functions n ≡ same
unfolding identity
identity_same zero = refl
identity_same (suc n) = identity_same n

-- small cases, written out
first_one : (k : ℕ) → first functions k 1 ≡ swap 1 (suc k)
unfolding first
first_one k = first_next functions k 0 k (omega arith) ∙ ap (λ f. f · swap 1 (suc k)) (identity_same k)

first_two : (k : ℕ) → first functions k 2 ≡ swap 1 (suc k) · swap 1 (suc (suc k))
first_two k = first_next functions k 1 (suc k) (omega arith) ∙ ap (λ f. f · swap 1 (suc (suc k))) (first_one k)

last_suc : (j : ℕ) → 1 ≤ j → last functions (suc j) 1 ≡ swap 1 (suc j)
last_suc zero h = absurd (omega arith)
last_suc (suc i) h = last_one functions i ∙ first_one (suc i)

last_two : (k : ℕ) → last functions k 2 ≡ swap 1 (suc k) · swap 2 (suc (suc k))
unfolding place
last_two k = last-next functions k 0 (suc k) (omega arith) ∙ ap (λ f. f · swap 2 (suc (suc k))) (first_one k)

-- the first row of S(n,k) is that of S(n,k+1) with positions k + 1 and k + 2 exchanged, for n ≥ k + 2
first_less : (k d : ℕ) → 1 ≤ k → first functions k (suc (suc d)) ≡ first functions (suc k) (suc d) · swap (suc k) (suc (suc k))
first_less k zero h =
    first_two k
    ∙ sym (swap_round same 1 (suc (suc k)) (suc k) (omega arith))
    ∙ ap (λ w. swap 1 (suc (suc k)) · w) (swap_sym (suc (suc k)) (suc k))
    ∙ ap (λ f. f · swap (suc k) (suc (suc k))) (sym (first_one (suc k)))
first_less k (suc d) h =
    let n = k + suc (suc d) in
    first_next functions k (suc (suc d)) n refl
    ∙ ap (λ f. f · swap 1 (suc n)) (first_less k d h)
    ∙ swap_apart (first functions (suc k) (suc d)) (suc k) (suc (suc k)) 1 (suc n) (omega arith)
    ∙ ap (λ f. f · swap (suc k) (suc (suc k))) (sym (first_next functions (suc k) (suc d) n (omega arith)))

-- the same at the value n of the last rows
place_past : (γ : ℕ → ℕ) (k d n : ℕ) → 1 ≤ k → suc (suc k) < n
    → γ · swap (suc k) (suc (suc k)) · swap (place k (suc d)) n ≡ γ · swap 2 n · swap (suc k) (suc (suc k))
unfolding place
place_past γ zero d n h l = absurd (omega arith)
place_past γ (suc zero) d n h l = swap_round γ 2 3 n (omega arith)
place_past γ (suc (suc k)) d n h l =
    let e : 2 + (2 - suc (suc k)) ≡ 2 = omega arith in
    rw e (swap_apart γ (suc (suc (suc k))) (suc (suc (suc (suc k)))) 2 n (omega arith))

-- and so are the last rows, for n ≥ k + 3
last_less : (k d : ℕ) → 1 ≤ k → last functions k (suc (suc (suc d))) ≡ last functions (suc k) (suc (suc d)) · swap (suc k) (suc (suc k))
last_less k d h =
    let n = k + suc (suc d) in
    last-next functions k (suc d) n refl
    ∙ ap (λ f. f · swap (place k (suc d)) (suc n)) (first_less k d h)
    ∙ place_past (first functions (suc k) (suc d)) k d (suc n) h (omega arith)
    ∙ sym
    (ap (λ f. f · swap (suc k) (suc (suc k))) (last-next functions (suc k) d n (omega arith))
    ∙ ap (λ p. first functions (suc k) (suc d) · swap p (suc n) · swap (suc k) (suc (suc k))) (place_two (suc k) d (omega arith)))

-- either end of S(n,j) is that of S(n,k) with positions k and k + 1 exchanged, where k = j + 1 and n ≥ k + 2
either_less : (j d e : ℕ) → 1 ≤ j
    → end e (first functions j (suc (suc (suc d)))) (last functions j (suc (suc (suc d))))
    ≡ end e (first functions (suc j) (suc (suc d))) (last functions (suc j) (suc (suc d))) · swap (suc j) (suc (suc j))
either_less j d e h = go (odd e)
  where
    go : (t : Bool) → cond t (last functions j (suc (suc (suc d)))) (first functions j (suc (suc (suc d))))
        ≡ cond t (last functions (suc j) (suc (suc d))) (first functions (suc j) (suc (suc d))) · swap (suc j) (suc (suc j))
    go true = last_less j d h
    go false = first_less j (suc d) h

-- the steps between blocks
pub seams : Seams functions
seams = record {
  c_three = star same 2 3 1 (omega arith) (ap (λ f. f · swap 2 3) (identity_same 2)) (first_one 1 ∙ swap_sym 1 2);
  c_more = λ j h.
      star same (suc j) (suc (suc (suc j))) 1 (omega arith)
      (ap (λ f. f · swap (suc j) (suc (suc (suc j)))) (identity_same (suc (suc j))))
      (last_suc j h ∙ swap_sym 1 (suc j));
  d_first = λ j h.
      star (first functions (suc j) 1) (suc (suc j)) (suc (suc (suc j))) (suc j) (omega arith) refl
      (first_less j 0 h ∙ ap (λ w. first functions (suc j) 1 · w) (swap_sym (suc j) (suc (suc j))));
  d_last = λ j h.
      star (swap 1 (suc j)) (suc (suc j)) (suc (suc (suc j))) 1 (omega arith)
      (ap (λ f. f · swap (suc (suc j)) (suc (suc (suc j)))) (last_suc j h))
      (first_two j ∙ ap (λ w. swap 1 (suc j) · w) (swap_sym 1 (suc (suc j))));
  d_back = λ j h.
      star (swap 1 (suc j)) 2 (suc (suc j)) (suc (suc (suc j))) (omega arith) (last_two j)
      (ap (λ f. f · swap 2 (suc (suc (suc j)))) (last_suc j h));
  e_to = λ j d n h.
      star (end (suc j) (first functions (suc j) (suc (suc d))) (last functions (suc j) (suc (suc d)))) (suc (suc j)) (suc n) (suc j) (omega arith) refl
      (either_less j d (suc j) h.1
      ∙ ap (λ w. end (suc j) (first functions (suc j) (suc (suc d))) (last functions (suc j) (suc (suc d))) · w) (swap_sym (suc j) (suc (suc j))));
  e_from = λ j d n h.
      star (end (suc (suc j)) (first functions (suc j) (suc (suc d))) (last functions (suc j) (suc (suc d)))) (suc j) (suc (suc j)) (suc n) (omega arith)
      (either_less j d (suc (suc j)) h.1) refl;
  ring_one = λ j h. star same 1 (suc j) (suc (suc j)) (omega arith) (last_suc j h) (first_one (suc j));
}
