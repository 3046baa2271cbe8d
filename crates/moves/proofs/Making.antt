-- The moves of a list made one after another: what is left to say of a list where its first moves are made. Assumes nothing.
use mathlib.Core.Path.{◌≡◌, refl, sym, ap, ◌∙◌}
use Prim.Native.Nat.{ℕ, suc, ◌<◌}
use native.Mathlib.Omega.{arith}
use mathlib.Core.Bool.{Bool, true, false, ◌&&◌}
use mathlib.Core.List.{List, [], ◌∷◌, ◌++◌}
use lib.Dec.{ltb}
use lib.ListN.{length, get_or, length-set}
use borrow.Author.Tests.{lt-ltb, eq-eqb, ne_eqb}
use Rattle.perm.specs.Pairs.{pairs_in}
use Rattle.moves.specs.State.{State, moved, all_possible, after}

-- fewer than two bytes are no pair
pairs_few : (bytes : List ℕ) → length bytes < 2 → pairs_in bytes ≡ []
unfolding pairs_in
pairs_few [] h = refl
pairs_few (a ∷ []) h = refl
pairs_few (a ∷ b ∷ bytes) h = absurd (omega arith)

-- two are one
two : (x rest : List ℕ) → length x ≡ 2 → x ++ rest ≡ get_or x 0 0 ∷ get_or x 1 0 ∷ rest
two [] rest h = absurd (omega arith)
two (a ∷ []) rest h = absurd (omega arith)
two (a ∷ b ∷ []) rest h = refl
two (a ∷ b ∷ c ∷ x) rest h = absurd (omega arith)

-- a second test that fails
fails : (a b : Bool) → (a && false) && b ≡ false
fails true b = refl
fails false b = refl

-- the moves of a list before the bytes that are left are made: whether all are possible, and what then stands where, is what those say from here
pub record Making (list : List ℕ) (before : State) (t : State) (left : List ℕ) : Type 0 where
  pub inside : (i : ℕ) → i < length left → get_or left i 0 < length before
  pub size : length t ≡ length before
  pub all : all_possible before (pairs_in list) ≡ all_possible t (pairs_in left)
  pub end : after before (pairs_in list) ≡ after t (pairs_in left)

-- at first none are made
pub making_none : (list before : List ℕ) → ((i : ℕ) → i < length list → get_or list i 0 < length before) → Making list before before list
making_none list before h = record { inside = h; size = refl; all = refl; end = refl }

module _ {list before t left : List ℕ} (m : Making list before t left) where
  -- at last all are, and were possible
  pub making-all : length left < 2 → (true ≡ all_possible before (pairs_in list)) × (t ≡ after before (pairs_in list))
  unfolding all_possible after
  making-all h =
      let none : pairs_in left ≡ [] = pairs_few left h in
      (sym (m.all ∙ rw none), sym (m.end ∙ rw none))

  -- the next move, in two bytes
  module _ (x rest : List ℕ) (e : left ≡ x ++ rest) (l : length x ≡ 2) where
    next : left ≡ get_or x 0 0 ∷ get_or x 1 0 ∷ rest
    next = e ∙ two x rest l

    pair-next : pairs_in left ≡ (get_or x 0 0, get_or x 1 0) ∷ pairs_in rest
    unfolding pairs_in
    pair-next = rw next refl

    -- it is not possible: its first position is empty
    pub making-empty : get_or t (get_or x 0 0) 0 ≡ 0 → false ≡ all_possible before (pairs_in list)
    unfolding all_possible
    making-empty z = sym (m.all ∙ rw (pair-next, z))

    -- or its second is not
    pub making-occupied : (get_or t (get_or x 1 0) 0 ≡ 0 → ⊥) → false ≡ all_possible before (pairs_in list)
    unfolding all_possible
    making-occupied d = sym (m.all ∙ rw (pair-next, ne_eqb (get_or t (get_or x 1 0) 0) 0 d) (fails (ltb 0 (get_or t (get_or x 0 0) 0)) _))

    -- or it is made
    pub making-step : (get_or t (get_or x 0 0) 0 ≡ 0 → ⊥) → get_or t (get_or x 1 0) 0 ≡ 0 → Making list before (moved t (get_or x 0 0, get_or x 1 0)) rest
    unfolding all_possible after
    making-step d z = record {
      inside =
          λ i h. let longer : length left ≡ suc (suc (length rest)) = ap length next in
          let there : get_or left (suc (suc i)) 0 ≡ get_or rest i 0 = ap (λ (y : List ℕ). get_or y (suc (suc i)) 0) next in
          omega (arith, there, m.inside (suc (suc i)) (omega arith));
      size = simp length-set m.size;
      all = m.all ∙ rw (pair-next, lt-ltb 0 (get_or t (get_or x 0 0) 0) (omega arith), eq-eqb (get_or t (get_or x 1 0) 0) 0 z);
      end = m.end ∙ rw pair-next;
    }
