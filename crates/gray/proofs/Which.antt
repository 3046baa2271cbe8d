-- Which relation gives S(n,k), with what that says of n and k: the one case analysis that all proofs go by. Assumes nothing.
use mathlib.Core.Path.{◌≡◌, refl}
use mathlib.Core.Logic.{◌⊎◌, inl, inr}
use Prim.Native.Nat.{ℕ, ◌+◌, ◌≤◌, ◌<◌}
use native.Mathlib.Omega.{arith}
use mathlib.Core.Bool.{Bool, true, false}
use lib.Dec.{eqb, ltb}
use borrow.Author.Tests.{eqb-true, eqb-false, ltb-true, ltb-false}
use Rattle.gray.specs.declared.Letter.{Letter}
use Rattle.gray.specs.declared.Letter.TheVariants.{Nothing as none, A as by_a, B as by_b, C as by_c, D as by_d, E as by_e}
use Rattle.gray.specs.Order.{letter}

-- the relation, and the n and k that it is for
pub data Which (n k : ℕ) : Type 0 where
  is_none : letter n k ≡ none → (k ≡ 0) ⊎ (n < k) → Which n k
  is-a : letter n k ≡ by_a → k ≡ 1 → 1 ≤ n → Which n k
  is_b : letter n k ≡ by_b → k ≡ n → 2 ≤ n → Which n k
  is_c : letter n k ≡ by_c → k + 1 ≡ n → 3 ≤ n → Which n k
  is-d : letter n k ≡ by_d → k + 2 ≡ n → 4 ≤ n → Which n k
  is-e : letter n k ≡ by_e → 2 ≤ k → k + 3 ≤ n → Which n k

-- by the outcomes of the tests in `letter`
by_tests : (n k : ℕ) (zero? more? one? all? but-one? but-two? : Bool)
    → eqb k 0 ≡ zero?
    → ltb n k ≡ more?
    → eqb k 1 ≡ one?
    → eqb k n ≡ all?
    → eqb (k + 1) n ≡ but-one?
    → eqb (k + 2) n ≡ but-two?
    → Which n k
unfolding letter
by_tests n k true m o a c d pz pm po pa pc pd = is_none (rw pz) (inl (eqb-true k 0 pz))
by_tests n k false true o a c d pz pm po pa pc pd = is_none (rw (pz, pm)) (inr (ltb-true n k pm))
by_tests n k false false true a c d pz pm po pa pc pd =
    is-a (rw (pz, pm, po)) (eqb-true k 1 po) (omega (arith, ltb-false n k pm, eqb-true k 1 po))
by_tests n k false false false true c d pz pm po pa pc pd =
    is_b (rw (pz, pm, po, pa)) (eqb-true k n pa) (omega (arith, eqb-false k 0 pz, eqb-false k 1 po, eqb-true k n pa))
by_tests n k false false false false true d pz pm po pa pc pd =
    is_c
    (rw (pz, pm, po, pa, pc))
    (eqb-true (k + 1) n pc)
    (omega (arith, eqb-false k 0 pz, eqb-false k 1 po, eqb-true (k + 1) n pc))
by_tests n k false false false false false true pz pm po pa pc pd =
    is-d
    (rw (pz, pm, po, pa, pc, pd))
    (eqb-true (k + 2) n pd)
    (omega (arith, eqb-false k 0 pz, eqb-false k 1 po, eqb-true (k + 2) n pd))
by_tests n k false false false false false false pz pm po pa pc pd =
    is-e
    (rw (pz, pm, po, pa, pc, pd))
    (omega (arith, eqb-false k 0 pz, eqb-false k 1 po))
    (omega (arith, ltb-false n k pm, eqb-false k n pa, eqb-false (k + 1) n pc, eqb-false (k + 2) n pd))

-- one of these applies
pub which : (n k : ℕ) → Which n k
which n k = by_tests n k (eqb k 0) (ltb n k) (eqb k 1) (eqb k n) (eqb (k + 1) n) (eqb (k + 2) n) refl refl refl refl refl refl

-- what a letter says of n and k, where the relation asks for it
abbrev pub Says : Letter → ℕ → ℕ → Type 0
Says none n k = Unit
Says by_a n k = Unit
Says by_b n k = Unit
Says by_c n k = 3 ≤ n
Says by_d n k = 4 ≤ n
Says by_e n k = (2 ≤ k) × (k + 3 ≤ n)

says : (n k : ℕ) → Which n k → Says (letter n k) n k
says n k (is_none e _) = rw e tt
says n k (is-a e _ _) = rw e tt
says n k (is_b e _ _) = rw e tt
says n k (is_c e _ h) = rw e h
says n k (is-d e _ h) = rw e h
says n k (is-e e h l) = rw e (h, l)

pub said : (n k : ℕ) {l : Letter} → letter n k ≡ l → Says l n k
said n k e = rw e at (says n k (which n k))
