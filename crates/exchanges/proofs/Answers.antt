-- What the call for exchanges answers: its refusals, and the pairs that it finds from the entries of an array. Assumes nothing.
use mathlib.Core.Path.{◌≡◌, refl, sym, ap, ◌∙◌}
use Prim.Native.Nat.{ℕ, ◌*◌, ◌≤◌, ◌<◌}
use native.Mathlib.Omega.{arith}
use mathlib.Core.List.{List}
use lib.ListN.{length}
use borrow.Author.Tests.{lt-ltb, le-ltb}
use Rattle.stirling.proofs.Refusals.{then_passes, refuse_applies, refuse_passes}
use Rattle.perm.specs.Pairs.{front}
use Rattle.exchanges.specs.Between.{pairs_between, check_lengths, check_contents, check_room, check_between, Exchanged}

module _ (s t before : List ℕ) (fit : check_lengths (length s) (length t) ≡ 0) (passed : check_contents s t ≡ 0) {k : ℕ} (number : k ≡ length (pairs_between s t)) where
  -- all checks but the last pass
  past-contents : check_between s t (length before) ≡ check_room s t (length before)
  past-contents = then_passes _ _ (then_passes _ _ fit ∙ passed)

  -- the last 5, with zeros, and every byte stays
  pub refused-room : length before < 2 * k → Exchanged s t before (record { refusal = 5; count = 0; written = 0 }) before
  refused-room h = record {
    refusal = sym (past-contents ∙ refuse_applies _ 5 (lt-ltb _ _ (rw number at h)));
    count = λ z. omega arith;
    size = λ z. omega arith;
    written = λ z. absurd (omega arith);
    zeros = λ _. (refl, refl);
    kept = λ _. refl;
  }

  -- the pairs
  pub served : {after : List ℕ} → 2 * k ≤ length before → after ≡ front (pairs_between s t) before
      → Exchanged s t before (record { refusal = 0; count = k; written = 2 * k }) after
  served h e = record {
    refusal = sym (past-contents ∙ refuse_passes _ 5 (le-ltb _ _ (rw number at h)));
    count = λ _. number;
    size = λ _. ap (λ (m : ℕ). 2 * m) number;
    written = λ _. e;
    zeros = λ n. absurd (n refl);
    kept = λ n. absurd (n refl);
  }
