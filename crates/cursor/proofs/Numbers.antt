-- A check passes where it gives no refusal. Assumes nothing.
use mathlib.Core.Path.{◌≡◌, refl}
use mathlib.Core.Bool.{Bool, true, false, cond}
use Rattle.std.specs.Prelude.{Result, Ok, Err}
use Rattle.std.specs.Result.{is_err}
use Rattle.stirling.specs.Refusal.{refusal_in}
use Rattle.stirling.specs.declared.Refusal.{Refusal}
use Rattle.stirling.proofs.Refusals.{number_some}

-- so a check that is no error passes
pub no_error : {A : Type 0} (r : Result A Refusal) → is_err r ≡ false → refusal_in r ≡ 0
no_error (Ok answer) e = refl
no_error (Err refusal) e = absurd (cc)

-- and one that passes is no error
pub is_served : {A : Type 0} (r : Result A Refusal) → refusal_in r ≡ 0 → is_err r ≡ false
is_served (Ok answer) e = refl
is_served (Err refusal) e = absurd (number_some refusal e)

-- what gives an answer where a test passes and a refusal where it fails says which
pub gives_answer : {A : Type 0} (right : Bool) {x y : A} (refusal : Refusal) → Ok x ≡ cond right (Ok y) (Err refusal) → (right ≡ true) × (x ≡ y)
gives_answer true refusal e = (refl, cc)
gives_answer false refusal e = absurd (cc)

pub gives_refusal : {A : Type 0} (right : Bool) (y : A) {given refusal : Refusal} → Err given ≡ cond right (Ok y) (Err refusal) → (right ≡ false) × (given ≡ refusal)
gives_refusal true y e = absurd (cc)
gives_refusal false y e = (refl, cc)
