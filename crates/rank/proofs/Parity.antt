-- A number is odd where its remainder by 2 is 1. Assumes nothing.
use mathlib.Core.Path.{◌≡◌, refl}
use Prim.Native.Nat.{ℕ, zero, suc, ◌%◌}
use native.Mathlib.Omega.{arith}
use mathlib.Core.Bool.{Bool, true, false, not}
use lib.Dec.{eqb}
use borrow.Author.Tests.{eq-eqb, ne_eqb, eqb-true, eqb-false}
use Rattle.gray.specs.Order.{odd}

turns : (e : ℕ) (b : Bool) → eqb (e % 2) 1 ≡ b → eqb (suc e % 2) 1 ≡ not b
turns e true t = let h = eqb-true (e % 2) 1 t in ne_eqb (suc e % 2) 1 (omega arith)
turns e false t = let h = eqb-false (e % 2) 1 t in eq-eqb (suc e % 2) 1 (omega arith)

pub odd_rem : (e : ℕ) → eqb (e % 2) 1 ≡ odd e
unfolding odd
odd_rem zero = refl
odd_rem (suc e) = turns e (odd e) (odd_rem e)
