-- A block that is entered: what the list below is searched for, and what its search says of the list. Assumes nothing.
use mathlib.Core.Path.{◌≡◌, sym, ap, subst, ◌∙◌}
use Prim.Native.Nat.{ℕ, suc, ◌+◌, ◌-◌, ◌≤◌, ◌<◌}
use native.Mathlib.Omega.{arith}
use mathlib.Core.Bool.{Bool, true}
use mathlib.Core.List.{List}
use lib.ListN.{length, get_or, set}
use Rattle.std.proofs.Common.{Some, None}
use Rattle.stirling.specs.Count.{c}
use Rattle.gray.specs.Blocks.{blocks}
use Rattle.rank.specs.declared.Below.{Below}
use Rattle.find.specs.declared.Search.{Search}
use Rattle.find.specs.Search.{smaller, pattern_of, below_at, enters, Searchable, Searched}
use Rattle.find.proofs.Patterns.{pattern_below}
use Rattle.find.proofs.Searching.{Going, position_here, some_below, starts-below, found, missed, first_of, none_of, searched-found}

-- the next block, as the code counts it and its rows
pub counted-on : {n k : ℕ} {backward : Bool} {start : ℕ} {w : List ℕ} (number first : ℕ) {calls rows size : ℕ} → rows ≡ size
    → Going n k backward start w (suc number) (first + size) calls
    → Going n k backward start w (number + 1) (first + rows) calls
counted-on {n} {k} {backward} {start} {w} number first {calls} {rows} {size} e g =
    let last : suc number ≡ number + 1 = omega arith in
    subst (λ (j : ℕ). Going n k backward start w j (first + rows) calls) last
    (subst (λ (x : ℕ). Going n k backward start w (suc number) (first + x) calls) (sym e) g)

module _ {n k : ℕ} {backward : Bool} {start : ℕ} {w : List ℕ} {number first calls : ℕ} (h : 1 ≤ n) (z : n < length w)
    (g : Going n k backward start w number first calls) (l : number < length (blocks n k)) {here : Below} (e : here ≡ below_at n k backward number)
    (t : enters n here w ≡ true) (s : start < first + c (n - 1) here.cycles)
    {from : ℕ} (q : from ≡ start - first) {m : ℕ} (o : m ≡ n - 1) {rest : List ℕ} (f : rest ≡ set w here.position (get_or w n 0)) where
  -- the wishes that are left
  left : pattern_of (n - 1) rest ≡ smaller (n - 1) here.position (pattern_of n w)
  left =
      let (lx, ux) = position_here h z g l e in
      ap (pattern_of (n - 1)) f ∙ pattern_below n w here.position lx ux

  start-below : from < c (n - 1) here.cycles
  start-below = omega (arith, q, starts-below h z g l e t s)

  -- some row of the list below meets them
  pub searchable-below : Searchable m here.cycles from rest
  searchable-below = rw o (record { below = start-below; met = rw left (some_below h z g l e t) })

  module _ {r : Search} (b : Searched m here.cycles here.backward from rest r) where
    below : Searched (n - 1) here.cycles here.backward from rest r
    below = rw o at b

    pub row-below : {x : ℕ} → r.place ≡ Some x → x < c (n - 1) here.cycles
    row-below p = (first_of left (omega (arith, start-below)) below p).1

    -- a row of it is the first
    pub row-found : {x : ℕ} → r.place ≡ Some x → first + c (n - 1) here.cycles ≤ c n k
        → Searched n k backward start w (record { place = Some (first + x); calls = calls + r.calls })
    row-found {x} p most =
        let (inner, u) = first_of left (omega (arith, start-below)) below p in
        searched-found h g (found h z g l e t (rw q at inner) s u) u most below.few (λ y. below.straight (q ∙ y))

    -- or none is, and the search goes on
    pub nothing_found : r.place ≡ None → Going n k backward start w (suc number) (first + c (n - 1) here.cycles) (calls + r.calls)
    nothing_found p =
        let inner = none_of left (omega (arith, start-below)) below p in
        missed h z g l e t (rw q at inner) s r.calls (omega arith) (omega (arith, below.missed p, h))
