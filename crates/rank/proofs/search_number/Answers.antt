-- `rank::search_number` meets its contract: a run of blocks of one size leads to the block, or to the one that extends, and then past that one a second run. Assumes nothing.
use mathlib.Core.Path.{◌≡◌, refl, ap, ◌∙◌}
use Prim.Native.Nat.{◌+◌, ◌<◌}
use native.Mathlib.Omega.{arith}
use lib.ListN.{length}
use Rattle.gray.specs.Blocks.{blocks}
use Rattle.rank.specs.declared.Stop.{Stop}
use Rattle.rank.specs.Search.{IsStop}
use Rattle.rank.proofs.Going.{extended_is, Going, stopped, begins, may-pass, goes_on}
use Rattle.rank.proofs.Runs.{may-run, runs_on}
use Rattle.rank.proofs.search_number.Goals.{After-pass, After-pass_run-before, Else-number-sizes}
use Rattle.rank.proofs.search_number.Goals as goal

-- where every search begins
abbrev first : Stop
first = record { number = 0; start = 0; additions = 0 }

-- else the number is behind the block that extends
beyond : (c : Else-number-sizes) → c.sizes_of-sizes.result.extension < length (blocks c.args.n c.args.k)
beyond c = omega (arith, c.if-number-sizes.false, c.requires.listed.1)

-- there the search stops for a moment, and its size is at hand
extends : (c : After-pass_run-before)
    → let a = c.args in
    IsStop a.n a.k a.backward c.pass_run-before.result × (c.pass_run-before.result.number ≡ c.sizes_of-sizes.result.extension)
extends c =
    let a = c.args in
    runs_on c.sizes_of-sizes.ensures c.requires.listed.0 (begins a.n a.k a.backward first refl refl refl) _ (omega arith) (omega (arith, c.if-number-sizes.false, c.requires.listed.1)) (λ i u v e. omega arith) c.pass_run-before.ensures

-- and goes on
goes : (c : After-pass) → let a = c.args in Going a.n a.k a.backward c.pass.result
goes c =
    let e : IsStop c.args.n c.args.k c.args.backward c.pass_run-before.result × (c.pass_run-before.result.number ≡ c.sizes_of-sizes.result.extension) =
    runs_on c.sizes_of-sizes.ensures c.requires.listed.0 (begins c.args.n c.args.k c.args.backward first refl refl refl) _ (omega arith) (omega (arith, c.if-number-sizes.false, c.requires.listed.1)) (λ i u v e. omega arith) c.pass_run-before.ensures in
    let (at, number) = e in
    rw c.pass.ensures (goes_on c.requires.listed.0 (stopped at) at.inside (extended_is c.sizes_of-sizes.ensures at.inside number))

past : (c : After-pass) → c.pass.result.number ≡ c.sizes_of-sizes.result.extension + 1
past c =
    let e : IsStop c.args.n c.args.k c.args.backward c.pass_run-before.result × (c.pass_run-before.result.number ≡ c.sizes_of-sizes.result.extension) =
    runs_on c.sizes_of-sizes.ensures c.requires.listed.0 (begins c.args.n c.args.k c.args.backward first refl refl refl) _ (omega arith) (omega (arith, c.if-number-sizes.false, c.requires.listed.1)) (λ i u v e. omega arith) c.pass_run-before.ensures in
    ap (λ (s : Stop). s.number) c.pass.ensures ∙ omega (arith, e.1)

pub pass_run-requires : goal.pass_run-requires
pass_run-requires c =
    let a = c.args in
    may-run c.sizes_of-sizes.ensures c.requires.listed.0 (begins a.n a.k a.backward first refl refl refl) a.number (omega arith) c.requires.listed.1 (λ i u v e. omega arith)

pub returns-then-number-sizes-clause-stop : goal.returns-then-number-sizes-clause-stop
returns-then-number-sizes-clause-stop c =
    let a = c.args in
    (
    runs_on c.sizes_of-sizes.ensures c.requires.listed.0 (begins a.n a.k a.backward first refl refl refl) a.number (omega arith) c.requires.listed.1 (λ i u v e. omega arith) c.pass_run.ensures).0

pub pass_run-before-requires : goal.pass_run-before-requires
pass_run-before-requires c =
    let a = c.args in
    may-run c.sizes_of-sizes.ensures c.requires.listed.0 (begins a.n a.k a.backward first refl refl refl) _ (omega arith) (beyond c) (λ i u v e. omega arith)

pub pass-requires : goal.pass-requires
pass-requires c =
    let (at, number) = extends c in
    may-pass c.requires.listed.0 (stopped at) at.inside (extended_is c.sizes_of-sizes.ensures at.inside number)

pub pass_run-requires-2 : goal.pass_run-requires-2
pass_run-requires-2 c =
    may-run c.sizes_of-sizes.ensures c.requires.listed.0 (goes c) c.args.number (omega (arith, past c, c.if-number-sizes.false)) c.requires.listed.1 (λ i u v q. omega (arith, past c))

pub returns-clause-stop : goal.returns-clause-stop
returns-clause-stop c =
    let p = past (goal.at.returns-clause-stop c).After-pass in
    (runs_on c.sizes_of-sizes.ensures c.requires.listed.0 (goes (goal.at.returns-clause-stop c).After-pass) c.args.number (omega (arith, c.if-number-sizes.false)) c.requires.listed.1 (λ i u v q. omega arith) c.pass_run-2.ensures).0
