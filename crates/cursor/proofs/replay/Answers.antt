use mathlib.Core.Path.{◌≡◌, sym, ap, ◌∙◌}
use Prim.Native.Nat.{◌+◌}
use native.Mathlib.Omega.{arith}
use lib.ListN.{drop, get_or}
use Rattle.std.proofs.Common.{rules}
use Rattle.std.specs.Prelude.{Err}
use Rattle.stirling.proofs.Refusals.{number_some}
use Rattle.cursor.specs.Walk.{called, handed_back, decode, decoded}
use Rattle.cursor.proofs.Endings.{ending, ending-next, ending_last, ending-opened, replayed_refused, decoded-next, decoded_past}
use Rattle.cursor.proofs.Zeros.{cursor_zeros}
use Rattle.cursor.proofs.replay.Goals as goal

pub returns-in-Err : goal.returns-in-Err
returns-in-Err c =
    let a = c.args in
    let step = ap (λ w. handed_back w (Err c.in-Err.refusal)) (cursor_zeros c.default.result c.default.ensures) in
    let calls = decoded a.kinds.now a.places.now in
    c.handed_back.ensures
    ∙ step
    ∙ c.in-Err.ensures.step
    ∙ sym (replayed_refused a.opening calls (λ e. number_some c.in-Err.refusal (c.in-Err.ensures.refusal ∙ e)))

pub loop-t-preserved : goal.loop-t-preserved
loop-t-preserved c =
    let a = c.args in
    let l = c.loop-t in
    let kind = get_or a.kinds.now l.t 0 in
    let rest = decoded (drop (l.t + 1) a.kinds.now) (drop (l.t + 1) a.places.now) in
    let next = decoded-next a.kinds.now a.places.now l.t (omega arith) in
    let place : c.unwrap_or-place.result ≡ get_or a.places.now l.t 0 = search rules in
    let made = c.make_call-step.ensures ∙ ap (λ p. called l.step.cursor (decode kind p)) place in
    ap (λ step. ending step rest) made ∙ sym (ending-next l.step _ _) ∙ ap (ending l.step) (sym next) ∙ l.invariant

pub returns : goal.returns
returns c =
    let a = c.args in
    let l = c.loop-t in
    let none = decoded_past a.kinds.now (drop l.t a.places.now) l.t (omega arith) in
    let calls = decoded a.kinds.now a.places.now in
    sym (ending_last l.step)
    ∙ ap (ending l.step) (sym none)
    ∙ l.invariant
    ∙ ap (λ step. ending step calls) c.in-Ok.ensures.step
    ∙ ending-opened a.opening calls (sym c.in-Ok.ensures.refusal)
