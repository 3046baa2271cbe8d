-- `sheet::Writer::sheet` meets its contract: the header and the four numbers, each with its end, are written one after the other. Assumes nothing.
use Prim.Native.Nat.{ℕ}
use mathlib.Core.Path.{refl, sym}
use mathlib.Core.List.{List, [], ◌∷◌, ◌++◌, append_assoc}
use Rattle.sheet.specs.Text.{SPACE, LF, header, decimal}
use Rattle.sheet.specs.Written.{Wrote}
use Rattle.sheet.specs.declared.Writer.{Writer}
use Rattle.sheet.proofs.Writing.{Left, left_all, left-next, left_none}
use Rattle.sheet.proofs.Writer.sheet.Goals as goal

-- where a number with its end is left, and what stands after it, the number is written and the rest is left
after : {u v w : Writer} {all : List ℕ} (x end : ℕ) (rest : List ℕ) → Left u all v (decimal x ++ (end ∷ rest)) → Wrote v (decimal x ++ (end ∷ [])) w
    → Left u all w rest
after x end rest l p = left-next (decimal x ++ (end ∷ [])) rest (sym (append_assoc (decimal x) (end ∷ []) rest)) l p

pub returns : goal.returns
returns c =
    let a = c.args.request in
    let from-m : List ℕ = decimal a.m ++ (LF ∷ []) in
    let from_place : List ℕ = decimal a.place ++ (SPACE ∷ from-m) in
    let from-k : List ℕ = decimal a.k ++ (SPACE ∷ from_place) in
    let line : List ℕ = decimal a.n ++ (SPACE ∷ from-k) in
    let headed = left-next header line refl (left_all c.requires) c.bytes.ensures in
    let n = after a.n SPACE from-k headed c.field.ensures in
    let k = after a.k SPACE from_place n c.field-2.ensures in
    let place = after a.place SPACE from-m k c.field-3.ensures in
    left_none refl (after a.m LF [] place c.field-4.ensures)
