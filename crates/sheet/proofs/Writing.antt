-- Writing one text after another: where each write ends, what is left to write, and that there is room. Assumes nothing.
use Prim.Native.Nat.{ℕ, suc, ◌+◌, ◌≤◌}
use native.Mathlib.Nat.{add-zero}
use native.Mathlib.Omega.{arith}
use mathlib.Core.Path.{◌≡◌, refl, sym, ap, ◌∙◌}
use mathlib.Core.List.{List, [], ◌∷◌, ◌++◌, append_assoc, append-nil}
use lib.ListN.{length, take, drop, set, length-append}
use lib.Seq.{drop-drop, sets, sets-eq, length-sets}
use Rattle.sheet.specs.Written.{Room, Wrote}
use Rattle.sheet.specs.declared.Writer.{Writer}

-- a run of stores, in two parts
sets-append : (xs ys d : List ℕ) (i : ℕ) → sets d i (xs ++ ys) ≡ sets (sets d i xs) (i + length xs) ys
sets-append [] ys d i = rw (add-zero i)
sets-append (x ∷ xs) ys d i =
    let e : i + suc (length xs) ≡ suc i + length xs = omega arith in
    rw e (sets-append xs ys (set d i x) (suc i))

-- a copy into the part from an index on is such a run
pub copied : (d : List ℕ) (i : ℕ) (bytes : List ℕ) → i + length bytes ≤ length d → take i d ++ (bytes ++ drop (length bytes) (drop i d)) ≡ sets d i bytes
copied d i bytes h =
    rw drop-drop (sym (append_assoc (take i d) bytes (drop (i + length bytes) d)) ∙ sym (sets-eq bytes d i h))

-- such a run into the slice of a writer is what it writes
pub stored : {v w : Writer} (xs : List ℕ) → w.out.ghost_name ≡ v.out.ghost_name → w.at ≡ v.at + length xs → w.out.now ≡ sets v.out.now v.at xs → Wrote v xs w
stored {v} xs same end bytes = record { same_slice = same; end = end; size = ap length bytes ∙ length-sets v.out.now v.at xs; bytes = bytes }

-- nothing is written at first
nothing : (w : Writer) → Wrote w [] w
nothing w = stored [] refl (sym (add-zero w.at)) refl

-- two texts, one after the other, are written as one
pub both : {u v w : Writer} (xs ys : List ℕ) → Wrote u xs v → Wrote v ys w → Wrote u (xs ++ ys) w
both {u} xs ys p q =
    stored (xs ++ ys) (q.same_slice ∙ p.same_slice)
    (simp length-append (omega (arith, p.end, q.end)))
    (q.bytes ∙ rw (p.bytes, p.end) (sym (sets-append xs ys u.out.now u.at)))

-- and so are three
pub three : {t u v w : Writer} (xs ys zs : List ℕ) → Wrote t xs u → Wrote u ys v → Wrote v zs w → Wrote t (xs ++ (ys ++ zs)) w
three xs ys zs o p q = both xs (ys ++ zs) o (both ys zs p q)

-- where there is room for two texts, there is room for the first,
pub room_first : {w : Writer} (xs ys : List ℕ) → Room w (xs ++ ys) → Room w xs
room_first xs ys h = record { fits = omega (arith, simp length-append at h.fits) }

-- and for the second after it
pub room_second : {v w : Writer} (xs ys : List ℕ) → Room v (xs ++ ys) → Wrote v xs w → Room w ys
room_second xs ys h p = record { fits = omega (arith, simp length-append at h.fits, p.end, p.size) }

-- of all that a writer u is to write `rest` is left, where it is w: the first part is written, and there is room for the rest
pub record Left (u : Writer) (all : List ℕ) (w : Writer) (rest : List ℕ) : Type 0 where
  pub first : List ℕ
  pub whole : all ≡ first ++ rest
  pub wrote : Wrote u first w
  pub room : Room w rest

-- at first all is left
pub left_all : {w : Writer} {all : List ℕ} → Room w all → Left w all w all
left_all {w} h = record { first = []; whole = refl; wrote = nothing w; room = h }

-- where two texts are left, there is room for the first,
pub left_room : {u w : Writer} {all zs : List ℕ} (xs ys : List ℕ) → zs ≡ xs ++ ys → Left u all w zs → Room w xs
left_room xs ys z l = room_first xs ys (rw z at l.room)

-- and after it the second is left
pub left-next : {u v w : Writer} {all zs : List ℕ} (xs ys : List ℕ) → zs ≡ xs ++ ys → Left u all v zs → Wrote v xs w → Left u all w ys
left-next xs ys z l p = record {
  first = l.first ++ xs;
  whole = l.whole ∙ ap (λ t. l.first ++ t) z ∙ sym (append_assoc l.first xs ys);
  wrote = both l.first xs l.wrote p;
  room = room_second xs ys (rw z at l.room) p;
}

-- where nothing is left, all is written
pub left_none : {u w : Writer} {all xs : List ℕ} → xs ≡ [] → Left u all w xs → Wrote u all w
left_none n l = rw (l.whole, n, append-nil) l.wrote
