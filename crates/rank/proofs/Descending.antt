-- Going down along a transposition array, size by size: its last entry is where the greatest value stands, and the entries before it are the array of the shorter
-- permutation. Assumes nothing.
use mathlib.Core.Path.{◌≡◌, refl, sym, ap, subst, ◌∙◌}
use Prim.Native.Nat.{ℕ, zero, suc, ◌+◌, ◌-◌, ◌≤◌, ◌<◌}
use native.Mathlib.Omega.{arith}
use mathlib.Core.Bool.{Bool, false}
use mathlib.Core.List.{List, [], ◌∷◌, ◌++◌, append_assoc, append-nil}
use lib.ListN.{length, get_or, take, set, replicate, length-append}
use Rattle.std.proofs.lemmas.List.{get_or_push}
use lib.Seq.{length-take-le, take-length, take-take, get_or-take, set_at, take-append_seam}
use Rattle.perm.specs.Array.{IsArray, product}
use Rattle.perm.proofs.Arrays.{product_permutation}
use Rattle.gray.specs.Order.{Row}
use Rattle.gray.specs.Blocks.{number_of}
use Rattle.gray.specs.Listing.{HasCycles}
use Rattle.rank.specs.declared.Step.{Step}
use Rattle.rank.specs.declared.Part.{Part}
use Rattle.rank.specs.declared.Sum.{Sum}
use Rattle.rank.specs.Search.{cycles_of, backward_of, turned, before, number_read, part_of}
use Rattle.rank.specs.Ranking.{Occurs, Rankable, PlaceIn}
use Rattle.rank.specs.Descent.{step, block_with, steps, passed, still, Additions}
use Rattle.rank.proofs.Without.{Cut, cut}
use Rattle.rank.proofs.Found.{found, left, more_placed}
use Rattle.rank.proofs.Passed.{enough, few_additions}
use Rattle.rank.proofs.Reading.{in_list, only-placed, one-size_passed}

-- the permutation of an array has the cycles that it is ranked by
of_cycles : {a : List ℕ} {k : ℕ} → Rankable a k → HasCycles (length a) k (product a)
of_cycles w = record { permutation = product_permutation w.array; count = w.count }

-- the permutation of the first m entries of an array, where these are rankable
module _ (a : List ℕ) {m k : ℕ} (h : m ≤ length a) (w : Rankable (take m a) k) where
  is_array : IsArray m (take m a)
  is_array = rw (length-take-le m a h) at w.array

  has-cycles : HasCycles m k (product (take m a))
  has-cycles = rw (length-take-le m a h) at (of_cycles w)

-- one entry less
module _ (a : List ℕ) {m k : ℕ} (h : suc m ≤ length a) (w : Rankable (take (suc m) a) k) where
  cut-here : Cut m (get_or a m 0) (take m a) (take (suc m) a)
  cut-here =
      rw (get_or-take (suc m) a m 0 (omega arith), take-take m (suc m) a (omega arith)) at (cut (is_array a h w))

  -- the steps from m + 1 down are that of m + 1 and those from m down
  one_less : (backward : Bool) → steps (suc m) k backward (product (take (suc m) a))
      ≡ step (suc m) k backward (get_or a m 0)
      ∷ steps m
      (cycles_of k (block_with (suc m) k (get_or a m 0)))
      (turned backward (backward_of (block_with (suc m) k (get_or a m 0))))
      (product (take m a))
  unfolding steps
  one_less backward = rw (cut-here.without.left, cut-here.without.here)

  -- so are the blocks passed
  one-passed : (backward : Bool) → passed (suc m) k backward (product (take (suc m) a))
      ≡ number_read (suc m) k backward (number_of (suc m) k (get_or a m 0))
      + passed m
      (cycles_of k (block_with (suc m) k (get_or a m 0)))
      (turned backward (backward_of (block_with (suc m) k (get_or a m 0))))
      (product (take m a))
  unfolding passed
  one-passed backward = rw (cut-here.without.left, cut-here.without.here)

  -- some block puts m + 1 where the last of the entries says
  occurs-here : Occurs (suc m) k (get_or a m 0)
  occurs-here =
      let n = length-take-le (suc m) a h in
      let listed = in_list (has-cycles a h w) in
      record {
        listed = record { small = omega (arith, n, w.small); cycles = (listed.0 (omega arith), listed.1) };
        inside = rw cut-here.without.here at (found (has-cycles a h w)).0;
      }

  -- and where the shorter permutation stands tells where it stands itself
  placed-here : (backward : Bool) (r : ℕ)
      → PlaceIn
      (turned backward (backward_of (block_with (suc m) k (get_or a m 0))))
      m
      (cycles_of k (block_with (suc m) k (get_or a m 0)))
      (product (take m a))
      r
      → PlaceIn backward (suc m) k (product (take (suc m) a))
      (before (suc m) k backward (number_read (suc m) k backward (number_of (suc m) k (get_or a m 0))) + r)
  placed-here backward r inner =
      rw cut-here.without.here at
      (more_placed backward (has-cycles a h w) r (rw (cut-here.without.left, cut-here.without.here) inner))

  -- and the entries before are rankable
  rankable-less : Rankable (take m a) (cycles_of k (block_with (suc m) k (get_or a m 0)))
  rankable-less =
      let e = length-take-le m a (omega arith) in
      record {
        small = omega (arith, e, w.small, length-take-le (suc m) a h);
        array = rw e cut-here.array;
        count = rw (cut-here.without.left, cut-here.without.here) at (left (has-cycles a h w)).count;
      }

-- what one size hands down to the next: the part that the entry names
abbrev pub named : List ℕ → ℕ → ℕ → Bool → Part
named a m k backward = part_of m k backward (number_of m k (get_or a (m - 1) 0))

-- the sizes above m are gone through, with so many additions: with those from m down they are all
pub record Along (a : List ℕ) (k : ℕ) (first : Bool) (additions cycles : ℕ) (backward : Bool) (m : ℕ) : Type 0 where
  pub inside : m ≤ length a
  pub rankable : Rankable (take m a) cycles
  pub added : additions + passed m cycles backward (product (take m a)) ≡ passed (length a) k first (product a)

pub none_along : (a : List ℕ) (k : ℕ) (first : Bool) → Rankable a k → Along a k first 0 k first (length a)
none_along a k first w = let all = take-length a in record { inside = omega arith; rankable = rw all w; added = rw all (omega arith) }

module _ {a : List ℕ} {k : ℕ} {first : Bool} {additions cycles : ℕ} {backward : Bool} where
  pub along-occurs : (m : ℕ) → 0 < m → Along a k first additions cycles backward m → Occurs m cycles (get_or a (m - 1) 0)
  along-occurs zero h d = absurd (omega arith)
  along-occurs (suc m) h d = let y : suc m - 1 ≡ m = omega arith in rw y (occurs-here a d.inside d.rankable)

  -- one size more
  pub next-along : (m : ℕ) → 0 < m → Along a k first additions cycles backward m
      → Along a k first
      (additions + (named a m cycles backward).additions)
      (named a m cycles backward).below.cycles
      (named a m cycles backward).below.backward
      (m - 1)
  next-along zero h d = absurd (omega arith)
  next-along (suc m) h d =
      let y : suc m - 1 ≡ m = omega arith in
      rw y
      (record {
        inside = omega (arith, d.inside);
        rankable = rankable-less a d.inside d.rankable;
        added = omega (arith, d.added, one-passed a d.inside d.rankable backward);
      })

  -- where the shorter permutation stands tells where it stands itself
  pub along-placed : (m : ℕ) → 0 < m → Along a k first additions cycles backward m
      → (r : ℕ)
      → PlaceIn (named a m cycles backward).below.backward (m - 1) (named a m cycles backward).below.cycles (product (take (m - 1) a)) r
      → PlaceIn backward m cycles (product (take m a)) ((named a m cycles backward).start + r)
  along-placed zero h d r inner = absurd (omega arith)
  along-placed (suc m) h d r inner =
      let y : suc m - 1 ≡ m = omega arith in
      rw y (placed-here a d.inside d.rankable backward r (rw y at inner))

  -- the additions so far are few
  pub few-along : {m : ℕ} → Rankable a k → Along a k first additions cycles backward m → additions ≤ 190
  few-along w d = omega (arith, d.added, few_additions (length a) _ w.small (enough (length a) k first _ (of_cycles w)))

  -- and where no block is left to pass, they are all
  pub all-along : {m : ℕ} → Rankable a k → Along a k first additions cycles backward m → passed m cycles backward (product (take m a)) ≡ 0
      → Additions (length a) k first (product a) additions
  all-along w d none =
      let all : additions ≡ passed (length a) k first (product a) = omega (arith, d.added) in
      record { counted = all; enough = rw all (enough (length a) k first _ (of_cycles w)) }

-- of the first m entries, read from the last on: the one that is read is entry m, and those that are left are the first m - 1
pub last-read : (a : List ℕ) (m : ℕ) {rest left : List ℕ} {x : ℕ} → m ≤ length a → rest ≡ take m a → rest ≡ left ++ (x ∷ [])
    → (0 < m) × (left ≡ take (m - 1) a) × (x ≡ get_or a (m - 1) 0)
last-read a m {rest} {left} {x} h e p =
    let size : length left + 1 ≡ m = omega (arith, ap length (sym p ∙ e), length-take-le m a h, length-append left (x ∷ [])) in
    let less : m - 1 ≡ length left = omega (arith, size) in
    rw less (
      omega (arith, size),
      sym (take-append_seam left (x ∷ [])) ∙ ap (take (length left)) (sym p ∙ e) ∙ take-take (length left) m a (omega (arith, size)),
      sym (get_or_push left x 0 (length left) refl) ∙ ap (λ (l : List ℕ). get_or l (length left) 0) (sym p ∙ e) ∙ get_or-take m a (length left) 0 (omega (arith, size)),
    )

pub none_passed : (cycles : ℕ) (backward : Bool) (s : Row) → passed 0 cycles backward s ≡ 0
unfolding passed
none_passed cycles backward s = refl

-- the steps of the permutation of an array
abbrev steps_of : List ℕ → ℕ → List Step
steps_of a k = steps (length a) k false (product a)

-- the steps of the sizes above m stand in front of steps of zeros, and with the steps from m down they are all
pub record Down (a : List ℕ) (k : ℕ) (path : List Step) (cycles : ℕ) (backward : Bool) (m : ℕ) : Type 0 where
  pub done : List Step
  pub size : length done + m ≡ length a
  pub front : path ≡ done ++ replicate (m + (20 - length a)) still
  pub rest : done ++ steps m cycles backward (product (take m a)) ≡ steps_of a k

-- at first none is done
pub none_done : (a : List ℕ) (k : ℕ) → Rankable a k → Down a k (replicate 20 still) k false (length a)
none_done a k w =
    let e : length a + (20 - length a) ≡ 20 = omega (arith, w.small) in
    record { done = []; size = omega arith; front = rw e; rest = rw (take-length a) }

-- the step of the part that the entry names
abbrev pub step_of : ℕ → Bool → Part → Step
step_of cycles backward p = record { cycles = cycles; backward = backward; block = p.block; before = p.start }

-- one size more
one-done : {a : List ℕ} {k : ℕ} {first : Bool} {additions : ℕ} {path : List Step} {cycles : ℕ} {backward : Bool} {m : ℕ}
    → Along a k first additions cycles backward (suc m)
    → Down a k path cycles backward (suc m)
    → Down a k
    (set path (length a - suc m) (step (suc m) cycles backward (get_or a m 0)))
    (cycles_of cycles (block_with (suc m) cycles (get_or a m 0)))
    (turned backward (backward_of (block_with (suc m) cycles (get_or a m 0))))
    m
one-done {a} {path = path} {cycles} {backward} {m} w d =
    let new = step (suc m) cycles backward (get_or a m 0) in
    let zeros : suc m + (20 - length a) ≡ suc (m + (20 - length a)) = omega arith in
    let at : length d.done ≡ length a - suc m = omega (arith, d.size) in
    record {
      done = d.done ++ (new ∷ []);
      size = omega (arith, d.size, length-append d.done (new ∷ []));
      front =
          ap (λ (l : List Step). set l (length a - suc m) new) (d.front ∙ ap (λ (x : ℕ). d.done ++ replicate x still) zeros)
          ∙ set_at d.done still (replicate (m + (20 - length a)) still) new (length a - suc m) at
          ∙ sym (append_assoc d.done (new ∷ []) (replicate (m + (20 - length a)) still));
      rest =
          append_assoc d.done (new ∷ []) _
          ∙ ap (λ (l : List Step). d.done ++ l) (sym (one_less a w.inside w.rankable backward))
          ∙ d.rest;
    }

-- where m is at least 1
pub next-done : {a : List ℕ} {k : ℕ} {first : Bool} {additions : ℕ} {path : List Step} {cycles : ℕ} {backward : Bool} (m : ℕ)
    → 0 < m
    → Along a k first additions cycles backward m
    → Down a k path cycles backward m
    → Down a k
    (set path (length a - m) (step_of cycles backward (named a m cycles backward)))
    (named a m cycles backward).below.cycles
    (named a m cycles backward).below.backward
    (m - 1)
next-done zero h w d = absurd (omega arith)
next-done (suc m) h w d = let y : suc m - 1 ≡ m = omega arith in rw y (one-done w d)

-- at last all are
pub all_done : {a : List ℕ} {k : ℕ} {path : List Step} {cycles : ℕ} {backward : Bool} → Down a k path cycles backward 0
    → path ≡ steps_of a k ++ replicate (20 - length a) still
unfolding steps
all_done {a} d =
    let zeros : 0 + (20 - length a) ≡ 20 - length a = omega arith in
    d.front
    ∙ ap (λ (x : ℕ). d.done ++ replicate x still) zeros
    ∙ ap (λ (l : List Step). l ++ replicate (20 - length a) still) (sym (append-nil d.done) ∙ d.rest)

-- for all entries: the last one names a part, and those before it are an array for the list below
module _ {a : List ℕ} {k : ℕ} (w : Rankable a k) (h : 0 < length a) (backward : Bool) where
  abbrev last-named : Part
  last-named = named a (length a) k backward

  pub last-occurs : Occurs (length a) k (get_or a (length a - 1) 0)
  last-occurs = along-occurs (length a) h (none_along a k backward w)

  pub last-rankable : Rankable (take (length a - 1) a) last-named.below.cycles
  last-rankable = (next-along (length a) h (none_along a k backward w)).rankable

  -- the blocks passed are those of the part, and those passed below
  pub last-passed : last-named.additions + passed (length a - 1) last-named.below.cycles last-named.below.backward (product (take (length a - 1) a))
      ≡ passed (length a) k backward (product a)
  last-passed = omega (arith, (next-along (length a) h (none_along a k backward w)).added)

  -- and the place is the part's start, and the place below
  pub last-placed : (r : ℕ) → PlaceIn last-named.below.backward (length a - 1) last-named.below.cycles (product (take (length a - 1) a)) r
      → PlaceIn backward (length a) k (product a) (last-named.start + r)
  last-placed r inner = rw (take-length a) at (along-placed (length a) h (none_along a k backward w) r inner)

-- so what is found below gives what is sought
pub ranked : {a : List ℕ} {k : ℕ} (w : Rankable a k) (h : 0 < length a) (backward : Bool) {p : Part} {starts additions : ℕ}
    → p ≡ named a (length a) k backward
    → PlaceIn p.below.backward (length a - 1) p.below.cycles (product (take (length a - 1) a)) starts
    → additions ≡ passed (length a - 1) p.below.cycles p.below.backward (product (take (length a - 1) a))
    → PlaceIn backward (length a) k (product a) (p.start + starts)
    × Additions (length a) k backward (product a) (p.additions + additions)
ranked {a} {k} w h backward {p} {starts} {additions} e place count =
    let counted : p.additions + additions ≡ passed (length a) k backward (product a) =
    rw count
    (rw e (last-passed w h backward)) in (
      subst (λ (q : Part). PlaceIn q.below.backward (length a - 1) q.below.cycles (product (take (length a - 1) a)) starts
          → PlaceIn backward (length a) k (product a) (q.start + starts)) (sym e) (last-placed w h backward starts) place,
      record { counted = counted; enough = rw counted (enough (length a) k backward _ (of_cycles w)) },
    )

-- what is found below, in the reading that the part says
pub from-below : (a : List ℕ) (p : Part) {b : Bool} {below r : Sum} → 0 < length a → p.below.backward ≡ b → below ≡ r
    → PlaceIn b (length (take (length a - 1) a)) p.below.cycles (product (take (length a - 1) a)) r.starts
    × Additions (length (take (length a - 1) a)) p.below.cycles b (product (take (length a - 1) a)) r.additions
    → PlaceIn p.below.backward (length a - 1) p.below.cycles (product (take (length a - 1) a)) below.starts
    × (below.additions ≡ passed (length a - 1) p.below.cycles p.below.backward (product (take (length a - 1) a)))
from-below a p h e f found =
    let size = length-take-le (length a - 1) a (omega arith) in
    (rw (e, f) (rw size at found.0), rw (e, f) (rw size at found.1.counted))

-- where k = n no block is passed, and the identity stands at place 0
pub only_ranked : {a : List ℕ} {k : ℕ} → Rankable a k → (backward : Bool) → length a ≡ k
    → PlaceIn backward (length a) k (product a) 0 × Additions (length a) k backward (product a) 0
only_ranked {a} {k} w backward e =
    let is = of_cycles w in (
      only-placed backward e is,
      record { counted = sym (one-size_passed (length a) k backward _ (omega arith) is); enough = omega arith },
    )

-- where k is not n there is an entry
pub some_entry : {a : List ℕ} {k : ℕ} → Rankable a k → (length a ≡ k → ⊥) → 0 < length a
some_entry {a} {k} w o = let other : ¬ (length a ≡ k) = o in omega (arith, (in_list (of_cycles w)).1)
