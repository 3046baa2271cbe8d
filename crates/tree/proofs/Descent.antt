-- One step down the tree, as the searches make it: what stands after it, and which place of the smaller subtree is which of the larger. Assumes nothing.
use mathlib.Core.Path.{◌≡◌, refl, sym, ap, subst, ◌∙◌}
use Prim.Native.Nat.{ℕ, zero, suc, ◌+◌, ◌-◌, ◌*◌, ◌≤◌, ◌<◌}
use native.Mathlib.Omega.{arith}
use native.Mathlib.Nat.{mul-le-mul_right}
use native.Mathlib.Decide.{ℕ_discrete}
use mathlib.Core.Bool.{true}
use mathlib.Core.List.{List}
use lib.ListN.{length, get_or}
use Rattle.std.specs.List.{swap}
use Rattle.std.proofs.lemmas.List.Edits.{swap_is}
use Rattle.perm.specs.Permutation.{at, exchange}
use Rattle.perm.specs.Array.{partial, product}
use Rattle.perm.proofs.Tally.{tally-positions}
use Rattle.perm.proofs.Values.{at_suc}
use Rattle.perm.proofs.Exchange.{length-exchange, exchange_same}
use Rattle.perm.proofs.Arrays.{product-partial}
use Rattle.tree.specs.Kind.{rule_of, IsOf}
use Rattle.tree.specs.Listing.{row_at}
use Rattle.tree.specs.Sizes.{usable_below, size}
use Rattle.tree.specs.Search.{rows, count_usable, Settled, Stands, FallsTo, Leads}
use Rattle.tree.specs.declared.Kind.{Kind}
use Rattle.tree.proofs.Each.{row_inside}
use Rattle.tree.proofs.Settled.{settled_higher, child-settled}
use Rattle.tree.proofs.PerKind.{fits, count_child, count_behind}
use Rattle.tree.proofs.Places.{row-child, row-behind}

-- every subtree has a row
pub size_some : (kind : Kind) (f m : ℕ) → 0 < size kind f m
unfolding size
size_some kind f zero = omega arith
size_some kind f (suc m) = omega (arith, size_some kind (suc f) m)

-- the rows behind s and those of its children that exchange the next position
size_parts : (kind : Kind) (f m : ℕ) → 1 ≤ m → size kind f m ≡ size kind (suc f) (m - 1) + f * size kind (usable_below kind f) (m - 1)
unfolding size
size_parts kind f zero a = absurd (omega arith)
size_parts kind f (suc m) a = let y : suc m - 1 ≡ m = omega arith in rw y

-- and more than one only where a position remains
pub some_remain : (kind : Kind) (f m place : ℕ) → 1 ≤ place → place < size kind f m → 1 ≤ m
unfolding size
some_remain kind f zero place a u = absurd (omega arith)
some_remain kind f (suc m) place a u = omega arith

-- the library's swap of two indices is the exchange of their positions
pub swap-exchange : (s : List ℕ) (a h : ℕ) → 1 ≤ a → a ≤ length s → h < length s → swap s (a - 1) h ≡ exchange a (suc h) s
unfolding exchange
swap-exchange s a h u v w = let y : suc h - 1 ≡ h = omega arith in rw y (sym (swap_is s (a - 1) h 0 (omega arith) w))

-- the searches in the list of a kind
module _ (kind : Kind) where
  abbrev counted : List ℕ → ℕ → ℕ
  counted = count_usable kind

  abbrev rows_of : ℕ → ℕ → List ℕ → List (List ℕ)
  rows_of = rows (rule_of kind)

  -- how many rows a child's subtree has
  abbrev child_size : ℕ → ℕ → ℕ
  child_size f m = size kind (usable_below kind f) m

  -- no fewer of more positions may be used
  usable-more : (s : List ℕ) (k h : ℕ) → k ≤ h → counted s k ≤ counted s h
  usable-more s k zero u = let z : k ≡ 0 = omega arith in rw z (omega arith)
  usable-more s k (suc h) u = by_last (ℕ_discrete k (suc h)) (λ v. usable-more s k h v)
    where
      by_last : Dec (k ≡ suc h) → (k ≤ h → counted s k ≤ counted s h) → counted s k ≤ counted s (suc h)
      by_last (yes e) ih = rw e (omega arith)
      by_last (no d) ih = omega (arith, tally-positions (rule_of kind s) h, ih (omega arith))

  -- how a permutation stands, by n, h and the positions that remain
  stands : {n h m f : ℕ} {s : List ℕ} → n ≤ 20 → h + m ≡ n → Settled n h s → IsOf kind n s → f ≡ counted s h → Stands kind m f s
  stands {n} {h} {m} {f} {s} u e w k g =
      let z = w.count in
      let y : length s - m ≡ h = omega arith in
      record { small = omega arith; room = omega arith; settled = rw (y, z) w; of_kind = rw z k; usable = rw y g }

  -- A step: s is of the kind, with the positions above h settled, m + 1 of them, and f before them that may be used.
  record At (s : List ℕ) (n h m f : ℕ) : Type 0 where
    small : n ≤ 20
    all : h + suc m ≡ n
    settled : Settled n h s
    of_kind : IsOf kind n s
    usable : f ≡ counted s h

  at-stands : {m f : ℕ} {s : List ℕ} → Stands kind (suc m) f s → At s (length s) (length s - suc m) m f
  at-stands {m} {f} {s} w = record { small = w.small; all = omega (arith, w.room); settled = w.settled; of_kind = w.of_kind; usable = w.usable }

  module _ {s : List ℕ} {n h m f : ℕ} (w : At s n h m f) where
    -- in the subtree of a child one position less remains
    stands_child : (l : ℕ) → 1 ≤ l → l ≤ h → rule_of kind s l ≡ true → Stands kind m (usable_below kind f) (exchange l (suc h) s)
    stands_child l a b t =
        let room : h < n = omega (arith, w.all) in
        stands w.small (omega (arith, w.all)) (child-settled w.settled room l a (omega arith))
        ((fits kind n).child h l s w.of_kind w.settled room a b t)
        (rw w.usable (sym (count_child kind w.of_kind.permutation w.settled room l a b t)))

    -- and behind all children, where the next may be used too
    stands_behind : Stands kind m (suc f) s
    stands_behind =
        stands w.small (omega (arith, w.all)) (settled_higher (suc h) (omega arith) w.settled) w.of_kind
        (omega (arith, w.usable, count_behind kind w.settled (omega (arith, w.all))))

    -- the rows of a child's subtree stand behind s and those of the children before it
    inside_child : (l q : ℕ) → 1 ≤ l → l ≤ h → rule_of kind s l ≡ true → q < child_size f m → suc (counted s (l - 1) * child_size f m + q) < size kind f (suc m)
    unfolding size
    inside_child l q a b t u =
        omega (arith, row_inside (rule_of kind s) (child_size f m) h l q a b t u, ap (λ (y : ℕ). y * child_size f m) w.usable, size_some kind (suc f) m)

    row_child : (l q : ℕ) → 1 ≤ l → l ≤ h → rule_of kind s l ≡ true → q < child_size f m
        → row_at (rows_of h (suc m) s) (suc (counted s (l - 1) * child_size f m + q)) ≡ row_at (rows_of (suc h) m (exchange l (suc h) s)) q
    row_child l q a b t u = rw w.usable (row-child kind m w.of_kind.permutation w.settled w.all l q a b t (rw w.usable at u))

    -- and those behind all children, s itself not counted again, behind the rows of the children
    inside_behind : (q : ℕ) → q < size kind (suc f) m → counted s h * child_size f m + q < size kind f (suc m)
    unfolding size
    inside_behind q u = rw (← w.usable) (omega arith)

    row_behind : (q : ℕ) → 1 ≤ q → row_at (rows_of h (suc m) s) (counted s h * child_size f m + q) ≡ row_at (rows_of (suc h) m s) q
    row_behind zero a = absurd (omega arith)
    row_behind (suc q) a =
        let x : counted s h * child_size f m + suc q ≡ suc (counted s h * child_size f m + q) = omega arith in
        rw (x, w.usable) (row-behind kind m w.of_kind.permutation w.settled w.all q)

  -- The same by the number of positions that remain, as the searches have it.
  -- In the subtree of a child that exchanges l:
  pub record ToChild (m f l : ℕ) (s : List ℕ) (t : List ℕ) : Type 0 where
    pub stands : Stands kind (m - 1) (usable_below kind f) t
    pub inside : (q : ℕ) → q < child_size f (m - 1) → suc (counted s (l - 1) * child_size f (m - 1) + q) < size kind f m
    pub row : (q : ℕ) → q < child_size f (m - 1) → row_at (rows_of (length s - m) m s) (suc (counted s (l - 1) * child_size f (m - 1) + q)) ≡ row_at (rows_of (length t - (m - 1)) (m - 1) t) q

  -- Behind all children:
  pub record ToBehind (m f : ℕ) (s : List ℕ) : Type 0 where
    pub stands : Stands kind (m - 1) (suc f) s
    pub inside : (q : ℕ) → q < size kind (suc f) (m - 1) → counted s (length s - m) * child_size f (m - 1) + q < size kind f m
    pub row : (q : ℕ) → 1 ≤ q → row_at (rows_of (length s - m) m s) (counted s (length s - m) * child_size f (m - 1) + q) ≡ row_at (rows_of (length s - (m - 1)) (m - 1) s) q

  pub to_child : (m : ℕ) {f : ℕ} (l : ℕ) {s : List ℕ} → Stands kind m f s → 1 ≤ m → 1 ≤ l → l ≤ length s - m → rule_of kind s l ≡ true → ToChild m f l s (exchange l (suc (length s - m)) s)
  to_child zero l w some a b t = absurd (omega arith)
  to_child (suc m) {f} l {s} w some a b t =
      let h = length s - suc m in
      let y : suc m - 1 ≡ m = omega arith in
      let x = exchange l (suc h) s in
      let k : length x - m ≡ suc h = omega (arith, w.room, length-exchange l (suc h) s) in
      let here = at-stands w in
      record {
        stands = rw y (stands_child here l a b t);
        inside = rw y (λ q u. inside_child here l q a b t u);
        row = λ q u. subst (λ (z : ℕ). row_at (rows_of h (suc m) s) (suc (counted s (l - 1) * child_size f z + q)) ≡ row_at (rows_of (length x - z) z x) q) (sym y)
            (subst (λ (z : ℕ). row_at (rows_of h (suc m) s) (suc (counted s (l - 1) * child_size f m + q)) ≡ row_at (rows_of z m x) q) (sym k) (row_child here l q a b t (rw y at u)));
      }

  pub to_behind : (m : ℕ) {f : ℕ} {s : List ℕ} → Stands kind m f s → 1 ≤ m → ToBehind m f s
  to_behind zero w some = absurd (omega arith)
  to_behind (suc m) {f} {s} w some =
      let h = length s - suc m in
      let y : suc m - 1 ≡ m = omega arith in
      let k : length s - m ≡ suc h = omega (arith, w.room) in
      let here = at-stands w in
      record {
        stands = rw y (stands_behind here);
        inside = rw y (λ q u. inside_behind here q u);
        row = λ q a. subst (λ (z : ℕ). row_at (rows_of h (suc m) s) (counted s h * child_size f z + q) ≡ row_at (rows_of (length s - z) z s) q) (sym y)
            (subst (λ (z : ℕ). row_at (rows_of h (suc m) s) (counted s h * child_size f m + q) ≡ row_at (rows_of z m s) q) (sym k) (row_behind here q a));
      }

  -- A step to where a place lies, from s to t: f positions of t may be used, and the row at the place is the one at the place that is left.
  pub record Down (m place : ℕ) (s : List ℕ) (f left : ℕ) (t : List ℕ) : Type 0 where
    pub stands : Stands kind (m - 1) f t
    pub inside : left < size kind f (m - 1)
    pub row : row_at (rows_of (length s - m) m s) place ≡ row_at (rows_of (length t - (m - 1)) (m - 1) t) left

  -- where the place, without s itself, falls to a child
  pub down_child : (m : ℕ) {f place l left : ℕ} {s : List ℕ} → Stands kind m f s → 1 ≤ m → 1 ≤ place → FallsTo kind s (length s - m) (child_size f (m - 1)) (place - 1) l left
      → Down m place s (usable_below kind f) left (exchange l (suc (length s - m)) s)
  down_child m {f} {place} {l} {left} {s} w some a falls =
      let step = to_child m l w some falls.least falls.most falls.allowed in
      let p : place ≡ suc (counted s (l - 1) * child_size f (m - 1) + left) = omega (arith, falls.sum) in
      record { stands = step.stands; inside = falls.inside; row = rw p (step.row left falls.inside) }

  -- and behind them all, where s itself stands first again
  pub down_behind : (m : ℕ) {f place left : ℕ} {s : List ℕ} → Stands kind m f s → 1 ≤ m → 1 ≤ place → place < size kind f m
      → place - 1 ≡ counted s (length s - m) * child_size f (m - 1) + left → Down m place s (suc f) (suc left) s
  down_behind m {f} {place} {left} {s} w some a u e =
      let step = to_behind m w some in
      let p : place ≡ counted s (length s - m) * child_size f (m - 1) + suc left = omega arith in
      record { stands = step.stands; inside = omega (arith, size_parts kind f m some, ap (λ (y : ℕ). y * child_size f (m - 1)) w.usable); row = rw p (step.row (suc left) (omega arith)) }

  -- the next exchange of an array that leads to s leads on
  leads-next : {a s : List ℕ} {h : ℕ} → Leads kind a h s → Leads kind a (suc h) (exchange (at a (suc h)) (suc h) s)
  unfolding partial
  leads-next {a} {s} {h} v = record { array = v.array; here = ap (exchange (at a (suc h)) (suc h)) v.here; allowed = λ i b. v.allowed i (omega arith) }

  -- at the end it has led to its product
  pub leads-end : {a s : List ℕ} {h : ℕ} → h ≡ length a → Leads kind a h s → s ≡ product a
  leads-end {a} {s} {h} e v = sym v.here ∙ ap (partial (length a) a) e ∙ sym (product-partial a refl)

  -- at index n − m of the array stands what it exchanges
  module _ (m : ℕ) {f : ℕ} {a s : List ℕ} (w : Stands kind m f s) (some : 1 ≤ m) (e : length a ≡ length s) (v : Leads kind a (length s - m) s) where
    abbrev pub next : ℕ
    next = get_or a (length s - m) 0

    pub next-bound : (1 ≤ next) × (next ≤ suc (length s - m))
    next-bound = rw (at_suc a (length s - m)) at (v.array.bound (suc (length s - m)) (omega arith) (omega (arith, w.room)))

    leads-on : Leads kind a (suc (length s - m)) (exchange next (suc (length s - m)) s)
    leads-on = rw (at_suc a (length s - m)) at (leads-next v)

    -- a child, where the next index is swapped with that of the position named
    module _ (b : next ≤ length s - m) {t : List ℕ} (x : t ≡ swap s (next - 1) (length s - m)) where
      made : t ≡ exchange next (suc (length s - m)) s
      made = x ∙ swap-exchange s next (length s - m) next-bound.0 (omega arith) (omega (arith, w.room))

      pub next-child : ToChild m f next s t
      next-child =
          rw made
          (to_child m next w some next-bound.0 b (rw (v.here, at_suc a (length s - m)) at (v.allowed (length s - m) (omega arith) (omega (arith, w.room)) (rw (at_suc a (length s - m)) b))))

      pub child-long : length a ≡ length t
      child-long = rw (made, length-exchange next (suc (length s - m)) s) e

      pub leads-child : Leads kind a (length t - (m - 1)) t
      leads-child =
          let k : length t - (m - 1) ≡ suc (length s - m) = omega (arith, w.room, child-long) in
          rw (k, made) leads-on

    -- or none
    pub leads-behind : length s - m < next → Leads kind a (length s - (m - 1)) s
    leads-behind b =
        let z : next ≡ suc (length s - m) = omega (arith, next-bound) in
        let k : length s - (m - 1) ≡ suc (length s - m) = omega (arith, w.room) in
        rw k (rw (z, exchange_same (suc (length s - m)) s) at leads-on)

    -- the rows that are passed are among those of the subtree
    pub passed-most : counted s (next - 1) * child_size f (m - 1) ≤ size kind f m
    passed-most =
        let more = usable-more s (next - 1) (length s - m) (omega (arith, next-bound)) in
        let times : counted s (next - 1) * child_size f (m - 1) ≤ f * child_size f (m - 1) = mul-le-mul_right (child_size f (m - 1)) (omega (arith, w.usable)) in
        omega (arith, size_parts kind f m some)

-- a place among the rows of a branch, said of its numbers
pub same-branch : (kind : Kind) (s a : List ℕ) {m n f g place : ℕ} → m ≡ n → f ≡ g → (place < size kind f m) × (row_at (rows (rule_of kind) (length s - m) m s) place ≡ product a)
    → (place < size kind g n) × (row_at (rows (rule_of kind) (length s - n) n s) place ≡ product a)
same-branch kind s a {place = place} e f h =
    (rw (e, f) at h.0, subst (λ (m : ℕ). row_at (rows (rule_of kind) (length s - m) m s) place ≡ product a) e h.1)
