-- How many rows a subtree has, and the constant table of these sizes. These are definitions; nothing is assumed.
use Rattle.std.specs.Prelude.{◌≡◌, ℕ, zero, suc, ◌+◌, ◌-◌, ◌*◌, ◌/◌, ◌^◌, ◌≤◌, ◌<◌, List, length, get_or}
use Rattle.tree.specs.declared.Kind.{Kind}
use Rattle.tree.specs.declared.Kind.TheVariants.{Involution, Bell}

-- the positions that may be used below a child, of f: an involution's child uses one up, and a Bell permutation's none
abbrev pub usable_below : Kind → ℕ → ℕ
usable_below Involution f = f - 1
usable_below Bell f = f

-- with f positions that may be used and m that remain: T(f,0) = 1, T(f,m) = T(f+1,m−1) + f×T(f−1,m−1) for involutions, T(f+1,m−1) + f×T(f,m−1) for Bell permutations
unfoldable pub size : Kind → ℕ → ℕ → ℕ
size kind f zero = 1
size kind f (suc m) = size kind (suc f) m + f * size kind (usable_below kind f) m

-- where T(f,m) stands in a flat table for f + m up to 20: the sums rise, and with each sum f
abbrev pub index : ℕ → ℕ → ℕ
index f m = (f + m) * (f + m + 1) / 2 + f

-- such a table holds the sizes, and they fit 64 bits
pub record IsTable (kind : Kind) (sizes : List ℕ) : Type 0 where
  pub long : length sizes ≡ 231
  pub holds : (f m : ℕ) → f + m ≤ 20 → get_or sizes (index f m) 0 ≡ size kind f m
  pub fits : (f m : ℕ) → f + m ≤ 20 → size kind f m < 2 ^ 64
