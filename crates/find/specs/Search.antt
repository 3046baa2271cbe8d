-- How the first row is found, going down the blocks. Only private contracts cite these. These are definitions; nothing is assumed.
use Rattle.std.specs.Prelude.{◌≡◌, ℕ, suc, ◌+◌, ◌-◌, ◌*◌, ◌≤◌, ◌<◌, Bool, true, cond, ◌&&◌, List, Option, None, Some, ltb, length, get_or, take, drop}
use Rattle.stirling.specs.Count.{c}
use Rattle.perm.specs.Lists.{some}
use Rattle.perm.specs.Permutation.{IsPartial, at, put}
use Rattle.gray.specs.declared.Block.TheVariants.{Extend as E}
use Rattle.gray.specs.Order.{Row, S}
use Rattle.rank.specs.declared.Below.{Below}
use Rattle.rank.specs.Search.{reading_of, blocks_read, below_block}
use Rattle.find.specs.declared.ByValue.{ByValue}
use Rattle.find.specs.declared.Search.{Search}
use Rattle.find.specs.Meeting.{granted, meets, least_from}
use Rattle.find.specs.Counting.{free}

-- wishes of m + 1 positions once value m + 1 stands at position x: without the last, whose wish position x has from now on
abbrev pub smaller : ℕ → ℕ → List ℕ → List ℕ
smaller m x w = take m (put w x (at w (suc m)))

-- the wishes of n positions, from a list that has the wish of position i at index i
abbrev pub pattern_of : ℕ → List ℕ → List ℕ
pattern_of n w = take n (drop 1 w)

-- of two such lists, each wish of the one is for a value up to n, and the other has at that value the position that wishes it
abbrev pub Points : ℕ → List ℕ → List ℕ → Type 0
Points n w p = (i : ℕ) → 1 ≤ i → i ≤ n → (get_or w i 0 ≡ 0 → ⊥) → (get_or w i 0 ≤ n) × (get_or p (get_or w i 0) 0 ≡ i)

-- the wishes by position, and the positions by wish
pub record Linked (n : ℕ) (w p : List ℕ) : Type 0 where
  pub values : Points n w p
  pub positions : Points n p w

-- the wishes of n positions by their values
pub record Sound (n : ℕ) (w : List ℕ) (r : ByValue) : Type 0 where
  pub linked : Linked n w r.positions
  pub counted : r.free ≡ free (pattern_of n w)

-- the same where the wishes are a partial permutation, and nothing where they are none
abbrev pub AreByValue : ℕ → List ℕ → Option ByValue → Type 0
AreByValue n w None = IsPartial n (pattern_of n w) → ⊥
AreByValue n w (Some r) = Sound n w r

-- what stands below the block with a number, counted as a reading of S(n,k) meets the blocks
abbrev pub below_at : ℕ → ℕ → Bool → ℕ → Below
below_at n k backward number = below_block n k backward (get_or (blocks_read n k backward) number (E 0))

-- some row of the block meets the wishes w of n positions: its value n is granted, and some shorter row meets what is left
abbrev pub enters : ℕ → Below → List ℕ → Bool
enters n below w = granted (get_or w below.position 0) n && some (meets (smaller (n - 1) below.position (pattern_of n w))) (S (n - 1) below.cycles)

-- a place of S(n,k) to start from, and wishes that some row of the list meets
pub record Searchable (n k start : ℕ) (w : List ℕ) : Type 0 where
  pub below : start < c n k
  pub met : some (meets (pattern_of n w)) (S n k) ≡ true

-- the least place from `start` on whose row passes the test, where one does
unfoldable pub place_found : (Row → Bool) → List Row → ℕ → Option ℕ
place_found p rows start = cond (ltb (least_from p rows start) (length rows)) (Some (least_from p rows start)) None

-- the first row from a place of a reading on, and how many lists were gone through: 2n + 1 at most, and n + 1 from place 0, or where none was found
pub record Searched (n k : ℕ) (backward : Bool) (start : ℕ) (w : List ℕ) (r : Search) : Type 0 where
  pub place : r.place ≡ place_found (meets (pattern_of n w)) (reading_of backward n k) start
  pub few : r.calls ≤ 2 * n + 1
  pub straight : start ≡ 0 → r.calls ≤ n + 1
  pub missed : r.place ≡ None → r.calls ≤ n + 1
