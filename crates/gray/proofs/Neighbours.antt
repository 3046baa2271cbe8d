-- Neighbours in S(n,k) differ by a product with a 3-cycle at three different positions; so do its last and first row. Assumes nothing.
use Prim.Native.Nat.{ℕ}
use Rattle.gray.specs.Order.{S}
use Rattle.gray.specs.Listing.{Neighbours, Closed}
use Rattle.gray.proofs.Step.{near}
use Rattle.gray.proofs.Functions.{functions, seams}
use Rattle.gray.proofs.Extent.{each-neighbour, last-first}

-- each row of S(n,k) is near the one before it
pub neighbours : (n k : ℕ) → Neighbours n (S n k)
neighbours n k = each-neighbour functions seams (λ c s t f g r q st. near r q st) k

-- and its first row is near its last, where there are two rows or more
pub closed : (n k : ℕ) → Closed n (S n k)
closed n k = last-first functions seams (λ c s t f g r q st. near r q st) k
