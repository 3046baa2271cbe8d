-- The tree with the rule that allows every l < j holds every permutation of n, each once. Assumes nothing.
use mathlib.Core.Path.{refl}
use Prim.Native.Nat.{ℕ}
use native.Mathlib.Omega.{arith}
use Rattle.perm.specs.Permutation.{IsPermutation}
use Rattle.tree.specs.Tree.{every, permutations}
use Rattle.tree.specs.Listing.{Holds}
use Rattle.tree.proofs.Settled.{identity_permutation, child-permutation}
use Rattle.tree.proofs.Once.{Fits, holds}

-- the permutations are a kind that it lists
permutations_fit : (n : ℕ) → Fits every n (IsPermutation n)
permutations_fit n = record {
  permutation = λ s p. p;
  identity = identity_permutation n;
  child = λ h l s p w u a b t. child-permutation w u l a (omega arith) p;
  parent = λ h l s p w u a b k. (p, refl);
}

-- every permutation of n exactly once
pub complete : (n : ℕ) → Holds (IsPermutation n) (permutations n)
complete n = holds (permutations_fit n)
