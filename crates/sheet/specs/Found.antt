-- What the reader of a number gives, for every text. Only a private contract cites it. This is a definition; nothing is assumed.
use Rattle.std.specs.Prelude.{ℕ, ◌≡◌, true, List}
use Rattle.sheet.specs.Asked.{Field}

-- a number x is found at the beginning of a text, and after the byte that ends it the text `after`
pub record Found (f : Field) (x : ℕ) (after : List ℕ) : Type 0 where
  pub good : f.good ≡ true
  pub value : f.value ≡ x
  pub rest : f.rest ≡ after
