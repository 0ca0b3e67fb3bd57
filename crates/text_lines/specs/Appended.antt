-- What stands at the end of a text where memory was wanting for some bytes.
use Rattle.std.specs.Prelude.{◌≡◌, ◌<◌, ℕ, List, ◌++◌, length, take}

-- behind the old text stand the first few of these bytes, and not all of them
pub record AppendsPart (old new bytes : List ℕ) : Type 0 where
  pub count : ℕ
  pub few : count < length bytes
  pub text : new ≡ old ++ take count bytes
