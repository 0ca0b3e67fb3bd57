-- What is told of the file beside a place.
use Rattle.std.specs.Prelude.{ℕ, List, [], Option, Some, None}

-- no bytes, where bytes are told
abbrev pub emptied : Option (List ℕ) → Option (List ℕ)
emptied None = None
emptied (Some bytes) = Some []

-- what a sink in memory holds, and how many faults it counted
pub record HeldText : Type 0 where
  pub bytes : List ℕ
  pub faults : ℕ

abbrev pub nothing_held : HeldText
nothing_held = record { bytes = []; faults = 0 }
