-- What a sink holds after a write that failed. The bytes that it holds are known, or they aren't told.
use Rattle.std.specs.Prelude.{◌<◌, ℕ, List, Option, length, take}
use Rattle.std.specs.Io.KnownBytes.{Appends}

-- the first few of these bytes were appended, and not all of them
abbrev pub AppendsFront : Option (List ℕ) → Option (List ℕ) → List ℕ → Type 0
AppendsFront old new bytes = (count : ℕ) × (count < length bytes) × Appends old new (take count bytes)
