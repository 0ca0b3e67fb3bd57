-- What a whole read takes from a source. The bytes that the source has left are known, or they aren't told.
use Rattle.std.specs.Prelude.{◌≡◌, ◌+◌, ◌≤◌, ℕ, List, Option, length}
use Rattle.std.specs.Io.KnownBytes.{Consumes}
use Rattle.knot_ports.specs.declared.read.ReadEnd.{ReadEnd}
use Rattle.knot_ports.specs.declared.read.ReadEnd.TheVariants.{Fault, TooLong, OutOfMemory}

-- a read with this limit ends so after so many bytes: too long is one byte over the limit, and nothing else is over it
abbrev pub EndsAfter : ℕ → ReadEnd → ℕ → Type 0
EndsAfter limit Fault count = count ≤ limit
EndsAfter limit TooLong count = count ≡ limit + 1
EndsAfter limit OutOfMemory count = count ≤ limit

-- the bytes that came before a read ended so are taken from the source
abbrev pub TakesBefore : Option (List ℕ) → Option (List ℕ) → ℕ → ReadEnd → Type 0
TakesBefore old new limit end = (bytes : List ℕ) × EndsAfter limit end (length bytes) × Consumes old new bytes
