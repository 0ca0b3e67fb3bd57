-- What is taken from a source before a read ends.
use Rattle.std.proofs.Common.{ℕ, ◌+◌, List, ◌++◌, length, length-append}
use Rattle.std.specs.Prelude.{Option}
use Rattle.std.specs.Io.KnownBytes.{Consumes}
use Rattle.std.proofs.KnownBytes.{Consumes-trans}
use Rattle.knot_ports.specs.declared.read.ReadEnd.{ReadEnd}
use Rattle.knot_ports.specs.Source.{EndsAfter, TakesBefore}

-- what came before the last call and what came by it
pub TakesBefore-last : (old mid new : Option (List ℕ)) (limit : ℕ) (end : ReadEnd) (before last : List ℕ) → Consumes old mid before → Consumes mid new last
    → EndsAfter limit end (length before + length last) → TakesBefore old new limit end
TakesBefore-last old mid new limit end before last first second ends =
    (before ++ last, rw length-append ends, Consumes-trans old mid new before last first second)
