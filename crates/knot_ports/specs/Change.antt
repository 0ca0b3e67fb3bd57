-- What a call changes outside: a source or a sink, before and after.
use Rattle.std.specs.Prelude.{◌≡◌, ◌≤◌, ◌+◌, ℕ, List, Option, length}
use Rattle.std.specs.Io.KnownBytes.{Keeps, Consumes, IsAtEnd}
use Rattle.knot_ports.specs.Faults.{Rose}
use Rattle.knot_ports.specs.declared.source.Source.{Ghosts as SourceOf}
use Rattle.knot_ports.specs.declared.sink.Sink.{Ghosts as SinkOf}
use Rattle.knot_ports.specs.Standard.{Counted}

-- a source or a sink, before and after: the bytes that a source has left or a sink holds, where it tells them, and its count
-- of faults
pub record Change : Type 0 where
  pub before : Option (List ℕ)
  pub after : Option (List ℕ)
  pub faults_before : ℕ
  pub faults_after : ℕ

-- made of what tells the bytes and the faults
abbrev pub change_of : {X : Type 0} → (X → Option (List ℕ)) → (X → ℕ) → X → X → Change
change_of bytes_of faults_of before after =
    record { before = bytes_of before; after = bytes_of after; faults_before = faults_of before; faults_after = faults_of after }

-- of a source, and of a sink, by what its type tells
abbrev pub source_change : {S : Type 0} → SourceOf S → S → S → Change
source_change tells before after = change_of tells.left tells.faults before after

abbrev pub sink_change : {K : Type 0} → SinkOf K → K → K → Change
sink_change tells before after = change_of tells.held tells.faults before after

-- of a port over a reader or a writer, by what that tells of its bytes
abbrev pub port_change : {X : Type 0} → (X → Option (List ℕ)) → Counted X → Counted X → Change
port_change bytes_of before after = change_of (λ (c : Counted _). bytes_of c.port) (λ (c : Counted _). c.errors) before after

-- no byte came or went, and no fault was counted
pub record IsUntouched (port : Change) : Type 0 where
  pub kept : Keeps port.before port.after
  pub unchanged : port.faults_after ≡ port.faults_before

-- a fault was counted, or the count stands at its last value
abbrev pub Failed : Change → Type 0
Failed port = Rose port.faults_before port.faults_after

-- the whole input came: these bytes, not more than the limit
pub record IsWhole (limit : ℕ) (source : Change) (bytes : List ℕ) : Type 0 where
  pub consumed : Consumes source.before source.after bytes
  pub within : length bytes ≤ limit
  pub ended : IsAtEnd source.after

-- one byte more than the limit came
pub record IsTooMuch (limit : ℕ) (source : Change) (bytes : List ℕ) : Type 0 where
  pub consumed : Consumes source.before source.after bytes
  pub over : length bytes ≡ limit + 1

-- the bytes that came are lost: at most so many
pub record Drops (most : ℕ) (source : Change) : Type 0 where
  pub bytes : List ℕ
  pub consumed : Consumes source.before source.after bytes
  pub few : length bytes ≤ most
