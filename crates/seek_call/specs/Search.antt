-- How a search ends whose verdict is written: to a sink, or to a file at a path.
use Rattle.std.specs.Prelude.{◌≡◌, ◌≢◌, ◌⊎◌, ◌<◌, ◌≤◌, ℕ, List, [], Option, Some, None, length}
use Rattle.knot_ports.specs.Faults.{Rose}
use Rattle.knot_ports.specs.Standard.{Counted}
use Rattle.knot_ports.specs.declared.limits.TheConstants.{MAX_INPUT}
use Rattle.seek_parts.specs.Places.{Standing, PutsAt}
use Rattle.knot_ports.specs.declared.status.Status.{Status}
use Rattle.knot_ports.specs.declared.status.Status.TheVariants as status
use Rattle.seek_core.specs.declared.ending.Ending.{Ending}
use Rattle.evidence_core.specs.declared.blocks.Block.{Block}
use Rattle.seek_core.specs.declared.answer.Tried.{Tried}
use Rattle.seek_core.specs.declared.ending.Ending.TheVariants.{NotFound, WriteFault}
use Rattle.seek_core.specs.Answers.{EndsRun, WritesDecision, BlocksTriedInVain, EndsTooLong, ending_status}

-- what a sink holds, as far as it is told, and how many faults it counts
pub record HeldBySink : Type 0 where
  pub bytes : Option (List ℕ)
  pub faults : ℕ

-- what a sink comes to, by what tells the bytes that it holds, and what tells how many faults it counts
abbrev pub held_of : {X : Type 0} → (X → Option (List ℕ)) → (X → ℕ) → X → HeldBySink
held_of bytes_of faults_of sink = record { bytes = bytes_of sink; faults = faults_of sink }

-- what a sink over a writer comes to, by what tells the bytes that a writer holds
abbrev pub port_held : {X : Type 0} → (X → Option (List ℕ)) → Counted X → HeldBySink
port_held bytes_of sink = record { bytes = bytes_of sink.port; faults = sink.errors }

-- what is told of a sink whose text is put nowhere: it never fails
abbrev pub unseen : HeldBySink
unseen = record { bytes = None; faults = 0 }

-- a search ended so: what was held before and is held after is as this ending says, and so are the blocks that were tried in vain. A long
-- input is refused, and the sink failed only where its count of faults rose
pub record EndsSearch (bytes : List ℕ) (blocks : List Block) (before after : HeldBySink) (ending : Ending) : Type 0 where
  pub ends : EndsRun bytes before.bytes after.bytes ending
  pub vain : (tried : Tried) → ending ≡ NotFound tried → BlocksTriedInVain bytes blocks tried
  pub long : MAX_INPUT < length bytes → EndsTooLong ending
  pub fault : ending ≡ WriteFault → Rose before.faults after.faults

-- the status is that of an ending by which the search ended
pub record IsSoughtToSink (bytes : List ℕ) (blocks : List Block) (before after : HeldBySink) (s : Status) : Type 0 where
  pub ending : Ending
  pub status_is : s ≡ ending_status ending
  pub ends : EndsSearch bytes blocks before after ending

-- a text that decides an input within the limit: a sink that held nothing holds it once it is written
pub record IsDecisionText (bytes text : List ℕ) : Type 0 where
  pub within : length bytes ≤ MAX_INPUT
  pub decides : WritesDecision bytes (Some []) (Some text)

-- a file with a text that decides the input was put at the path
abbrev pub PutsDecision : List ℕ → Option Standing → Option Standing → List ℕ → Type 0
PutsDecision bytes before after path = (text : List ℕ) × (IsDecisionText bytes text × PutsAt before after path text)

-- no decision was put: the file can't be written, or the search ended without one, of which nothing was written
abbrev pub IsUnput : List ℕ → List Block → Status → Type 0
IsUnput bytes blocks s = (s ≡ status.WriteFault) ⊎ ((s ≢ status.Done) × IsSoughtToSink bytes blocks unseen unseen s)

-- the file at the path is whole, and decides the input, where the call is done; and else what stands at each path is as it was
abbrev pub IsSoughtToFile : List ℕ → List Block → Option Standing → Option Standing → List ℕ → Status → Type 0
IsSoughtToFile bytes blocks before after path s =
    ((s ≡ status.Done) × PutsDecision bytes before after path) ⊎ ((after ≡ before) × IsUnput bytes blocks s)
