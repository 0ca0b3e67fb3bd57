-- A call of the program, as it is seen from outside: its words, how many workers search where the words ask for so many, and what
-- its source and its sink had before and have after it.
use Rattle.std.specs.Prelude.{◌≡◌, ◌+◌, ◌⊎◌, ℕ, List, [], Option, Some, None}
use Rattle.knot_ports.specs.Change.{Change, source_change, sink_change, IsUntouched, IsWhole, IsTooMuch, Drops}
use Rattle.knot_ports.specs.declared.source.Source.{Ghosts as SourceOf}
use Rattle.knot_ports.specs.declared.sink.Sink.{Ghosts as SinkOf}
use Rattle.knot_words.specs.declared.words.Asked.{Asked}
use Rattle.knot_jobs.specs.declared.ports.Ports.{Ports}

pub record Call : Type 0 where
  pub words : List (List ℕ)
  pub searching : ℕ → ℕ
  pub source : Change
  pub sink : Change

abbrev pub call_of : List (List ℕ) → (ℕ → ℕ) → Change → Change → Call
call_of words searching source sink = record { words = words; searching = searching; source = source; sink = sink }

-- over ports, before and after
abbrev pub call_over : {S K : Type 0} → SourceOf S → SinkOf K → List (List ℕ) → (ℕ → ℕ) → Ports S K → Ports S K → Call
call_over sources sinks words searching before after =
    call_of words searching (source_change sources before.source after.source) (sink_change sinks before.sink after.sink)

-- ---- how many workers search

-- of the workers that are asked for, all search
abbrev pub as_many_as_asked : ℕ → ℕ
as_many_as_asked workers = workers

-- one searches, however many are asked for
abbrev pub only_one : ℕ → ℕ
only_one workers = 1

-- what is asked for, with the number of workers that search where so many are asked for
abbrev pub with_workers : (ℕ → ℕ) → Asked → Asked
with_workers searching asked = record asked { workers = searching asked.workers }

-- ---- the bytes of an input

-- the whole input is these bytes; where there is no input, the source was not called
abbrev pub TakesAll : Option ℕ → Change → List ℕ → Type 0
TakesAll (Some limit) source bytes = IsWhole limit source bytes
TakesAll None source bytes = IsUntouched source × (bytes ≡ [])

-- the input is longer than its limit
abbrev pub TakesTooMuch : Option ℕ → Change → List ℕ → Type 0
TakesTooMuch (Some limit) source bytes = IsTooMuch limit source bytes
TakesTooMuch None source bytes = ⊥

-- these bytes came for a job with this limit: the whole input, or as many as tell that it is too long
abbrev pub Comes : Option ℕ → Change → List ℕ → Type 0
Comes limit source bytes = TakesAll limit source bytes ⊎ TakesTooMuch limit source bytes

-- there is an input, and the bytes that came of it are lost: at most so many more than the limit
pub record Loses (limit : Option ℕ) (more : ℕ) (source : Change) : Type 0 where
  pub most : ℕ
  pub has_input : limit ≡ Some most
  pub drops : Drops (most + more) source
