-- Of which endings a sentence is told.
use Rattle.std.specs.Prelude.{◌≡◌, Bool, true, false, ℕ, List}
use Rattle.knot_words.specs.Words.{Asks}
use Rattle.knot_words.specs.declared.job.Job.TheVariants as job
use Rattle.knot_words.specs.declared.job.PlainJob.TheVariants as plain
use Rattle.knot_words.specs.declared.words.Asked.{Asked}
use Rattle.knot_ports.specs.declared.status.Status.{Status}
use Rattle.knot_ports.specs.declared.status.Status.TheVariants as status
use Rattle.knot_tells.specs.declared.sentence.Sentence.{Sentence}
use Rattle.knot_tells.specs.declared.sentence.Sentence.TheVariants as told

-- it is told of an input: of a line, which exceeds a limit or doesn't, of too many bytes, or of too many columns of a drawing
abbrev pub IsOfInput : Bool → Sentence → Type 0
IsOfInput is_limit (told.Line line reason) = Unit {0}
IsOfInput is_limit (told.LineAlone line limit) = limit ≡ is_limit
IsOfInput is_limit (told.CodeLine line limit) = limit ≡ is_limit
IsOfInput is_limit told.Long = Unit {0}
IsOfInput is_limit (told.Wide columns) = is_limit ≡ true
IsOfInput is_limit other = ⊥

abbrev pub IsOfWords : Sentence → Type 0
IsOfWords (told.Words bad) = Unit {0}
IsOfWords other = ⊥

abbrev pub IsOfReading : Sentence → Type 0
IsOfReading (told.Read error) = Unit {0}
IsOfReading other = ⊥

abbrev pub IsOfWriting : Sentence → Type 0
IsOfWriting (told.Write error) = Unit {0}
IsOfWriting other = ⊥

abbrev pub IsOfMemory : Sentence → Type 0
IsOfMemory told.OutOfMemory = Unit {0}
IsOfMemory other = ⊥

abbrev pub IsOfRefusal : Sentence → Type 0
IsOfRefusal (told.Refused why) = Unit {0}
IsOfRefusal other = ⊥

-- it is told of a planar diagram code: of a line of it, of a drawing that takes too many columns, or of why no diagram is answered
abbrev pub IsOfCode : Sentence → Type 0
IsOfCode (told.CodeLine line limit) = Unit {0}
IsOfCode (told.Wide columns) = Unit {0}
IsOfCode (told.Refused why) = Unit {0}
IsOfCode other = ⊥

-- the words ask for the diagram of a code
abbrev pub AsksToDraw : List (List ℕ) → Type 0
AsksToDraw words = (asked : Asked) × Asks words asked × (asked.job ≡ job.Plain plain.Grid)

-- it is told of a call that ended with this status
abbrev pub IsOf : Status → Sentence → Type 0
IsOf status.Done sentence = ⊥
IsOf status.Unknown sentence = ⊥
IsOf status.Rejected sentence = IsOfRefusal sentence
IsOf status.Usage sentence = IsOfWords sentence
IsOf status.Malformed sentence = IsOfInput false sentence
IsOf status.Limit sentence = IsOfInput true sentence
IsOf status.ReadFault sentence = IsOfReading sentence
IsOf status.WriteFault sentence = IsOfWriting sentence
IsOf status.OutOfMemory sentence = IsOfMemory sentence
