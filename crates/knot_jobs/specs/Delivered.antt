-- What the steps of a call leave to each other: what is read, the reply to it, and how that is written. No public clause cites it.
use Rattle.std.specs.Prelude.{◌≡◌, ◌⊎◌, ℕ, List, Option, Some, None, Result, Ok, Err, Vec}
use Rattle.std.specs.declared.alloc.Global.{Global}
use Rattle.std.specs.Io.KnownBytes.{Appends}
use Rattle.knot_ports.specs.Sink.{AppendsFront}
use Rattle.search_pool.specs.declared.finding.Finding.{Finding}
use Rattle.search_jobs.specs.declared.reply.Reply.{Reply}
use Rattle.knot_words.specs.declared.words.Asked.{Asked}
use Rattle.knot_words.specs.declared.words.WordsFault.{WordsFault}
use Rattle.knot_words.specs.declared.words.WordsFault.TheVariants.{Usage, OutOfMemory}
use Rattle.knot_ports.specs.declared.status.Status.{Status}
use Rattle.knot_ports.specs.declared.status.Status.TheVariants as status
use Rattle.knot_words.specs.Limits.{limit_of}
use Rattle.knot_jobs.specs.Answer.{IsOver, IsNotOver}
use Rattle.knot_ports.specs.Change.{Change, IsUntouched, Failed}
use Rattle.check_job.specs.Ports.{IsWritten}
use Rattle.knot_jobs.specs.Call.{TakesAll, TakesTooMuch, Loses}
use Rattle.knot_jobs.specs.Ending.{usage_line, IsReplyTo}
use Rattle.knot_jobs.specs.ReplyTruth.{IsTrueOf}

-- ---- what is read

-- the source was not called, or what came of it is lost where memory is wanting for a reply
abbrev pub MayBeLost : Option ℕ → Change → Type 0
MayBeLost limit source = IsUntouched source ⊎ Loses limit 1 source

-- there is no reply: the source failed, or memory was wanting
abbrev pub IsWithoutReply : Option ℕ → Change → Status → Type 0
IsWithoutReply limit source s =
    ((s ≡ status.ReadFault) × (Failed source × Loses limit 0 source)) ⊎ ((s ≡ status.OutOfMemory) × MayBeLost limit source)

-- the whole input was read, or None where it is longer than its limit; the error is the status of a call that can't read it
abbrev pub IsRead : Option ℕ → Change → Result (Option (Vec ℕ Global)) Status → Type 0
IsRead limit source (Ok (Some bytes)) = (TakesAll limit source bytes.items × IsNotOver limit bytes.items) × MayBeLost limit source
IsRead limit source (Ok None) = ((bytes : List ℕ) × (TakesTooMuch limit source bytes × IsOver limit bytes)) × MayBeLost limit source
IsRead limit source (Err s) = IsWithoutReply limit source s

-- what is asked for is answered by what came of the source, and truly where it says Done; the error is the status of a call that
-- writes nothing
abbrev pub IsMadeOf : Asked → Change → Result Reply Status → Type 0
IsMadeOf asked source (Ok reply) = IsReplyTo asked source reply × IsTrueOf asked.job source reply
IsMadeOf asked source (Err s) = IsWithoutReply (limit_of asked.job) source s

-- ---- what is written

-- the search is kept where the text was written
abbrev pub IsDelivered : Change → Reply → Status → Option Finding → Type 0
IsDelivered sink reply s kept =
    (((s ≡ reply.status) × (kept ≡ reply.kept)) × Appends sink.before sink.after reply.text)
    ⊎ (((s ≡ status.WriteFault) × (kept ≡ None)) × (Failed sink × AppendsFront sink.before sink.after reply.text))

-- the usage line was to be written where the words ask for nothing; where memory is wanting for them, nothing was written
abbrev pub IsRefused : WordsFault → Change → Status → Type 0
IsRefused Usage sink s = IsWritten sink usage_line status.Usage s
IsRefused OutOfMemory sink s = (s ≡ status.OutOfMemory) × IsUntouched sink

-- the reply was written, if there is one; else its error is the status
abbrev pub IsEnded : Change → Result Reply Status → Status → Option Finding → Type 0
IsEnded sink (Ok reply) s kept = IsDelivered sink reply s kept
IsEnded sink (Err e) s kept = ((s ≡ e) × IsUntouched sink) × (kept ≡ None)
