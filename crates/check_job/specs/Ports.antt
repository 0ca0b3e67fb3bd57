-- What is left outside where a whole input is read and where a text is written, by the status with which that ends a call.
use Rattle.std.specs.Prelude.{◌≡◌, ◌+◌, ◌⊎◌, ℕ, List, Option, Some, None, Result, Ok, Err, Vec}
use Rattle.std.specs.declared.alloc.Global.{Global}
use Rattle.std.specs.Io.KnownBytes.{Appends}
use Rattle.knot_ports.specs.Sink.{AppendsFront}
use Rattle.knot_ports.specs.Change.{Change, Failed, IsWhole, IsTooMuch, Drops}
use Rattle.knot_ports.specs.declared.status.Status.{Status}
use Rattle.knot_ports.specs.declared.status.Status.TheVariants as status

-- there is nothing to write: the source failed, or memory was wanting
abbrev pub IsUnreadWithin : ℕ → Change → Status → Type 0
IsUnreadWithin limit source s =
    ((s ≡ status.ReadFault) × (Failed source × Drops limit source)) ⊎ ((s ≡ status.OutOfMemory) × Drops (limit + 1) source)

-- the whole input was read, or None where it is longer than the limit, and its bytes are lost where memory is wanting for a reply; the
-- error is the status of a call that can't read it
abbrev pub IsReadWithin : ℕ → Change → Result (Option (Vec ℕ Global)) Status → Type 0
IsReadWithin limit source (Ok (Some bytes)) = IsWhole limit source bytes.items × Drops (limit + 1) source
IsReadWithin limit source (Ok None) = (bytes : List ℕ) × (IsTooMuch limit source bytes × Drops (limit + 1) source)
IsReadWithin limit source (Err s) = IsUnreadWithin limit source s

-- the text was written, and its own status ends the call; or the sink failed, and a front was written
abbrev pub IsWritten : Change → List ℕ → Status → Status → Type 0
IsWritten sink text own s =
    ((s ≡ own) × Appends sink.before sink.after text)
    ⊎ ((s ≡ status.WriteFault) × (Failed sink × AppendsFront sink.before sink.after text))
