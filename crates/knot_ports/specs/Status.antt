-- The status of a call, as the program's exit status; which statuses a job's own answers have.
use Rattle.std.specs.Prelude.{◌≡◌, ◌⊎◌, ℕ}
use Rattle.knot_ports.specs.declared.status.Status.{Status}
use Rattle.knot_ports.specs.declared.status.Status.TheVariants as status

-- the exit status
abbrev pub status_number : Status → ℕ
status_number status.Done = 0
status_number status.Unknown = 1
status_number status.Usage = 2
status_number status.Malformed = 3
status_number status.Limit = 4
status_number status.ReadFault = 5
status_number status.WriteFault = 6
status_number status.OutOfMemory = 7
status_number status.Rejected = 8

-- what the defined answer to an input of the job's shape has
abbrev pub IsOfDefinedAnswer : Status → Type 0
IsOfDefinedAnswer s = (s ≡ status.Done) ⊎ ((s ≡ status.Unknown) ⊎ (s ≡ status.Rejected))

-- what an answer to any input has: a defined answer, or one that refuses the input
abbrev pub IsOfAnswer : Status → Type 0
IsOfAnswer s = IsOfDefinedAnswer s ⊎ ((s ≡ status.Malformed) ⊎ (s ≡ status.Limit))
