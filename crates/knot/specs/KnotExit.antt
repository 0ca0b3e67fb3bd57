-- How the process ends: the status of a call, and what it says of the words, the input and the output.
use Rattle.std.specs.Prelude.{◌≡◌, ℕ, List, Option, Result, Ok, Err, String, Vec}
use Rattle.std.specs.Process.{exit_status}
use Rattle.std.specs.declared.alloc.Global.{Global}
use Rattle.std.specs.declared.process.ExitCode.{ExitCode}
use Rattle.search_pool.specs.declared.finding.Finding.{Finding}
use Rattle.knot_ports.specs.Change.{Change, IsUntouched}
use Rattle.knot_ports.specs.declared.status.Status.{Status}
use Rattle.knot_ports.specs.Status.{status_number}
use Rattle.knot_ports.specs.declared.given.NoWords.{NoWords}
use Rattle.knot_ports.specs.Given.{status_without_words}
use Rattle.knot_jobs.specs.Call.{Call, call_of}
use Rattle.knot_jobs.specs.Ending.{EndsAnyCall}
use Rattle.knot_jobs.specs.ReplyTruth.{TellsOnlyTruth}
use Rattle.knot_words.specs.OptionNumbers.{texts_of}

-- the call ended as is due with this status, and what was written with it is true
pub record IsStatusOf (call : Call) (status : Status) : Type 0 where
  pub kept : Option Finding
  pub ends : EndsAnyCall call status kept
  pub truth : TellsOnlyTruth call status

-- the exit status is the number of such a status
pub record IsExitOfKnot (call : Call) (exit : ExitCode) : Type 0 where
  pub status : Status
  pub number : exit_status exit ≡ status_number status
  pub is : IsStatusOf call status

-- the words that came, as texts
abbrev pub came : Result (Vec (String Global) Global) NoWords → Result (List (List ℕ)) NoWords
came (Ok words) = Ok (texts_of words.items)
came (Err why) = Err why

-- the words came and the program ended as a call of them; or none did, and nothing was read or written
abbrev pub EndsKnot : Result (List (List ℕ)) NoWords → (ℕ → ℕ) → Change → Change → ExitCode → Type 0
EndsKnot (Ok words) searching source sink exit = IsExitOfKnot (call_of words searching source sink) exit
EndsKnot (Err why) searching source sink exit =
    (exit_status exit ≡ status_without_words why) × (IsUntouched source × IsUntouched sink)
