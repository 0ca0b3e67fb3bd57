-- How the process ends: the exit status, and what it says of the words, the input and the output.
use Rattle.std.specs.Prelude.{◌≡◌, ◌<◌, ◌≤◌, ◌⊎◌, ℕ, List, length, codes, Result, Ok, Err, String, Vec}
use Rattle.std.specs.Process.{exit_status}
use Rattle.std.specs.declared.alloc.Global.{Global}
use Rattle.std.specs.declared.process.ExitCode.{ExitCode}
use Rattle.knot_ports.specs.Change.{Change, IsUntouched}
use Rattle.knot_ports.specs.declared.status.Status.{Status}
use Rattle.knot_ports.specs.declared.status.Status.TheVariants.{Usage}
use Rattle.knot_ports.specs.Status.{status_number}
use Rattle.check_job.specs.Ending.{EndsCheck}
use Rattle.check_job.specs.Ports.{IsWritten}
use Rattle.knot_ports.specs.declared.given.NoWords.{NoWords}
use Rattle.knot_ports.specs.Given.{status_without_words}

-- the exit status is the number of a status with which the call ended as is due
pub record IsExitOfCheck (source sink : Change) (exit : ExitCode) : Type 0 where
  pub status : Status
  pub number : exit_status exit ≡ status_number status
  pub ends : EndsCheck source sink status

abbrev pub check_usage_line : List ℕ
check_usage_line = codes "usage: knot_check < INPUT\n"

-- the usage line was written, and the exit status is the number of Usage; or the sink failed, a front of the line was written, and it is the
-- number of WriteFault
pub record WritesUsage (sink : Change) (exit : ExitCode) : Type 0 where
  pub status : Status
  pub number : exit_status exit ≡ status_number status
  pub written : IsWritten sink check_usage_line Usage status

-- no word follows the program's name, and the program ended as a call of the input; or one does, nothing was read, and it ended as where the usage
-- line is due; or the words could not be read, the exit status says why, and nothing was read or written
abbrev pub EndsKnotCheck : Result (Vec (String Global) Global) NoWords → Change → Change → ExitCode → Type 0
EndsKnotCheck (Ok words) source sink exit =
    ((length words.items ≤ 1) × IsExitOfCheck source sink exit)
    ⊎ ((1 < length words.items) × (IsUntouched source × WritesUsage sink exit))
EndsKnotCheck (Err why) source sink exit =
    (exit_status exit ≡ status_without_words why) × (IsUntouched source × IsUntouched sink)
