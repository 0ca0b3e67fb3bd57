use Rattle.std.proofs.Common.{refl}
use Rattle.std.proofs.KnownBytes.{Keeps-refl}
use Rattle.knot.proofs.Came.{with_words, without_words}
use Rattle.knot.proofs.program.program.Goals as goal

pub returns-in-Ok : goal.returns-in-Ok
returns-in-Ok g c = with_words _ _ _ _ _ _ _ c.in-Ok.is c.as_slice-list.ensures.value
    (record { status = c.call-status.result; number = c.exit_code.ensures; is = c.call-status.ensures })

pub returns-in-Err : goal.returns-in-Err
returns-in-Err g c = without_words _ _ _ _ _ _ c.in-Err.is c.exit_code-in-Err.ensures
    (record { kept = Keeps-refl _; unchanged = refl }) (record { kept = Keeps-refl _; unchanged = refl })
