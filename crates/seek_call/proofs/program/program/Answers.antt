use Rattle.std.proofs.Common.{refl}
use Rattle.seek_call.proofs.Came.{with_words, without_words}
use Rattle.seek_call.proofs.Found.{kept}
use Rattle.seek_call.proofs.program.program.Goals as goal

pub returns-in-Ok : goal.returns-in-Ok
returns-in-Ok g c = with_words _ _ _ _ _ _ _ c.in-Ok.is c.as_slice.ensures.value c.call.ensures.exit

pub returns-in-Err : goal.returns-in-Err
returns-in-Err g c = without_words _ _ _ _ _ _ c.in-Err.is c.exit_code.ensures (record { output = kept _; files = refl })
