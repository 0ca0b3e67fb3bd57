use Rattle.std.proofs.Common.{refl}
use Rattle.seek_call.proofs.Ended.{with_inputs, without_inputs}
use Rattle.seek_call.proofs.Found.{kept}
use Rattle.seek_call.proofs.call.seek_apart.Goals as goal

pub returns-in-Err : goal.returns-in-Err
returns-in-Err g c = without_inputs _ _ _ _ _ c.in-Err.failure
    (record { output = kept _; files = refl }) c.in-Err.ensures.failure c.tell.ensures.is

pub returns-in-Ok : goal.returns-in-Ok
returns-in-Ok g c = with_inputs _ _ _ _ _ _ _ c.in-Ok.ensures.parts c.in-Ok.ensures.blocks c.seek_inputs.ensures
