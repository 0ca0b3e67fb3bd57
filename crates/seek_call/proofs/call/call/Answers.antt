use Rattle.std.proofs.Common.{◌∙◌, sym}
use Rattle.seek_call.proofs.Ended.{only_zero, answered}
use Rattle.seek_call.proofs.call.call.Goals as goal

pub returns : goal.returns
returns g c = record {
  exit = record {
    ended = c.answer.result;
    number = c.exit_code.ensures;
    ends = c.answer.ensures;
  };
  done = λ zero. answered _ _ _ _ _ c.answer.ensures (only_zero c.answer.result (sym c.exit_code.ensures ∙ zero));
}
