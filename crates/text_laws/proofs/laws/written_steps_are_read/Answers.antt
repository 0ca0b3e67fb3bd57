use Rattle.text_laws.proofs.StepsWritten.{steps_read}
use Rattle.text_laws.proofs.laws.written_steps_are_read.Goals as goal

pub returns : goal.returns
returns c = steps_read
