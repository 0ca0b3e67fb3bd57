use Rattle.quandle_core.proofs.Linear.{trivial_is}
use Rattle.quandle_laws.proofs.quandles.trivial_is_a_quandle.Goals as goal

pub returns : goal.returns
returns c = trivial_is
