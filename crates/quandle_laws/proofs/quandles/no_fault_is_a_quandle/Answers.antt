use Rattle.quandle_core.proofs.Accepted.{quandle_within, none_within}
use Rattle.quandle_laws.proofs.quandles.no_fault_is_a_quandle.Goals as goal

pub returns : goal.returns
returns c = λ most t. (quandle_within most t, λ is. none_within most t is.0 is.1)
