use Rattle.quandle_core.proofs.Linear.{alexander_is, alexander_unit}
use Rattle.quandle_laws.proofs.quandles.alexander_is_a_quandle.Goals as goal

pub returns : goal.returns
returns c = λ n t least. (alexander_unit n t least, alexander_is n t least)
