use Rattle.mono_simplify.proofs.LeastClass.{least_canonical}
use Rattle.mono_simplify.proofs.least_laws.a_least_diagram_is_canonical.Goals as goal

pub returns : goal.returns
returns c = least_canonical
