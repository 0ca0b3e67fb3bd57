use Rattle.std.proofs.Common.{◌∙◌}
use Rattle.quandle_core.proofs.Linear.{trivial_laws, trivial_linear}
use Rattle.quandle_core.proofs.quandle.Quandle.trivial.Goals as goal

pub linear-requires-clause-laws : goal.linear-requires-clause-laws
linear-requires-clause-laws c = trivial_laws c.args.n c.requires.0

pub returns : goal.returns
returns c = c.linear.ensures ∙ trivial_linear c.args.n
