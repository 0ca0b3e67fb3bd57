use Rattle.std.proofs.Common.{◌∙◌}
use Rattle.quandle_core.proofs.Linear.{dihedral_laws, dihedral_linear}
use Rattle.quandle_core.proofs.quandle.Quandle.dihedral.Goals as goal

pub linear-requires-clause-laws : goal.linear-requires-clause-laws
linear-requires-clause-laws c = dihedral_laws c.args.n c.requires.0

pub returns : goal.returns
returns c = c.linear.ensures ∙ dihedral_linear c.args.n c.requires.0
