use Rattle.std.proofs.Common.{◌∙◌, sym}
use Rattle.quandle_core.proofs.Linear.{alexander_laws, alexander_linear}
use Rattle.quandle_core.proofs.quandle.Quandle.alexander.Goals as goal

pub linear-requires-clause-laws : goal.linear-requires-clause-laws
linear-requires-clause-laws c = alexander_laws c.args.n c.args.t c.requires.0 (sym c.is_unit.ensures ∙ c.if-not-is_unit.false)

pub returns-clause-quandle : goal.returns-clause-quandle
returns-clause-quandle c = c.linear.ensures ∙ alexander_linear c.args.n c.args.t
