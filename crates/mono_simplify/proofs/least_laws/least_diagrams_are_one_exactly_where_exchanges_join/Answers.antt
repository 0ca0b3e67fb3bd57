use Rattle.mono_simplify.proofs.LeastClass.{least_once, least_joins}
use Rattle.mono_simplify.proofs.least_laws.least_diagrams_are_one_exactly_where_exchanges_join.Goals as goal

pub returns-clause-joined : goal.returns-clause-joined
returns-clause-joined c = least_once

pub returns-clause-same : goal.returns-clause-same
returns-clause-same c = least_joins
