use Rattle.number_check.proofs.Rulings.{accepted_where_held}
use Rattle.verdict_laws.proofs.counts.evidence_is_accepted_exactly_where_it_holds.Goals as goal

pub returns : goal.returns
returns c = accepted_where_held
