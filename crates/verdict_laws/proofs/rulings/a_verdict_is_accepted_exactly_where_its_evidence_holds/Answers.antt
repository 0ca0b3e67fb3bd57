use Rattle.cert_check.proofs.Rulings.{accepted_where_held}
use Rattle.verdict_laws.proofs.rulings.a_verdict_is_accepted_exactly_where_its_evidence_holds.Goals as goal

pub returns : goal.returns
returns c = accepted_where_held
