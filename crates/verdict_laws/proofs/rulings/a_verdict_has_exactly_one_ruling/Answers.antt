use Rattle.cert_check.proofs.Rulings.{some_ruling, ruled_once}
use Rattle.verdict_laws.proofs.rulings.a_verdict_has_exactly_one_ruling.Goals as goal

pub returns-clause-some : goal.returns-clause-some
returns-clause-some c = some_ruling

pub returns-clause-single : goal.returns-clause-single
returns-clause-single c = ruled_once
