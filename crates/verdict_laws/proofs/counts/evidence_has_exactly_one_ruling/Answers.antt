use Rattle.verdict_laws.proofs.OneRuling.{one_ruling}
use Rattle.verdict_laws.proofs.SomeRuling.{some_ruling}
use Rattle.verdict_laws.proofs.counts.evidence_has_exactly_one_ruling.Goals as goal

pub returns-clause-some : goal.returns-clause-some
returns-clause-some c = some_ruling

pub returns-clause-single : goal.returns-clause-single
returns-clause-single c = one_ruling
