use Rattle.certificates.proofs.EvidenceBehind.{evidence_behind}
use Rattle.certificates.proofs.laws.evidence_behind_its_problem_is_read.Goals as goal

pub returns : goal.returns
returns c = evidence_behind
