use Rattle.certificates.proofs.EvidenceBehind.{evidence_read}
use Rattle.certificates.proofs.laws.printed_evidence_is_read.Goals as goal

pub returns : goal.returns
returns c = evidence_read
