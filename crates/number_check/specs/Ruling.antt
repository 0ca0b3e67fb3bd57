-- What a checker of evidence by numbers answers.
use Rattle.grid_core.specs.Diagram.{Diagram}
use Rattle.evidence_core.specs.declared.evidence.Evidence.{Evidence}
use Rattle.evidence_core.specs.declared.cause.NumberRuling.{NumberRuling}
use Rattle.evidence_core.specs.declared.cause.NumberRuling.TheVariants.{Accepted, Rejected}
use Rattle.number_check.specs.EvidenceHolds.{EvidenceHolds}
use Rattle.number_check.specs.Cause.{IsEvidenceCause}

-- evidence is accepted where it holds, else rejected for the first cause
abbrev pub RulesOnEvidence : Diagram → Diagram → Evidence → NumberRuling → Type 0
RulesOnEvidence d e evidence Accepted = EvidenceHolds d e evidence
RulesOnEvidence d e evidence (Rejected cause) = IsEvidenceCause d e evidence cause
