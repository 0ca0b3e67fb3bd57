-- What a checker of evidence answers.
use Rattle.grid_core.specs.Diagram.{Diagram}
use Rattle.verdict_core.specs.declared.verdict.Verdict.{Verdict}
use Rattle.cert_check.specs.declared.ruling.Ruling.{Ruling}
use Rattle.cert_check.specs.declared.ruling.Ruling.TheVariants.{Accepted, Rejected}
use Rattle.verdict_core.specs.Evidence.{VerdictHolds}
use Rattle.cert_check.specs.Cause.{IsVerdictCause}

-- a verdict on d and e is accepted where its evidence holds, else rejected for the first cause
abbrev pub RulesOnVerdict : Diagram → Diagram → Verdict → Ruling → Type 0
RulesOnVerdict d e verdict Accepted = VerdictHolds d e verdict
RulesOnVerdict d e verdict (Rejected cause) = IsVerdictCause d e verdict cause
