use Rattle.std.proofs.Common.{rules}
use Rattle.grid_core.specs.Diagram.{Diagram}
use Rattle.verdict_core.specs.declared.verdict.Verdict.{Verdict}
use Rattle.verdict_core.specs.declared.verdict.Verdict.TheVariants.{Equal, Different, UnknownBudget, UnknownExhausted}
use Rattle.verdict_core.specs.Evidence.{VerdictHolds, HasEvidence}
use Rattle.verdict_laws.proofs.verdicts.what_holds_has_evidence.Goals as goal

held : (d e : Diagram) (verdict : Verdict) → VerdictHolds d e verdict → HasEvidence verdict
held d e (Equal moves) holds = search rules
held d e (Different listed one two) holds = search rules
held d e (UnknownBudget budget) holds = holds
held d e (UnknownExhausted cap admitted) holds = holds

pub returns : goal.returns
returns c = held
