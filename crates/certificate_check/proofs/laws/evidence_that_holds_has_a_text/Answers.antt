use Rattle.certificate_check.proofs.HeldTexts.{held_text}
use Rattle.certificate_check.proofs.laws.evidence_that_holds_has_a_text.Goals as goal

pub returns : goal.returns
returns c = held_text
