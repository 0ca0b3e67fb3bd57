-- What is found has a tidy list of moves, if it is by moves.
use Rattle.verdict_core.specs.declared.problem.ProblemText.{ProblemText}
use Rattle.number_text.specs.declared.said.Said.{Said}
use Rattle.number_text.specs.declared.said.Said.TheVariants as said
use Rattle.certificates.specs.Said.{IsTidySaid}
use Rattle.certificate_check.specs.Decision.{IsFindingOf}

pub tidy_said : (p : ProblemText) (x : Said) → IsFindingOf p x → IsTidySaid x
tidy_said p (said.Verdict v) finding = finding.tidy
tidy_said p (said.Evidence x) finding = tt
