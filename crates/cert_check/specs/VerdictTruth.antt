-- What a verdict on the diagrams of a problem claims.
use Rattle.verdict_core.specs.declared.problem.ProblemText.{ProblemText}
use Rattle.verdict_core.specs.declared.verdict.Verdict.{Verdict}
use Rattle.verdict_core.specs.Diagrams.{grid_of}
use Rattle.verdict_core.specs.Evidence.{Claims}

-- what the verdict says of the diagrams is true: diagrams said to be equal are equivalent, and no list of moves joins diagrams
-- that are told apart
abbrev pub IsTrueVerdict : ProblemText → Verdict → Type 0
IsTrueVerdict problem verdict = Claims (grid_of problem.first) (grid_of problem.second) verdict
