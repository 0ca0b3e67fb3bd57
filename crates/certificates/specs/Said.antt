-- The text of what is said of two diagrams.
use Rattle.std.specs.Prelude.{ℕ, List}
use Rattle.verdict_core.specs.Evidence.{IsTidyVerdict}
use Rattle.verdict_text.specs.declared.verdicts.Version.TheVariants.{Tidy}
use Rattle.knot_text.specs.Printed.{version_text}
use Rattle.number_text.specs.declared.said.Said.{Said}
use Rattle.number_text.specs.declared.said.Said.TheVariants as said
use Rattle.certificates.specs.Printed.{third_text}

-- the moves of what is said, if any, are a tidy list
abbrev pub IsTidySaid : Said → Type 0
IsTidySaid (said.Verdict v) = IsTidyVerdict v
IsTidySaid (said.Evidence x) = Unit {0}

-- a verdict as a certificate of the second version, evidence by numbers as one of the third
abbrev pub said_text : Said → List ℕ
said_text (said.Verdict v) = version_text Tidy v
said_text (said.Evidence x) = third_text x
