-- The lines in which the jobs answer, as tokens, which are printed with one space between them.
use Rattle.std.specs.Prelude.{ℕ, List, [], ◌∷◌, codes}
use Rattle.std.specs.Fmt.{decimal}
use Rattle.grid_moves.specs.declared.step.MoveFault.{MoveFault}
use Rattle.grid_moves.specs.declared.step.MoveFault.TheVariants as fault
use Rattle.text_lines.specs.Spelled.{line_text}
use Rattle.cert_check.specs.declared.ruling.Ruling.{Ruling}
use Rattle.cert_check.specs.declared.ruling.Ruling.TheVariants.{Accepted, Rejected}
use Rattle.cert_check.specs.declared.ruling.Why.{Why}
use Rattle.cert_check.specs.declared.ruling.Why.TheVariants as why
use Rattle.evidence_core.specs.declared.cause.NumberRuling.{NumberRuling}
use Rattle.evidence_core.specs.declared.cause.NumberRuling.TheVariants as numbers
use Rattle.evidence_core.specs.declared.cause.Cause.{Cause}
use Rattle.evidence_core.specs.declared.cause.Cause.TheVariants as cause

-- why a move is not legal
abbrev pub fault_tokens : MoveFault → List (List ℕ)
fault_tokens fault.Range = codes "range" ∷ []
fault_tokens fault.Touching = codes "touching" ∷ []
fault_tokens fault.Interleaved = codes "interleaved" ∷ []
fault_tokens (fault.Block marks) = codes "block" ∷ decimal marks ∷ []
fault_tokens fault.Full = codes "full" ∷ []
fault_tokens fault.Apart = codes "apart" ∷ []

-- the first move that is not legal, by its place
abbrev pub illegal_step_tokens : ℕ → MoveFault → List (List ℕ)
illegal_step_tokens place fault = codes "step" ∷ decimal place ∷ fault_tokens fault

-- why evidence does not hold
abbrev pub why_tokens : Why → List (List ℕ)
why_tokens (why.Step place fault) = illegal_step_tokens place fault
why_tokens why.OtherEnd = codes "otherend" ∷ []
why_tokens (why.Wide which bottoms) = codes "wide" ∷ decimal which ∷ decimal bottoms ∷ []
why_tokens (why.List which place) = codes "list" ∷ decimal which ∷ decimal place ∷ []
why_tokens why.SameLength = codes "samelength" ∷ []
why_tokens why.NoEvidence = codes "noevidence" ∷ []

abbrev pub rejected_line : List (List ℕ) → List ℕ
rejected_line cause = line_text (codes "rejected" ∷ cause)

abbrev pub ruling_line : Ruling → List ℕ
ruling_line Accepted = line_text (codes "accepted" ∷ [])
ruling_line (Rejected cause) = rejected_line (why_tokens cause)

-- why evidence by numbers does not hold
abbrev pub cause_tokens : Cause → List (List ℕ)
cause_tokens (cause.Outside which column) = codes "outside" ∷ decimal which ∷ decimal column ∷ []
cause_tokens (cause.Unsettled which column) = codes "unsettled" ∷ decimal which ∷ decimal column ∷ []
cause_tokens (cause.Wide which seeds) = codes "wide" ∷ decimal which ∷ decimal seeds ∷ []
cause_tokens (cause.Components which) = codes "components" ∷ decimal which ∷ []
cause_tokens (cause.Number which place) = codes "number" ∷ decimal which ∷ decimal place ∷ []
cause_tokens cause.Equal = codes "samenumbers" ∷ []

abbrev pub number_ruling_line : NumberRuling → List ℕ
number_ruling_line numbers.Accepted = line_text (codes "accepted" ∷ [])
number_ruling_line (numbers.Rejected cause) = rejected_line (cause_tokens cause)

-- the first bad line of an input, by its number
abbrev pub malformed_line : ℕ → List ℕ
malformed_line n = line_text (codes "malformed" ∷ codes "line" ∷ decimal n ∷ [])

abbrev pub limit_line : ℕ → List ℕ
limit_line n = line_text (codes "limit" ∷ codes "line" ∷ decimal n ∷ [])

-- too many bytes
abbrev pub limit_bytes : List ℕ
limit_bytes = line_text (codes "limit" ∷ codes "bytes" ∷ [])
