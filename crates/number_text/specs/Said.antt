-- A problem, and what is said of its two diagrams: evidence by numbers, or a verdict of an earlier version.
use Rattle.std.specs.Prelude.{ℕ, ◌&&◌, Bool, false, List, [], ◌∷◌, codes, Result, Ok, Err, if◌then◌else◌}
use Rattle.std.specs.Str.{bytes_eq}
use Rattle.text_lines.specs.Lines.{NumberedLine, Text, text_of}
use Rattle.verdict_core.specs.Diagrams.{column_count}
use Rattle.verdict_core.specs.declared.problem.ProblemText.{ProblemText}
use Rattle.verdict_core.specs.declared.verdict.Verdict.{Verdict}
use Rattle.text_items.specs.declared.fault.TextFault.{TextFault}
use Rattle.text_items.specs.Reading.{◌>>=◌, text_end}
use Rattle.verdict_text.specs.Verdicts.{verdict_item}
use Rattle.verdict_text.specs.Problems.{problem_item, check_in}
use Rattle.number_text.specs.declared.said.Said.{Said}
use Rattle.number_text.specs.declared.said.Said.TheVariants as said
use Rattle.number_text.specs.EvidenceItems.{evidence_item}

-- the tokens of the line `certificate 3`
abbrev pub is_evidence_head : List (List ℕ) → Bool
is_evidence_head [] = false
is_evidence_head (word ∷ []) = false
is_evidence_head (word ∷ version ∷ []) = bytes_eq word (codes "certificate") && bytes_eq version (codes "3")
is_evidence_head (word ∷ version ∷ token ∷ tokens) = false

-- the first line is `certificate 3`
abbrev pub starts_evidence : List NumberedLine → Bool
starts_evidence [] = false
starts_evidence (line ∷ lines) = is_evidence_head line.tokens

-- a problem was read, and the line `certificate 3` stands behind it
abbrev pub evidence_follows : Result (ProblemText × Text) TextFault → Bool
evidence_follows (Ok problem) = starts_evidence problem.1.lines
evidence_follows (Err fault) = false

-- a problem and evidence by numbers, and nothing behind them
unfoldable pub evidence_in : Text → Result (ProblemText × Said) TextFault
evidence_in text = do
  problem ← problem_item text
  evidence ← evidence_item problem.1
  end ← text_end evidence.1
  Ok (problem.0, said.Evidence evidence.0)

-- a problem and evidence by numbers, from the bytes of a text
abbrev pub evidence_of : List ℕ → Result (ProblemText × Said) TextFault
evidence_of bytes = evidence_in (text_of bytes)

-- a problem and a verdict, as what is said of its diagrams
abbrev pub with_verdict : Result (ProblemText × Verdict) TextFault → Result (ProblemText × Said) TextFault
with_verdict read = do
  check ← read
  Ok (check.0, said.Verdict check.1)

-- behind a problem stands evidence by numbers, and nothing more
unfoldable pub evidence_after : ProblemText → Text → Result (ProblemText × Said) TextFault
evidence_after problem text = do
  evidence ← evidence_item text
  end ← text_end evidence.1
  Ok (problem, said.Evidence evidence.0)

-- behind a problem stands a verdict of an earlier version, and nothing more
unfoldable pub verdict_after : ProblemText → Text → Result (ProblemText × Said) TextFault
verdict_after problem text = do
  verdict ← verdict_item (column_count problem.first) (column_count problem.second) text
  end ← text_end verdict.1
  Ok (problem, said.Verdict verdict.0)

-- evidence by numbers where that line stands behind the problem, else a verdict, as `check_in` reads it
abbrev pub said_in : Text → Result (ProblemText × Said) TextFault
said_in text = if evidence_follows (problem_item text) then evidence_in text else with_verdict (check_in text)

-- a problem and what is said of its two diagrams, from the bytes of a text
abbrev pub said_of : List ℕ → Result (ProblemText × Said) TextFault
said_of bytes = said_in (text_of bytes)
