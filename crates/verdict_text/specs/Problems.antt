-- The whole text of a problem, and of a problem with a verdict behind it.
use Rattle.std.specs.Prelude.{ℕ, List, Result, Ok}
use Rattle.text_lines.specs.Lines.{Text, text_of}
use Rattle.text_items.specs.declared.fault.TextFault.{TextFault}
use Rattle.verdict_core.specs.declared.verdict.Verdict.{Verdict}
use Rattle.verdict_core.specs.declared.problem.ProblemText.{ProblemText}
use Rattle.verdict_core.specs.Diagrams.{column_count}
use Rattle.text_items.specs.Reading.{◌>>=◌, text_end}
use Rattle.verdict_text.specs.Diagrams.{diagram_item}
use Rattle.text_items.specs.Quandles.{quandle_list}
use Rattle.verdict_text.specs.Verdicts.{verdict_item}

-- two diagrams and any number of quandles, without which the built-in list stands
unfoldable pub problem_item : Text → Result (ProblemText × Text) TextFault
problem_item text = do
  first ← diagram_item text
  second ← diagram_item first.1
  listed ← quandle_list second.1
  Ok (record { first = first.0; second = second.0; quandles = listed.0 }, listed.1)

-- a problem, and nothing behind it
unfoldable pub problem_in : Text → Result ProblemText TextFault
problem_in text = do
  problem ← problem_item text
  end ← text_end problem.1
  Ok problem.0

-- a problem and a verdict on its diagrams
unfoldable pub check_in : Text → Result (ProblemText × Verdict) TextFault
check_in text = do
  problem ← problem_item text
  verdict ← verdict_item (column_count problem.0.first) (column_count problem.0.second) problem.1
  end ← text_end verdict.1
  Ok (problem.0, verdict.0)

-- a problem, from the bytes of a text
abbrev pub problem_of : List ℕ → Result ProblemText TextFault
problem_of bytes = problem_in (text_of bytes)

-- a problem and a verdict on its diagrams, from the bytes of a text
abbrev pub check_of : List ℕ → Result (ProblemText × Verdict) TextFault
check_of bytes = check_in (text_of bytes)
