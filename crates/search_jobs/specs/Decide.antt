-- The job `decide`: two diagrams and quandles are answered by the verdict on the diagrams.
use Rattle.std.specs.Prelude.{◌≡◌, ◌+◌, min, max, ℕ, List}
use Rattle.grid_core.specs.declared.grid.TheConstants.{MAX_SIZE}
use Rattle.grid_core.specs.Diagram.{Diagram, size}
use Rattle.search_book.specs.declared.problem.Problem.{Problem}
use Rattle.verdict_core.specs.declared.problem.ProblemText.{ProblemText}
use Rattle.verdict_core.specs.declared.verdict.Verdict.{Verdict}
use Rattle.verdict_core.specs.declared.verdict.Verdict.TheVariants.{Equal, Different, UnknownBudget, UnknownExhausted}
use Rattle.knot_text.specs.Printed.{version_text}
use Rattle.verdict_text.specs.declared.verdicts.Version.TheVariants.{Tidy}
use Rattle.verdict_core.specs.Diagrams.{grid_of}
use Rattle.verdict_laws.specs.VerdictDecision.{IsDecisionByVerdict}
use Rattle.pair_verdict.specs.Decided.{Decides}
use Rattle.search_jobs.specs.declared.reply.Reply.{Reply}
use Rattle.knot_words.specs.declared.words.Asked.{Asked}
use Rattle.knot_ports.specs.declared.status.Status.{Status}
use Rattle.knot_ports.specs.declared.status.Status.TheVariants as status

-- the greatest size of a diagram on the way: the larger size and the spare, at most MAX_SIZE
abbrev pub cap_of : Diagram → Diagram → ℕ → ℕ
cap_of d e spare = min MAX_SIZE (max (size d) (size e) + spare)

-- what is searched where no quandle tells the diagrams apart
abbrev pub problem_for : Asked → Diagram → Diagram → Problem
problem_for asked d e = record { first = d; second = e; cap = cap_of d e asked.spare; budget = asked.budget }

abbrev pub verdict_status : Verdict → Status
verdict_status (Equal moves) = status.Done
verdict_status (Different listed one two) = status.Done
verdict_status (UnknownBudget budget) = status.Unknown
verdict_status (UnknownExhausted cap admitted) = status.Unknown

-- the verdict on the diagrams, with the search of so many workers behind it
pub record AnswersDecide (asked : Asked) (input : ProblemText) (reply : Reply) : Type 0 where
  pub verdict : Verdict
  pub decides : Decides (problem_for asked (grid_of input.first) (grid_of input.second)) input.quandles asked.workers verdict reply.kept
  pub status_is : reply.status ≡ verdict_status verdict
  pub text_is : reply.text ≡ version_text Tidy verdict

-- where a reply has Done, its text is a decision on these bytes
abbrev pub IsDecisionIfDone : List ℕ → Reply → Type 0
IsDecisionIfDone bytes reply = reply.status ≡ status.Done → IsDecisionByVerdict bytes reply.text
