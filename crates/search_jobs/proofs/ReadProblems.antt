-- The verdict on a problem that was read has a text.
use Rattle.std.proofs.Common.{◌≡◌, ℕ, List, Option, Ok}
use Rattle.std.specs.List.{AllByRecursion}
use Rattle.grid_core.specs.Diagram.{IsGrid, size}
use Rattle.verdict_core.specs.declared.problem.ProblemText.{ProblemText}
use Rattle.verdict_core.specs.declared.verdict.Verdict.{Verdict}
use Rattle.quandle_core.specs.Names.{NamedQuandle}
use Rattle.verdict_core.specs.Diagrams.{grid_of, column_count}
use Rattle.verdict_text.specs.declared.verdicts.Version.TheVariants.{Tidy}
use Rattle.knot_text.specs.Printed.{HasQuandleText, HasVersionText}
use Rattle.verdict_text.specs.Problems.{problem_of}
use Rattle.search_book.specs.declared.problem.Problem.{Problem}
use Rattle.search_pool.specs.declared.finding.Finding.{Finding}
use Rattle.pair_verdict.specs.Decided.{Decides}
use Rattle.verdict_laws.specs.VerdictDecision.{HasFewMoves}
use Rattle.verdict_laws.proofs.Grids.{grids_of_problem}
use Rattle.verdict_laws.proofs.AcceptedBehind.{quandles_text}
use Rattle.knot_words.specs.declared.words.Asked.{Asked}
use Rattle.search_jobs.specs.Decide.{problem_for}

-- the law that a decision has a text
abbrev pub HaveTexts : Type 0
HaveTexts = (p : Problem) (quandles : List NamedQuandle) (workers : ℕ) (v : Verdict) (kept : Option Finding) → IsGrid p.first → IsGrid p.second
    → AllByRecursion HasQuandleText quandles → Decides p quandles workers v kept → HasFewMoves v → HasVersionText Tidy (size p.first) (size p.second) v

pub has_text : HaveTexts → (bytes : List ℕ) (asked : Asked) (input : ProblemText) (workers : ℕ) (v : Verdict) (kept : Option Finding)
    → problem_of bytes ≡ Ok input
    → Decides (problem_for asked (grid_of input.first) (grid_of input.second)) input.quandles workers v kept
    → HasFewMoves v → HasVersionText Tidy (column_count input.first) (column_count input.second) v
has_text texts bytes asked input workers v kept read decides short =
    let p = problem_for asked (grid_of input.first) (grid_of input.second) in
    let grids = grids_of_problem bytes input read in
    texts p input.quandles workers v kept grids.0 grids.1 (quandles_text bytes input read) decides short
