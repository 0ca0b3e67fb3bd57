-- The diagrams of a problem are grids.
use Rattle.std.proofs.Common.{◌≡◌, ℕ, List, Ok, subst}
use Rattle.grid_core.specs.Diagram.{IsGrid}
use Rattle.text_lines.specs.Lines.{text_of}
use Rattle.verdict_core.specs.declared.problem.ProblemText.{ProblemText}
use Rattle.verdict_core.specs.Diagrams.{grid_of}
use Rattle.text_items.specs.Reading.{◌>>=◌, text_end}
use Rattle.verdict_text.specs.Problems.{problem_item, problem_in, problem_of}
use Rattle.knot_text.proofs.Steady.{bind_ok, ok_is}
use Rattle.knot_text.proofs.GridsRead.{problem_grids}

pub grids_of_problem : (bytes : List ℕ) (p : ProblemText) → problem_of bytes ≡ Ok p → IsGrid (grid_of p.first) × IsGrid (grid_of p.second)
unfolding problem_in
grids_of_problem bytes p is =
    let a = bind_ok (problem_item (text_of bytes)) (λ problem. text_end problem.1 >>= λ end. Ok problem.0) p is in
    let b = bind_ok (text_end a.0.1) (λ end. Ok a.0.0) p a.2 in
    let same = ok_is a.0.0 p b.2 in
    subst (λ (y : ProblemText). IsGrid (grid_of y.first) × IsGrid (grid_of y.second)) same (problem_grids (text_of bytes) a.0.0 a.0.1 a.1)
