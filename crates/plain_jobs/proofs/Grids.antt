-- The diagrams of an input are grids.
use Rattle.std.proofs.Common.{◌≡◌, ℕ, List, Bool, true, false, cond, Ok, subst, ap}
use Rattle.grid_core.specs.Diagram.{IsGrid}
use Rattle.text_lines.specs.Lines.{text_of}
use Rattle.verdict_core.specs.declared.problem.ProblemText.{ProblemText}
use Rattle.knot_text.specs.declared.shapes.ReplayText.{ReplayText}
use Rattle.verdict_core.specs.declared.verdict.Verdict.{Verdict}
use Rattle.text_items.specs.Reading.{◌>>=◌, text_end}
use Rattle.verdict_text.specs.Moves.{moves_item}
use Rattle.verdict_text.specs.Verdicts.{verdict_item}
use Rattle.knot_text.specs.Colours.{coloured}
use Rattle.verdict_core.specs.Diagrams.{grid_of, column_count}
use Rattle.verdict_text.specs.Diagrams.{diagram_item}
use Rattle.verdict_text.specs.Problems.{problem_item, check_in, check_of}
use Rattle.knot_text.specs.Shapes.{replay_in, replay_of}
use Rattle.number_text.specs.EvidenceItems.{evidence_item}
use Rattle.number_text.specs.declared.said.Said.{Said}
use Rattle.number_text.specs.declared.said.Said.TheVariants as said
use Rattle.number_text.specs.Said.{evidence_follows, evidence_in, evidence_of, with_verdict, said_of}
use Rattle.knot_text.proofs.Steady.{bind_ok, ok_is}
use Rattle.knot_text.proofs.GridsRead.{diagram_is, problem_grids}

check_grids : (bytes : List ℕ) (p : ProblemText) (v : Verdict) → check_of bytes ≡ Ok (p, v) → IsGrid (grid_of p.first) × IsGrid (grid_of p.second)
unfolding check_in
check_grids bytes p v is =
    let text = text_of bytes in
    let a = bind_ok (problem_item text)
    (λ problem. verdict_item (column_count problem.0.first) (column_count problem.0.second) problem.1
    >>= λ verdict. text_end verdict.1 >>= λ end. Ok (problem.0, verdict.0)) (p, v) is in
    let q = a.0.0 in
    let b =
    bind_ok (verdict_item (column_count q.first) (column_count q.second) a.0.1) (λ verdict. text_end verdict.1 >>= λ end. Ok (q, verdict.0)) (p, v) a.2 in
    let c = bind_ok (text_end b.0.1) (λ end. Ok (q, b.0.0)) (p, v) b.2 in
    let same : q ≡ p = ap (λ (y : ProblemText × Verdict). y.0) (ok_is (q, b.0.0) (p, v) c.2) in
    subst (λ (y : ProblemText). IsGrid (grid_of y.first) × IsGrid (grid_of y.second)) {x = q} same (problem_grids text q a.0.1 a.1)

-- the same of whatever is said of them
pub said_grids : (bytes : List ℕ) (p : ProblemText) (s : Said) → said_of bytes ≡ Ok (p, s) → IsGrid (grid_of p.first) × IsGrid (grid_of p.second)
unfolding evidence_in
said_grids bytes p s is = by (evidence_follows (problem_item (text_of bytes))) is
  where
    by : (t : Bool) → cond t (evidence_of bytes) (with_verdict (check_of bytes)) ≡ Ok (p, s) → IsGrid (grid_of p.first) × IsGrid (grid_of p.second)
    by true is =
        let text = text_of bytes in
        let a = bind_ok (problem_item text)
        (λ problem. evidence_item problem.1 >>= λ evidence. text_end evidence.1 >>= λ end. Ok (problem.0, said.Evidence evidence.0)) (p, s) is in
        let q = a.0.0 in
        let b = bind_ok (evidence_item a.0.1) (λ evidence. text_end evidence.1 >>= λ end. Ok (q, said.Evidence evidence.0)) (p, s) a.2 in
        let c = bind_ok (text_end b.0.1) (λ end. Ok (q, said.Evidence b.0.0)) (p, s) b.2 in
        let same : q ≡ p = ap (λ (y : ProblemText × Said). y.0) (ok_is (q, said.Evidence b.0.0) (p, s) c.2) in
        subst (λ (y : ProblemText). IsGrid (grid_of y.first) × IsGrid (grid_of y.second)) {x = q} same (problem_grids text q a.0.1 a.1)
    by false is =
        let a = bind_ok (check_of bytes) (λ check. Ok (check.0, said.Verdict check.1)) (p, s) is in
        let same : a.0.0 ≡ p = ap (λ (y : ProblemText × Said). y.0) (ok_is (a.0.0, said.Verdict a.0.1) (p, s) a.2) in
        subst (λ (y : ProblemText). IsGrid (grid_of y.first) × IsGrid (grid_of y.second)) {x = a.0.0} same (check_grids bytes a.0.0 a.0.1 a.1)

pub replay_grid : (bytes : List ℕ) (r : ReplayText) → replay_of bytes ≡ Ok r → IsGrid (grid_of r.diagram)
unfolding replay_in
replay_grid bytes r is =
    let text = text_of bytes in
    let a = bind_ok (diagram_item text)
    (λ diagram. moves_item diagram.1
    >>= λ moves. coloured (column_count diagram.0) moves.1
    >>= λ colours. text_end colours.1
    >>= λ end. Ok (record { diagram = diagram.0; moves = moves.0; colours = colours.0 })) r is in
    let d = a.0.0 in
    let b = bind_ok (moves_item a.0.1)
    (λ moves. coloured (column_count d) moves.1
    >>= λ colours. text_end colours.1
    >>= λ end. Ok (record { diagram = d; moves = moves.0; colours = colours.0 })) r a.2 in
    let moves = b.0.0 in
    let c = bind_ok (coloured (column_count d) b.0.1)
    (λ colours. text_end colours.1 >>= λ end. Ok (record { diagram = d; moves = moves; colours = colours.0 })) r b.2 in
    let made : ReplayText = record { diagram = d; moves = moves; colours = c.0.0 } in
    let e = bind_ok (text_end c.0.1) (λ end. Ok made) r c.2 in
    subst (λ (y : ReplayText). IsGrid (grid_of y.diagram)) {x = made} (ok_is made r e.2) (diagram_is text d a.0.1 a.1)
