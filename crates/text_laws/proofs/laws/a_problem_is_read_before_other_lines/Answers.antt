use Rattle.knot_text.proofs.ShapesFail.{problem_stable}
use Rattle.text_laws.proofs.laws.a_problem_is_read_before_other_lines.Goals as goal

pub returns : goal.returns
returns c = problem_stable
