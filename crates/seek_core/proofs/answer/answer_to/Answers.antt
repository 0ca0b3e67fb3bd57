use Rattle.std.proofs.lemmas.List.Elements.{All-from_recursion}
use Rattle.knot_text.specs.Printed.{HasQuandleText}
use Rattle.seek_core.proofs.answer.answer_to.Goals as goal

pub answer_problem-requires-after_bounds : goal.answer_problem-requires-after_bounds
answer_problem-requires-after_bounds g c κs within =
    All-from_recursion HasQuandleText c.in-Ok.problem.quandles
    (c.a_verdict_that_holds_is_a_decision.ensures.quandles c.args.bytes.now c.in-Ok.problem c.in-Ok.ensures)
