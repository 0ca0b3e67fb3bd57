use Rattle.std.proofs.Common.{arith, codes}
use Rattle.std.specs.Fmt.{decimal}
use Rattle.text_lines.specs.Spelled.{spaced}
use Rattle.text_lines.proofs.Parts.{on_err, part_none, part_behind, part_in_turn}
use Rattle.text_lines.proofs.writing.push_spaced.Goals as goal

pub returns-in_err-push-clause-part : goal.returns-in_err-push-clause-part
returns-in_err-push-clause-part c =
    let part = part_none _ _ (spaced _) c.in_err-push.ensures.items (omega arith) in
    on_err c.from_residual.result _ (part_in_turn (λ n. spaced (decimal n)) _ _ 0 _ _ _ c.loop-number-test.true c.loop-number.invariant part)

pub returns-in_err-push_small-clause-part : goal.returns-in_err-push_small-clause-part
returns-in_err-push_small-clause-part c =
    let part = part_behind _ _ _ (codes " ") _ c.in_ok-push.ensures.items c.in_err-push_small.ensures.part in
    on_err c.from_residual-in_err-push_small.result _ (part_in_turn (λ n. spaced (decimal n)) _ _ 0 _ _ _ c.loop-number-test.true c.loop-number.invariant part)
