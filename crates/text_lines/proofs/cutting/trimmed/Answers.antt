use Rattle.std.proofs.Common.{sym, ◌∙◌, arith}
use Rattle.text_lines.proofs.Ends.{trimmed_return, trimmed_kept}
use Rattle.text_lines.proofs.cutting.trimmed.Goals as goal
use Rattle.text_lines.proofs.cutting.trimmed.Goals.{else-size-gt0-via-then-size-gt0+else-line-size-eq13, else-size-gt0-via-else-size-gt0}

pub returns-then-line-size-eq13 : goal.returns-then-line-size-eq13
returns-then-line-size-eq13 c = c.split_at.ensures.front ∙ sym (trimmed_return c.args.line.now c.if-size-gt0.true c.if-line-size-eq13.true)

pub returns-else-size-gt0 : goal.returns-else-size-gt0
returns-else-size-gt0 c =
    elim c.else-size-gt0.branch [
      | else-size-gt0-via-then-size-gt0+else-line-size-eq13 w ↦ sym (trimmed_kept c.args.line.now (λ some last. w.if-line-size-eq13.false last))
      | else-size-gt0-via-else-size-gt0 w ↦ sym (trimmed_kept c.args.line.now (λ some last. absurd (omega arith)))
    ]
