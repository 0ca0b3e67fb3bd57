use Rattle.std.proofs.Common.{sym, arith}
use Rattle.text_lines.proofs.Ends.{skipped_empty, skipped_some}
use Rattle.text_lines.proofs.cutting.is_skipped.Goals as goal

pub returns-in-empty : goal.returns-in-empty
returns-in-empty c = sym (skipped_empty c.args.line.now c.after_blanks.result.now c.after_blanks.ensures (omega arith))

pub returns-in-len1-up : goal.returns-in-len1-up
returns-in-len1-up c = sym (skipped_some c.args.line.now c.after_blanks.result.now c.after_blanks.ensures (omega arith))
