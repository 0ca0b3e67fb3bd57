use Rattle.knot_text.proofs.Written.{lines_read}
use Rattle.text_laws.proofs.lines.written_lines_are_read.Goals as goal

pub returns : goal.returns
returns c = lines_read
