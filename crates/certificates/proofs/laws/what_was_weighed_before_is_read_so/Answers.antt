use Rattle.text_lines.specs.Lines.{text_of}
use Rattle.certificates.proofs.WeighedBefore.{weighed_before}
use Rattle.certificates.proofs.laws.what_was_weighed_before_is_read_so.Goals as goal

pub returns : goal.returns
returns c = λ bytes w read. weighed_before (text_of bytes) w read
