use Rattle.text_laws.proofs.BraidAgain.{braid_read}
use Rattle.knot_text.proofs.GridsRead.{braid_is}
use Rattle.text_laws.proofs.laws.a_written_braid_is_read.Goals as goal

pub returns-clause-text : goal.returns-clause-text
returns-clause-text c = braid_read

pub returns-clause-braid : goal.returns-clause-braid
returns-clause-braid c = braid_is
