use Rattle.certificate_check.proofs.BlocksSay.{block_text, blocks_text}
use Rattle.certificate_check.proofs.laws.a_block_that_was_read_has_a_text.Goals as goal

pub returns-clause-one : goal.returns-clause-one
returns-clause-one c = block_text

pub returns-clause-each : goal.returns-clause-each
returns-clause-each c = blocks_text
