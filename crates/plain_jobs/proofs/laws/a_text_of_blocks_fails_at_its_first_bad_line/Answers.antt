use Rattle.plain_jobs.proofs.NumbersFail.{numbers_fail, blocks_fail}
use Rattle.plain_jobs.proofs.laws.a_text_of_blocks_fails_at_its_first_bad_line.Goals as goal

pub returns-clause-numbers : goal.returns-clause-numbers
returns-clause-numbers c = numbers_fail

pub returns-clause-blocks : goal.returns-clause-blocks
returns-clause-blocks c = blocks_fail
