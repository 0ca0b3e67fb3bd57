use Rattle.plain_jobs.proofs.CodeFails.{code_fails}
use Rattle.plain_jobs.proofs.laws.a_code_fails_at_its_first_bad_line.Goals as goal

pub returns : goal.returns
returns c = code_fails
