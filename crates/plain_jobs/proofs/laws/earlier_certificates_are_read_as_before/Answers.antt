use Rattle.check_job.proofs.Read.{pair_read_so, others_read_so}
use Rattle.plain_jobs.proofs.laws.earlier_certificates_are_read_as_before.Goals as goal

pub returns-clause-read : goal.returns-clause-read
returns-clause-read c = pair_read_so

pub returns-clause-others : goal.returns-clause-others
returns-clause-others c = others_read_so
