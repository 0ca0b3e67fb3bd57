use Rattle.plain_jobs.proofs.TableFails.{table_fails, certificate_fails}
use Rattle.plain_jobs.proofs.laws.a_certificate_fails_at_its_first_bad_line.Goals as goal

pub returns-clause-table : goal.returns-clause-table
returns-clause-table c = table_fails

pub returns-clause-certificate : goal.returns-clause-certificate
returns-clause-certificate c = certificate_fails
