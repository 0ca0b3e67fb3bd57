use Rattle.certificates.proofs.Earlier.{read_so, was_read_so}
use Rattle.certificates.proofs.laws.what_was_read_before_is_read_so.Goals as goal

pub returns-clause-so : goal.returns-clause-so
returns-clause-so c = read_so

pub returns-clause-only : goal.returns-clause-only
returns-clause-only c = was_read_so
