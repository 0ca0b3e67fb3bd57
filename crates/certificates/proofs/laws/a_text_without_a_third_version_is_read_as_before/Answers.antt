use Rattle.certificates.proofs.Earlier.{as_before}
use Rattle.certificates.proofs.laws.a_text_without_a_third_version_is_read_as_before.Goals as goal

pub returns : goal.returns
returns c = as_before
