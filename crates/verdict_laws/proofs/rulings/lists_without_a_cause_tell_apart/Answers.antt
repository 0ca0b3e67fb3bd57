use Rattle.cert_check.proofs.ListCauses.{tells_apart, no_cause_where_told_apart}
use Rattle.verdict_laws.proofs.rulings.lists_without_a_cause_tell_apart.Goals as goal

pub returns : goal.returns
returns c = λ t d e one two. (tells_apart t d e one two, no_cause_where_told_apart t d e one two)
