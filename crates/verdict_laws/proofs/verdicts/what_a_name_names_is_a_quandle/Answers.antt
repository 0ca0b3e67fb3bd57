use Rattle.quandle_core.proofs.Named.{named_within, order_within}
use Rattle.verdict_laws.proofs.verdicts.what_a_name_names_is_a_quandle.Goals as goal

pub returns-clause-quandle : goal.returns-clause-quandle
returns-clause-quandle c = named_within

pub returns-clause-few : goal.returns-clause-few
returns-clause-few c = order_within
