use Rattle.quandle_core.proofs.Named.{named_so, so_named}
use Rattle.verdict_laws.proofs.verdicts.a_name_but_table_has_one_quandle.Goals as goal

pub returns : goal.returns
returns c = λ name q. (named_so name q, so_named name q)
