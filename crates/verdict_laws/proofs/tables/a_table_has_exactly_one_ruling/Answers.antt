use Rattle.verdict_laws.proofs.OneTableRuling.{one_table_ruling}
use Rattle.verdict_laws.proofs.SomeTableRuling.{some_table_ruling}
use Rattle.verdict_laws.proofs.tables.a_table_has_exactly_one_ruling.Goals as goal

pub returns-clause-some : goal.returns-clause-some
returns-clause-some c = some_table_ruling

pub returns-clause-single : goal.returns-clause-single
returns-clause-single c = one_table_ruling
