use Rattle.search_jobs.proofs.LeastTexts.{tells_least, one_exactly}
use Rattle.search_jobs.proofs.laws.whole_texts_begin_with_one_diagram_exactly_where_exchanges_join.Goals as goal

pub returns-clause-least : goal.returns-clause-least
returns-clause-least c = tells_least

pub returns-clause-one : goal.returns-clause-one
returns-clause-one c = one_exactly
