use Rattle.seek_core.proofs.NoneLost.{none_listed, none_by_formula, first_of_all}
use Rattle.seek_core.proofs.laws.where_no_candidate_separates_no_quandle_does.Goals as goal

pub returns-clause-listed : goal.returns-clause-listed
returns-clause-listed c = none_listed

pub returns-clause-by_formula : goal.returns-clause-by_formula
returns-clause-by_formula c = none_by_formula

pub returns-clause-first : goal.returns-clause-first
returns-clause-first c = first_of_all
