use Rattle.verdict_core.specs.Diagrams.{grid_of}
use Rattle.seek_core.proofs.NoneLost.{none_listed, none_by_formula, none_of_problem, names_of}
use Rattle.seek_core.proofs.laws.what_was_tried_in_vain_no_quandle_separates.Goals as goal

pub returns-clause-listed : goal.returns-clause-listed
returns-clause-listed c = λ bytes tried p was read.
    none_listed (grid_of p.first) (grid_of p.second) p.quandles (none_of_problem bytes tried p was read)

pub returns-clause-by_formula : goal.returns-clause-by_formula
returns-clause-by_formula c = λ bytes tried p was read.
    let texts = c.a_verdict_that_holds_is_a_decision.ensures.quandles bytes p read in
    none_by_formula (grid_of p.first) (grid_of p.second) p.quandles (names_of p.quandles texts) (none_of_problem bytes tried p was read)
