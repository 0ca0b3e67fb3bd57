use Rattle.seek_core.proofs.NoneLost.{fit_both, known}
use Rattle.seek_core.proofs.laws.a_candidate_is_listed_or_by_formula.Goals as goal

pub returns-clause-fit : goal.returns-clause-fit
returns-clause-fit c = fit_both

pub returns-clause-kinds : goal.returns-clause-kinds
returns-clause-kinds c = known
