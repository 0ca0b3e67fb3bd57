use Rattle.seek_core.proofs.OwnTables.{formula_once}
use Rattle.seek_core.proofs.laws.each_quandle_by_formula_stands_once.Goals as goal

pub returns : goal.returns
returns c = formula_once
