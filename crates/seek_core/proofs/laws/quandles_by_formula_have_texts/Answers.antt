use Rattle.seek_core.proofs.ByFormula.{formula_texts}
use Rattle.seek_core.proofs.laws.quandles_by_formula_have_texts.Goals as goal

pub returns : goal.returns
returns c = formula_texts
