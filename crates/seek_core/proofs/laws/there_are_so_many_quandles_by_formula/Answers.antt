use Rattle.std.proofs.Common.{refl}
use Rattle.seek_core.proofs.laws.there_are_so_many_quandles_by_formula.Goals as goal

pub returns : goal.returns
returns c = refl
