use Rattle.code_rows.proofs.OtherEnds.{other_ends}
use Rattle.code_rows.proofs.laws.each_end_has_another.Goals as goal

pub returns : goal.returns
returns c = λ code joins. other_ends code joins
