use Rattle.grid_laws.proofs.BottomMarks.{below_others, others_above}
use Rattle.grid_laws.proofs.diagrams.a_bottom_lies_below_its_columns_other_marks.Goals as goal

pub returns : goal.returns
returns c = λ d r grid lt. (below_others d r grid lt, others_above d r grid lt)
