use Rattle.crossing_codes.proofs.PassageOrder.{crossings_in_order}
use Rattle.crossing_codes.proofs.laws.crossings_stand_by_row_and_column.Goals as goal

pub returns : goal.returns
returns c = crossings_in_order
