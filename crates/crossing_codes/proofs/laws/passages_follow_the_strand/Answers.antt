use Rattle.crossing_codes.proofs.Followed.{round_way}
use Rattle.crossing_codes.proofs.PassageOrder.{column_in_order, row_in_order, met_on_column, met_on_row}
use Rattle.crossing_codes.proofs.laws.passages_follow_the_strand.Goals as goal

pub returns-clause-round : goal.returns-clause-round
returns-clause-round c = λ d s grid lt. let way = round_way d grid s lt in (way.steps, way.comes, way.meets)

pub returns-clause-column : goal.returns-clause-column
returns-clause-column c = column_in_order

pub returns-clause-row : goal.returns-clause-row
returns-clause-row c = row_in_order

pub returns-clause-over : goal.returns-clause-over
returns-clause-over c = met_on_column

pub returns-clause-under : goal.returns-clause-under
returns-clause-under c = met_on_row
