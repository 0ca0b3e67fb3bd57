use Rattle.weight_laws.proofs.Lines.{columns_cancel, between_cancel}
use Rattle.weight_laws.proofs.linking.intersections_with_a_vertical_line_cancel.Goals as goal

pub returns-clause-at_columns : goal.returns-clause-at_columns
returns-clause-at_columns c = columns_cancel

pub returns-clause-between_columns : goal.returns-clause-between_columns
returns-clause-between_columns c = between_cancel
