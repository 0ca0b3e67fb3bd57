use Rattle.grid_laws.proofs.ListedSpans.{column_at_place, row_at_place}
use Rattle.grid_laws.proofs.diagrams.the_listed_ends_are_those_of_the_spans.Goals as goal

pub returns-clause-columns : goal.returns-clause-columns
returns-clause-columns c = column_at_place

pub returns-clause-rows : goal.returns-clause-rows
returns-clause-rows c = row_at_place
