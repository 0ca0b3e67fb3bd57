use Rattle.colour_rows.proofs.ListedSpans.{columns_cover, none_behind, are_spans}
use Rattle.quandle_laws.proofs.rows.the_listed_spans_are_those_of_the_columns.Goals as goal

pub returns-clause-columns : goal.returns-clause-columns
returns-clause-columns c = columns_cover

pub returns-clause-behind : goal.returns-clause-behind
returns-clause-behind c = none_behind

pub returns-clause-ordered : goal.returns-clause-ordered
returns-clause-ordered c = are_spans
