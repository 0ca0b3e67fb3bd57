use Rattle.std.proofs.Common.{subst}
use Rattle.grid_core.specs.Diagram.{IsGrid}
use Rattle.crossing_codes.proofs.Tables.{row_within}
use Rattle.crossing_codes.proofs.layout.Layout.row_span.Goals as goal

pub returns-clause-within : goal.returns-clause-within
returns-clause-within c =
    rw (c.between.ensures, c.column_of.ensures.column, c.column_of-2.ensures.column)
    (row_within c.args.self.now (subst IsGrid c.self.view_is c.size-size.ensures.grid) c.args.row c.requires)
