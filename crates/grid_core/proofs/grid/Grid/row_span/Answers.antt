use Rattle.grid_core.proofs.Ends.{has_ends}
use Rattle.grid_core.proofs.grid.Grid.row_span.Goals as goal

pub returns-clause-within : goal.returns-clause-within
returns-clause-within c =
    let known = has_ends c.args.self.now c.size-size.ensures.grid c.args.r c.requires in
    rw (c.between.ensures, c.column_of.ensures.column, c.column_of-2.ensures.column) (known.ordered, known.within)
