use Rattle.std.proofs.Common.{◌≤◌, ◌∙◌, arith, length, length-set}
use Rattle.grid_core.specs.Diagram.{size}
use Rattle.crossing_codes.proofs.Tables.{columns_more, columns_all}
use Rattle.crossing_codes.proofs.layout.columns_by_row.Goals as goal

pub loop-column-preserved : goal.loop-column-preserved
loop-column-preserved c =
    let grid = c.size-size.ensures.grid in
    let most = grid.most in
    let long : size c.args.grid.now ≤ length c.loop-column.columns = omega arith in record {
      long = length-set c.loop-column.columns c.row_of.result c.loop-column.column ∙ c.loop-column.invariant.long;
      so_far =
          rw c.row_of.ensures.row
          (columns_more c.args.kind c.args.grid.now grid c.loop-column.columns c.loop-column.column long (omega arith) c.loop-column.invariant.so_far);
    }

pub returns : goal.returns
returns c =
    columns_all c.args.kind c.args.grid.now c.size-size.ensures.grid c.loop-column.columns c.loop-column.column (omega arith) c.loop-column.invariant.so_far
