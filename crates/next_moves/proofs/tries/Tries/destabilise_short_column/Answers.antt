use Rattle.std.proofs.Common.{◌∙◌, arith, sym}
use Rattle.next_moves.proofs.Legal.{columns_told, column_slides}
use Rattle.next_moves.proofs.SharedBlocks.{no_blocks}
use Rattle.next_moves.proofs.tries.Tries.destabilise_short_column.Goals as goal

pub may_slide-requires : goal.may_slide-requires
may_slide-requires c =
    (columns_told c.args.self.now.diagram c.args.c c.args.trades.now c.requires.trades c.size-size.ensures.grid c.requires.column).slide_inside

pub returns-else-may_slide : goal.returns-else-may_slide
returns-else-may_slide c =
    let d = c.args.self.now.diagram in
    let grid = c.size-size.ensures.grid in
    let told = columns_told d c.args.c c.args.trades.now c.requires.trades grid c.requires.column in
    record {
      offered =
          no_blocks d c.args.self.now.cap c.args.c c.args.list.now.items grid c.requires.column
          (sym (column_slides d c.args.c grid c.requires.column) ∙ sym told.slide ∙ sym c.may_slide.ensures ∙ c.if-may_slide.false);
      fits = omega arith;
    }
