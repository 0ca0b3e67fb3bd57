use Rattle.std.proofs.Common.{◌∙◌, arith, length, sym, ap}
use Rattle.std.proofs.lemmas.List.FromFn.{length-map-range_with_len}
use Rattle.grid_core.specs.Diagram.{size}
use Rattle.grid_core.specs.Parts.{column_span}
use Rattle.next_moves.proofs.Legal.{columns_touch}
use Rattle.next_moves.proofs.SharedBlocks.{no_blocks}
use Rattle.next_moves.proofs.tries.Tries.destabilise_long_column.Goals as goal

pub touch_once-requires-clause-lows : goal.touch_once-requires-clause-lows
touch_once-requires-clause-lows c =
    let d = c.args.self.now.diagram in
    ap length c.requires.lows ∙ length-map-range_with_len (λ k. (column_span d k).low) 0 (size d) ∙ sym c.size.ensures.size

pub touch_once-requires-clause-highs : goal.touch_once-requires-clause-highs
touch_once-requires-clause-highs c =
    let d = c.args.self.now.diagram in
    ap length c.requires.highs ∙ length-map-range_with_len (λ k. (column_span d k).high) 0 (size d) ∙ sym c.size.ensures.size

pub returns-else-touch_once : goal.returns-else-touch_once
returns-else-touch_once c =
    let d = c.args.self.now.diagram in
    record {
      offered =
          no_blocks d c.args.self.now.cap c.args.c c.args.list.now.items c.size.ensures.grid c.requires.column
          (sym (columns_touch d c.args.c c.size.result c.args.spans.now.lows.items c.args.spans.now.highs.items c.size.ensures.size c.requires.lows
          c.requires.highs c.requires.column)
          ∙ sym c.touch_once.ensures ∙ c.if-touch_once.false);
      fits = omega arith;
    }
