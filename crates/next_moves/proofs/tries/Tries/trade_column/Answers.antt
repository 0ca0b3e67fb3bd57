use Rattle.std.proofs.Common.{◌≡◌, ◌∙◌, arith, false, length, sym, ap}
use Rattle.std.proofs.lemmas.List.FromFn.{length-map-range_with_len}
use Rattle.grid_core.specs.Diagram.{size}
use Rattle.grid_core.specs.Parts.{column_span}
use Rattle.next_moves.specs.Tries.{try_column_slide}
use Rattle.next_moves.specs.Offers.{is_legal}
use Rattle.next_moves.proofs.Legal.{column_trades_by_lanes, column_slides, columns_touch}
use Rattle.next_moves.proofs.Trades.{columns_kept}
use Rattle.next_moves.proofs.tries.Tries.trade_column.Goals as goal

pub exchange_columns-requires-clause-legal : goal.exchange_columns-requires-clause-legal
exchange_columns-requires-clause-legal c =
    sym (column_trades_by_lanes c.args.self.now.diagram c.args.c c.size-size.ensures.grid c.requires.column)
    ∙ sym c.requires.exchanges ∙ sym c.has_bit.ensures ∙ c.if-has_bit.true

pub touch_once-requires-clause-lows : goal.touch_once-requires-clause-lows
touch_once-requires-clause-lows c =
    let d = c.args.self.now.diagram in
    ap length c.requires.lows ∙ length-map-range_with_len (λ k. (column_span d k).low) 0 (size d) ∙ sym c.size-size.ensures.size

pub touch_once-requires-clause-highs : goal.touch_once-requires-clause-highs
touch_once-requires-clause-highs c =
    let d = c.args.self.now.diagram in
    ap length c.requires.highs ∙ length-map-range_with_len (λ k. (column_span d k).high) 0 (size d) ∙ sym c.size-size.ensures.size

pub slide_columns-requires-clause-no_exchange : goal.slide_columns-requires-clause-no_exchange
slide_columns-requires-clause-no_exchange c =
    sym (column_trades_by_lanes c.args.self.now.diagram c.args.c c.size-size.ensures.grid c.requires.column)
    ∙ sym c.requires.exchanges ∙ sym c.has_bit.ensures ∙ c.if-has_bit.false

pub slide_columns-requires-clause-legal : goal.slide_columns-requires-clause-legal
slide_columns-requires-clause-legal c =
    let d = c.args.self.now.diagram in
    column_slides d c.args.c c.size-size.ensures.grid c.requires.column
    ∙ sym (columns_touch d c.args.c c.size-size.result c.args.spans.now.lows.items c.args.spans.now.highs.items c.size-size.ensures.size c.requires.lows
    c.requires.highs c.requires.column)
    ∙ sym c.touch_once.ensures ∙ c.if-touch_once.true

pub returns-else-touch_once : goal.returns-else-touch_once
returns-else-touch_once c =
    let d = c.args.self.now.diagram in
    let grid = c.size-size.ensures.grid in
    let no_exchange =
    sym (column_trades_by_lanes d c.args.c grid c.requires.column) ∙ sym c.requires.exchanges ∙ sym c.has_bit.ensures ∙ c.if-has_bit.false in
    let no_slide : is_legal d (try_column_slide (size d) c.args.c) ≡ false =
    column_slides d c.args.c grid c.requires.column
    ∙ sym (columns_touch d c.args.c c.size-size.result c.args.spans.now.lows.items c.args.spans.now.highs.items c.size-size.ensures.size c.requires.lows
    c.requires.highs c.requires.column)
    ∙ sym c.touch_once.ensures ∙ c.if-touch_once.false in
    record {
      offered =
          columns_kept d c.args.self.now.cap (size d) c.args.c c.args.list.now.items no_exchange no_slide;
      fits = omega arith;
    }
