use Rattle.std.proofs.Common.{◌∙◌, List, ℕ, arith, sym, ap, ap₂, subst}
use Rattle.lane_spans.specs.Columns.{trades, AreSpans}
use Rattle.grid_core.specs.Diagram.{Diagram, size}
use Rattle.grid_core.specs.Parts.{column_lows, column_highs}
use Rattle.next_moves.specs.Tries.{column_trade_tries}
use Rattle.next_moves.proofs.Extended.{extends_flat_more}
use Rattle.next_moves.proofs.Legal.{columns_are_spans}
use Rattle.next_moves.proofs.tries.Tries.trade_long_columns.Goals as goal

pub exchanges-exchanges-requires-clause-spans : goal.exchanges-exchanges-requires-clause-spans
exchanges-exchanges-requires-clause-spans c =
    let d = c.args.self.now.diagram in
    let spans = c.of_columns-spans in
    let lows = spans.ensures.lows ∙ ap (λ (e : Diagram). column_lows e) c.grid.ensures in
    let highs = spans.ensures.highs ∙ ap (λ (e : Diagram). column_highs e) c.grid.ensures in
    subst (λ (ls : List ℕ). AreSpans ls spans.result.highs.items) (sym lows)
    (subst (λ (hs : List ℕ). AreSpans (column_lows d) hs) (sym highs) (columns_are_spans d c.size-size.ensures.grid))

pub trade_column-requires-clause-exchanges : goal.trade_column-requires-clause-exchanges
trade_column-requires-clause-exchanges c =
    let spans = c.of_columns-spans in
    let lows = spans.ensures.lows ∙ ap (λ (e : Diagram). column_lows e) c.grid.ensures in
    let highs = spans.ensures.highs ∙ ap (λ (e : Diagram). column_highs e) c.grid.ensures in
    c.exchanges-exchanges.ensures c.loop-c.c ∙ ap₂ (λ (ls hs : List ℕ). trades ls hs c.loop-c.c) lows highs

pub loop-c-preserved : goal.loop-c-preserved
loop-c-preserved c =
    let d = c.args.self.now.diagram in
    record {
      offered =
          extends_flat_more d c.args.self.now.cap (column_trade_tries (size d)) c.loop-c.c c.args.list.now.items c.loop-c.list.items
          c.trade_column.new.list.items c.loop-c.invariant.offered c.trade_column.ensures.offered;
      fits = omega (arith, c.loop-c.invariant.fits, c.trade_column.ensures.fits);
    }
