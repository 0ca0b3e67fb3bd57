use Rattle.std.proofs.Common.{◌∙◌, List, ℕ, arith, sym, ap, ap₂, subst}
use Rattle.lane_spans.specs.Columns.{trades, AreSpans}
use Rattle.grid_core.specs.Diagram.{Diagram, size}
use Rattle.grid_core.specs.Parts.{row_lows, row_highs}
use Rattle.next_moves.specs.Tries.{row_trade_tries}
use Rattle.next_moves.proofs.Extended.{extends_flat_more}
use Rattle.next_moves.proofs.Legal.{rows_are_spans}
use Rattle.next_moves.proofs.tries.Tries.trade_long_rows.Goals as goal

pub exchanges-exchanges-requires-clause-spans : goal.exchanges-exchanges-requires-clause-spans
exchanges-exchanges-requires-clause-spans c =
    let d = c.args.self.now.diagram in
    let spans = c.of_rows-spans in
    let lows = spans.ensures.lows ∙ ap (λ (e : Diagram). row_lows e) c.grid.ensures in
    let highs = spans.ensures.highs ∙ ap (λ (e : Diagram). row_highs e) c.grid.ensures in
    subst (λ (ls : List ℕ). AreSpans ls spans.result.highs.items) (sym lows)
    (subst (λ (hs : List ℕ). AreSpans (row_lows d) hs) (sym highs) (rows_are_spans d c.size-size.ensures.grid))

pub trade_row-requires-clause-exchanges : goal.trade_row-requires-clause-exchanges
trade_row-requires-clause-exchanges c =
    let spans = c.of_rows-spans in
    let lows = spans.ensures.lows ∙ ap (λ (e : Diagram). row_lows e) c.grid.ensures in
    let highs = spans.ensures.highs ∙ ap (λ (e : Diagram). row_highs e) c.grid.ensures in
    c.exchanges-exchanges.ensures c.loop-r.r ∙ ap₂ (λ (ls hs : List ℕ). trades ls hs c.loop-r.r) lows highs

pub loop-r-preserved : goal.loop-r-preserved
loop-r-preserved c =
    let d = c.args.self.now.diagram in
    record {
      offered =
          extends_flat_more d c.args.self.now.cap (row_trade_tries (size d)) c.loop-r.r c.args.list.now.items c.loop-r.list.items
          c.trade_row.new.list.items c.loop-r.invariant.offered c.trade_row.ensures.offered;
      fits = omega (arith, c.loop-r.invariant.fits, c.trade_row.ensures.fits);
    }
