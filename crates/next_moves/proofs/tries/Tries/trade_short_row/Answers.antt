use Rattle.std.proofs.Common.{◌≡◌, ◌∙◌, arith, false, sym}
use Rattle.grid_core.specs.Diagram.{size}
use Rattle.next_moves.specs.Tries.{try_row_exchange, try_row_slide}
use Rattle.next_moves.specs.Offers.{is_legal}
use Rattle.next_moves.proofs.Legal.{rows_told}
use Rattle.next_moves.proofs.Trades.{rows_kept}
use Rattle.next_moves.proofs.tries.Tries.trade_short_row.Goals as goal

pub may_exchange-requires : goal.may_exchange-requires
may_exchange-requires c =
    (rows_told c.args.self.now.diagram c.args.r c.args.trades.now c.requires.trades c.size-size.ensures.grid c.requires.row).exchange_inside

pub exchange_rows-requires-clause-legal : goal.exchange_rows-requires-clause-legal
exchange_rows-requires-clause-legal c =
    let told = rows_told c.args.self.now.diagram c.args.r c.args.trades.now c.requires.trades c.size-size.ensures.grid c.requires.row in
    sym told.exchange ∙ sym c.may_exchange.ensures ∙ c.if-may_exchange.true

pub may_slide-requires : goal.may_slide-requires
may_slide-requires c =
    (rows_told c.args.self.now.diagram c.args.r c.args.trades.now c.requires.trades c.size-size.ensures.grid c.requires.row).slide_inside

pub slide_rows-requires-clause-no_exchange : goal.slide_rows-requires-clause-no_exchange
slide_rows-requires-clause-no_exchange c =
    let told = rows_told c.args.self.now.diagram c.args.r c.args.trades.now c.requires.trades c.size-size.ensures.grid c.requires.row in
    sym told.exchange ∙ sym c.may_exchange.ensures ∙ c.if-may_exchange.false

pub slide_rows-requires-clause-legal : goal.slide_rows-requires-clause-legal
slide_rows-requires-clause-legal c =
    let told = rows_told c.args.self.now.diagram c.args.r c.args.trades.now c.requires.trades c.size-size.ensures.grid c.requires.row in
    sym told.slide ∙ sym c.may_slide.ensures ∙ c.if-may_slide.true

pub returns-else-may_slide : goal.returns-else-may_slide
returns-else-may_slide c =
    let d = c.args.self.now.diagram in
    let told = rows_told d c.args.r c.args.trades.now c.requires.trades c.size-size.ensures.grid c.requires.row in
    let no_exchange : is_legal d (try_row_exchange (size d) c.args.r) ≡ false = sym told.exchange ∙ sym c.may_exchange.ensures ∙ c.if-may_exchange.false in
    let no_slide : is_legal d (try_row_slide (size d) c.args.r) ≡ false = sym told.slide ∙ sym c.may_slide.ensures ∙ c.if-may_slide.false in
    record {
      offered =
          rows_kept d c.args.self.now.cap (size d) c.args.r c.args.list.now.items no_exchange no_slide;
      fits = omega arith;
    }
