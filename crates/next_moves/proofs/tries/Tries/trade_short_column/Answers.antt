use Rattle.std.proofs.Common.{◌≡◌, ◌∙◌, arith, false, sym}
use Rattle.grid_core.specs.Diagram.{size}
use Rattle.next_moves.specs.Tries.{try_column_exchange, try_column_slide}
use Rattle.next_moves.specs.Offers.{is_legal}
use Rattle.next_moves.proofs.Legal.{columns_told}
use Rattle.next_moves.proofs.Trades.{columns_kept}
use Rattle.next_moves.proofs.tries.Tries.trade_short_column.Goals as goal

pub may_exchange-requires : goal.may_exchange-requires
may_exchange-requires c =
    (columns_told c.args.self.now.diagram c.args.c c.args.trades.now c.requires.trades c.size-size.ensures.grid c.requires.column).exchange_inside

pub exchange_columns-requires-clause-legal : goal.exchange_columns-requires-clause-legal
exchange_columns-requires-clause-legal c =
    let told = columns_told c.args.self.now.diagram c.args.c c.args.trades.now c.requires.trades c.size-size.ensures.grid c.requires.column in
    sym told.exchange ∙ sym c.may_exchange.ensures ∙ c.if-may_exchange.true

pub may_slide-requires : goal.may_slide-requires
may_slide-requires c =
    (columns_told c.args.self.now.diagram c.args.c c.args.trades.now c.requires.trades c.size-size.ensures.grid c.requires.column).slide_inside

pub slide_columns-requires-clause-no_exchange : goal.slide_columns-requires-clause-no_exchange
slide_columns-requires-clause-no_exchange c =
    let told = columns_told c.args.self.now.diagram c.args.c c.args.trades.now c.requires.trades c.size-size.ensures.grid c.requires.column in
    sym told.exchange ∙ sym c.may_exchange.ensures ∙ c.if-may_exchange.false

pub slide_columns-requires-clause-legal : goal.slide_columns-requires-clause-legal
slide_columns-requires-clause-legal c =
    let told = columns_told c.args.self.now.diagram c.args.c c.args.trades.now c.requires.trades c.size-size.ensures.grid c.requires.column in
    sym told.slide ∙ sym c.may_slide.ensures ∙ c.if-may_slide.true

pub returns-else-may_slide : goal.returns-else-may_slide
returns-else-may_slide c =
    let d = c.args.self.now.diagram in
    let told = columns_told d c.args.c c.args.trades.now c.requires.trades c.size-size.ensures.grid c.requires.column in
    let no_exchange : is_legal d (try_column_exchange (size d) c.args.c) ≡ false = sym told.exchange ∙ sym c.may_exchange.ensures ∙ c.if-may_exchange.false in
    let no_slide : is_legal d (try_column_slide (size d) c.args.c) ≡ false = sym told.slide ∙ sym c.may_slide.ensures ∙ c.if-may_slide.false in
    record {
      offered =
          columns_kept d c.args.self.now.cap (size d) c.args.c c.args.list.now.items no_exchange no_slide;
      fits = omega arith;
    }
