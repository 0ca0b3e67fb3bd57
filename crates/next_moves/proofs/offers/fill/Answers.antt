use Rattle.std.proofs.Common.{◌≡◌, ap, length, arith, subst}
use Rattle.grid_core.specs.Diagram.{size}
use Rattle.next_moves.specs.Offers.{IsOfferList}
use Rattle.next_moves.specs.Extends.{Tried}
use Rattle.next_moves.proofs.Extended.{whole_list}
use Rattle.next_moves.proofs.offers.fill.Goals as goal

pub returns-clause-offers : goal.returns-clause-offers
returns-clause-offers c =
    subst (λ (t : Tried). IsOfferList t.diagram t.cap c.stabilise.new.list.items) c.on-tries.ensures
    (whole_list c.on-tries.result.diagram c.on-tries.result.cap c.args.list.now.items c.trade_columns.new.list.items
    c.trade_rows.new.list.items c.destabilise.new.list.items c.stabilise.new.list.items c.requires.empty c.trade_columns.ensures.offered
    c.trade_rows.ensures.offered c.destabilise.ensures.offered c.stabilise.ensures.offered)

pub returns-clause-count : goal.returns-clause-count
returns-clause-count c =
    let tried : size c.on-tries.result.diagram ≡ size c.args.grid.now = ap (λ (t : Tried). size t.diagram) c.on-tries.ensures in
    omega (
      arith,
      ap length c.requires.empty,
      tried,
      c.trade_columns.ensures.fits,
      c.trade_rows.ensures.fits,
      c.destabilise.ensures.fits,
      c.stabilise.ensures.fits,
    )
