use Rattle.std.proofs.Common.{◌∙◌, refl, sym, arith}
use Rattle.quandle_core.specs.declared.operations.TheConstants.{MAX_LARGE_ORDER}
use Rattle.colour_seeds.proofs.Connections.{reached_first, reached_more, connected_from, all_reached}
use Rattle.colour_seeds.proofs.connected.is_connected.Goals as goal

pub loop-colour-init : goal.loop-colour-init
loop-colour-init c = reached_first c.args.quandle.now MAX_LARGE_ORDER _ (omega arith) refl

pub loop-colour-preserved : goal.loop-colour-preserved
loop-colour-preserved c =
    reached_more c.args.quandle.now MAX_LARGE_ORDER c.loop-colour.reached _ c.in-Some.colour c.loop-colour.invariant c.in-Some.ensures.only refl

pub returns-clause-connected : goal.returns-clause-connected
returns-clause-connected c = λ e.
    connected_from c.args.quandle.now c.order-order.ensures.quandle MAX_LARGE_ORDER c.loop-colour.reached c.loop-colour.invariant
    (sym c.reaches_all.ensures ∙ e)

pub returns-clause-only : goal.returns-clause-only
returns-clause-only c = λ connected.
    c.reaches_all.ensures
    ∙ all_reached c.args.quandle.now c.order-order.ensures.quandle MAX_LARGE_ORDER c.loop-colour.reached c.loop-colour.invariant
    (c.next_reached.ensures.stuck c.in_default.is) connected
