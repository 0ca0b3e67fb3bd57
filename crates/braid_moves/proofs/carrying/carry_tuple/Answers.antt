use Rattle.std.proofs.Common.{sym, subst}
use Rattle.braid_core.specs.FixedPoints.{IsFixedPoint}
use Rattle.braid_moves.specs.Step.{moved}
use Rattle.braid_moves.proofs.Steps.{step_carries}
use Rattle.braid_moves.proofs.carrying.carry_tuple.Goals as goal

pub returns-clause-point : goal.returns-clause-point
returns-clause-point c =
    let t = c.args.quandle.now in
    let w = c.args.braid.now in
    subst (IsFixedPoint t (moved w c.args.step)) (sym c.carried.ensures)
    ((step_carries t c.order-order.ensures.quandle w c.strands-strands.ensures.braid c.args.step c.requires.legal).into c.args.tuple.now c.requires.point)
