use Rattle.std.proofs.Common.{Ok, ap, subst, sym}
use Rattle.grid_moves.specs.Step.{Step}
use Rattle.grid_moves.proofs.applying.apply.Goals as goal

pub returns-clause-complete : goal.returns-clause-complete
returns-clause-complete c = λ e step. ap (λ z. Ok z)
    (c.apply_in_place.ensures.complete e (subst (λ d. Step d c.args.step e) (sym c.copy-next.ensures) step))
