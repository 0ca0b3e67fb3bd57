use Rattle.std.proofs.Common.{◌≡◌, ap}
use Rattle.quandle_core.specs.Quandle.{Table}
use Rattle.quandle_core.proofs.operations.Operations.back.Goals as goal

pub bounds-self-inside-y : goal.bounds-self-inside-y
bounds-self-inside-y c =
    let order_is : c.self.inside.order ≡ c.args.self.now.order = ap (λ (t : Table). t.order) c.self.view_is in
    c.self.invariant.3 c.args.x c.args.y (rw order_is c.requires.0) (rw order_is c.requires.1)
