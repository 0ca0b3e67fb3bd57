use Rattle.std.proofs.Common.{◌≡◌, ◌∙◌, sym, ap}
use Rattle.quandle_core.specs.Quandle.{Table, over}
use Rattle.quandle_core.specs.Columns.{cell_at}
use Rattle.quandle_core.proofs.Entries.{entry}
use Rattle.quandle_core.proofs.operations.Operations.over.Goals as goal

pub returns : goal.returns
returns c =
    let order_is : c.self.inside.order ≡ c.args.self.now.order = ap (λ (t : Table). t.order) c.self.view_is in
    sym (entry c.self.inside.order (cell_at c.self.inside.stride c.self.inside.forward.now) c.args.x c.args.y
    (rw order_is c.requires.0) (rw order_is c.requires.1))
    ∙ ap (λ (t : Table). over t c.args.x c.args.y) c.self.view_is

pub bounds-self-inside-y : goal.bounds-self-inside-y
bounds-self-inside-y c =
    let order_is : c.self.inside.order ≡ c.args.self.now.order = ap (λ (t : Table). t.order) c.self.view_is in
    c.self.invariant.2 c.args.x c.args.y (rw order_is c.requires.0) (rw order_is c.requires.1)
