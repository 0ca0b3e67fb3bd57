use Rattle.std.proofs.Common.{◌≡◌, ◌∙◌, ◌<◌, ◌*◌, ℕ, sym, ap, subst, arith}
use Rattle.quandle_core.specs.Quandle.{Table}
use Rattle.number_search.proofs.CopiedValues.{parts_below, value_there}
use Rattle.number_search.proofs.copied.value_at.Goals as goal

pub value-requires : goal.value-requires
value-requires c =
    let order : c.order-order.result ≡ c.args.cocycle.now.quandle.order = c.order-order.ensures.order ∙ ap (λ (t : Table). t.order) c.quandle.ensures in
    let within : c.args.place < c.order-order.result * c.order-order.result * c.order-order.result =
    subst (λ (n : ℕ). c.args.place < n * n * n) (sym order) c.requires in
    let parts = parts_below c.order-order.result c.args.place (omega (arith, c.order-order.ensures.quandle.least, c.order-order.ensures.order)) within in
    (omega (arith, parts.0, order), omega (arith, parts.1, order), omega (arith, parts.2, order))

pub returns : goal.returns
returns c =
    c.value.ensures.value
    ∙ value_there c.args.cocycle.now c.order-order.result c.args.place (c.order-order.ensures.order ∙ ap (λ (t : Table). t.order) c.quandle.ensures)
