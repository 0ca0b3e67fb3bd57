use Rattle.std.proofs.Common.{◌∙◌, ◌≡◌, ◌-◌, ℕ, ap, arith}
use Rattle.quandle_core.specs.declared.quandle.TheConstants.{MAX_ORDER}
use Rattle.seek_core.specs.Formulas.{quandles_named}
use Rattle.seek_core.proofs.ByFormula.{first_orders, order_more}
use Rattle.seek_core.proofs.formulas.formula_quandles.Goals as goal

pub loop-order-preserved : goal.loop-order-preserved
loop-order-preserved c =
    let least = c.loop-order.invariant.0 in (
      omega (arith, least),
      order_more c.loop-order.order c.loop-order.list.items c.push_order.new.list.items least c.loop-order.invariant.1
          c.in_ok-push_order.ensures,
    )

pub returns : goal.returns
returns c =
    let least = c.loop-order.invariant.0 in
    let most = c.loop-order.auto.order-end in
    let all : c.loop-order.order - 4 ≡ MAX_ORDER - 3 = omega (arith, least, most, c.loop-order-test.false) in
    c.loop-order.invariant.1 ∙ ap (λ (k : ℕ). quandles_named (first_orders k)) all
