use Rattle.std.proofs.Common.{◌≡◌, ◌≤◌, ◌*◌, ◌^◌, ◌∙◌, ℕ, ap, sym, arith}
use Rattle.std.proofs.Math.Nat.{mul-le-mul_right, mul-le-mul_left}
use Rattle.grid_core.specs.declared.grid.TheConstants.{MAX_SIZE}
use Rattle.colour_seeds.specs.Plan.{seeds_in}
use Rattle.colour_seeds.proofs.Settlings.{plan_inside, blank_colours, behind}
use Rattle.colour_seeds.proofs.Levels.{leaves_count}
use Rattle.colour_seeds.proofs.FirstColours.{connected_count, first_power}
use Rattle.colour_seeds.proofs.counting.count_all.Goals as goal

pub count_from-requires-clause-inside : goal.count_from-requires-clause-inside
count_from-requires-clause-inside c =
    (behind c.args.grid.now c.args.steps.now c.in-Some.rest.now c.in-Some.first.now c.in-Some.ensures.cases.0
    (plan_inside c.args.grid.now c.args.steps.now c.requires.plan)).inside

pub count_from-requires-clause-colours : goal.count_from-requires-clause-colours
count_from-requires-clause-colours c = blank_colours MAX_SIZE c.args.quandle.now.order (omega (arith, c.order-order.ensures.quandle.least))

pub count_from-requires-clause-few : goal.count_from-requires-clause-few
count_from-requires-clause-few c =
    let power = first_power c.args.quandle.now.order c.args.steps.now c.in-Some.rest.now c.in-Some.first.now c.in-Some.ensures.cases
    (sym c.is_seed.ensures ∙ c.if-is_seed.true) in
    let n = c.args.quandle.now.order ^ seeds_in c.in-Some.rest.now in
    let up : 1 * c.args.quandle.now.order ^ seeds_in c.in-Some.rest.now ≤ c.args.quandle.now.order * c.args.quandle.now.order ^ seeds_in c.in-Some.rest.now =
    mul-le-mul_right n c.order-order.ensures.quandle.least in
    omega (arith, power, up, c.requires.few)

pub overflow_mul-result : goal.overflow_mul-result
overflow_mul-result c =
    let power = first_power c.args.quandle.now.order c.args.steps.now c.in-Some.rest.now c.in-Some.first.now c.in-Some.ensures.cases
    (sym c.is_seed.ensures ∙ c.if-is_seed.true) in
    let order : c.from.result ≡ c.args.quandle.now.order = c.from.ensures ∙ c.order-order.ensures.order in
    let up : c.args.quandle.now.order * c.count_from.result ≤ c.args.quandle.now.order * c.args.quandle.now.order ^ seeds_in c.in-Some.rest.now =
    mul-le-mul_left c.args.quandle.now.order c.count_from.ensures.few in
    let same = ap (λ (q : ℕ). q * c.count_from.result) order in
    record { fits = omega (arith, power, up, same, c.requires.few) }

pub returns-then-is_connected : goal.returns-then-is_connected
returns-then-is_connected c =
    ap (λ (q : ℕ). q * c.count_from.result) (c.from.ensures ∙ c.order-order.ensures.order)
    ∙ connected_count c.args.quandle.now c.args.grid.now c.args.steps.now c.in-Some.rest.now c.in-Some.first.now c.count_from.result
    c.order-order.ensures.quandle
    c.size-size.ensures.grid (c.is_connected.ensures.connected c.if-is_connected.true) c.requires.plan c.in-Some.ensures.cases
    (sym c.is_seed.ensures ∙ c.if-is_seed.true) c.count_from.ensures.count

pub count_from-requires-2-clause-inside : goal.count_from-requires-2-clause-inside
count_from-requires-2-clause-inside c = plan_inside c.args.grid.now c.args.steps.now c.requires.plan

pub count_from-requires-2-clause-colours : goal.count_from-requires-2-clause-colours
count_from-requires-2-clause-colours c = blank_colours MAX_SIZE c.args.quandle.now.order (omega (arith, c.order-order.ensures.quandle.least))

pub returns : goal.returns
returns c =
    c.count_from-2.ensures.count
    ∙ leaves_count c.args.quandle.now c.args.grid.now c.args.steps.now c.order-order.ensures.quandle c.size-size.ensures.grid c.requires.plan
