use Rattle.std.proofs.Common.{◌≡◌, ◌<◌, ◌+◌, ◌*◌, ◌^◌, ◌∷◌, ◌∙◌, false, List, length, ap, arith, rules}
use Rattle.colour_seeds.specs.declared.progress.Step.{Step}
use Rattle.colour_seeds.specs.declared.progress.Step.TheVariants.{Seed}
use Rattle.colour_seeds.specs.Plan.{is_seed, seeds_in}
use Rattle.colour_seeds.specs.Leaves.{leaves}
use Rattle.colour_seeds.proofs.Settlings.{behind, first_is, no_seed_power, seed_power, one_more, one_times}
use Rattle.colour_seeds.proofs.counting.+count.Goals as goal

pub count_each-loop-colour-preserved : goal.count_each-loop-colour-preserved
count_each-loop-colour-preserved t c = record {
  count =
      one_more (leaves c.args.quandle.now c.args.grid.now c.args.steps.now) c.args.column c.loop-colour.colour c.loop-colour.total c.count_from-total.result
      c.args.colours.now c.loop-colour.invariant.count c.count_from-total.ensures.count;
  few =
      let e : (c.loop-colour.colour + 1) * c.args.quandle.now.order ^ seeds_in c.args.steps.now
      ≡ c.loop-colour.colour * c.args.quandle.now.order ^ seeds_in c.args.steps.now + c.args.quandle.now.order ^ seeds_in c.args.steps.now =
      one_times c.loop-colour.colour (c.args.quandle.now.order ^ seeds_in c.args.steps.now) in
      omega (arith, e, c.loop-colour.invariant.few, c.count_from-total.ensures.few);
}

pub count_from-count_each-requires : goal.count_from-count_each-requires
count_from-count_each-requires t c =
    let column = c.in-Some-seed.column in
    let is = first_is c.args.steps.now c.in-Some.rest.now c.in-Some.step.now (Seed column) c.in-Some.ensures.cases c.in-Some-seed.ensures.some in
    let rest = behind c.args.grid.now c.args.steps.now c.in-Some.rest.now (Seed column) is c.requires.inside in
    let shorter : length c.in-Some.rest.now < length c.args.steps.now = rest.shorter in
    let power = ap (λ (xs : List Step). c.args.quandle.now.order ^ seeds_in xs) is ∙ seed_power c.args.quandle.now.order column c.in-Some.rest.now in
    (omega arith, (c.requires.rows, (rest.inside, (c.requires.colours, (rest.here, omega (arith, c.requires.few, power))))))

pub count_from-returns-in-Some-seed-clause-few : goal.count_from-returns-in-Some-seed-clause-few
count_from-returns-in-Some-seed-clause-few t c =
    let column = c.in-Some-seed.column in
    let is = first_is c.args.steps.now c.in-Some.rest.now c.in-Some.step.now (Seed column) c.in-Some.ensures.cases c.in-Some-seed.ensures.some in
    let power = ap (λ (xs : List Step). c.args.quandle.now.order ^ seeds_in xs) is ∙ seed_power c.args.quandle.now.order column c.in-Some.rest.now in
    omega (arith, c.count_each.ensures.few, power)

pub count_from-count_from-requires : goal.count_from-count_from-requires
count_from-count_from-requires t c =
    let is : c.args.steps.now ≡ c.in-Some.step.now ∷ c.in-Some.rest.now = c.in-Some.ensures.cases.0 in
    let rest = behind c.args.grid.now c.args.steps.now c.in-Some.rest.now c.in-Some.step.now is c.requires.inside in
    let shorter : length c.in-Some.rest.now < length c.args.steps.now = rest.shorter in
    let none : is_seed c.in-Some.step.now ≡ false = search rules in
    let power = no_seed_power c.args.quandle.now.order c.args.steps.now c.in-Some.rest.now c.in-Some.step.now is none in
    (omega arith, (c.requires.rows, (rest.inside, (c.passes.ensures.colours, omega (arith, c.requires.few, power)))))
