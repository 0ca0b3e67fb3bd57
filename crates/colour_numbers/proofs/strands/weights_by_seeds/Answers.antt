use Rattle.std.proofs.Common.{◌≡◌, ◌≤◌, ◌^◌, ◌∙◌, ℕ, List, subst, arith}
use Rattle.std.specs.Prelude.{IfOk}
use Rattle.colour_seeds.specs.declared.counting.TheConstants.{MAX_CANDIDATES}
use Rattle.colour_seeds.specs.Plan.{seeds_in}
use Rattle.colour_numbers.proofs.StrandTallies.{leaves_weights}
use Rattle.colour_numbers.proofs.Tallying.{few_choices, whether_fits}
use Rattle.colour_numbers.proofs.strands.weights_by_seeds.Goals as goal

pub tally_all-requires-clause-few : goal.tally_all-requires-clause-few
tally_all-requires-clause-few c =
    let q = c.args.cocycle.now.quandle in
    let s = seeds_in c.args.seeding.now in
    let few : q.order ^ s ≤ MAX_CANDIDATES = few_choices q s c.few_ways.result
    (whether_fits c.quandle.result.now q c.len.result s c.few_ways.result c.few_ways.ensures c.quandle.ensures (c.len.ensures.value ∙ c.seeds.ensures.count))
    c.if-not-few_ways.false in
    omega (arith, few)

pub returns-clause-weights : goal.returns-clause-weights
returns-clause-weights c =
    subst (λ (xs : List ℕ). IfOk c.tally_all.result (λ v. v.items ≡ xs))
    (leaves_weights c.args.cocycle.now c.args.grid.now c.args.seeding.now c.modulus-modulus.ensures.cocycle c.size-size.ensures.grid c.requires.plan)
    c.tally_all.ensures.counts
