use Rattle.std.proofs.Common.{◌≡◌, ◌≤◌, ◌+◌, ◌*◌, ◌^◌, ◌∙◌, ℕ, List, replicate, sym, ap, subst, arith, add-one}
use Rattle.std.specs.Prelude.{IfOk}
use Rattle.std.proofs.Math.Nat.{pow-suc}
use Rattle.grid_core.specs.Diagram.{Diagram}
use Rattle.grid_core.specs.declared.grid.TheConstants.{MAX_SIZE}
use Rattle.colour_seeds.specs.declared.counting.TheConstants.{MAX_CANDIDATES}
use Rattle.colour_seeds.specs.Plan.{seeds_in}
use Rattle.colour_seeds.specs.Leaves.{leaves}
use Rattle.colour_numbers.specs.Shadows.{Shadows}
use Rattle.colour_numbers.specs.Tallies.{outers_of, tally}
use Rattle.colour_numbers.proofs.ShadowTallies.{leaves_weights}
use Rattle.colour_numbers.proofs.Tallying.{few_choices, whether_fits}
use Rattle.colour_numbers.proofs.regions.shadow_weights_by_seeds.Goals as goal

pub tally_all-requires-clause-few : goal.tally_all-requires-clause-few
tally_all-requires-clause-few c =
    let t = c.args.cocycle.now.quandle in
    let s = seeds_in c.args.seeding.now in
    let few : t.order ^ (s + 1) ≤ MAX_CANDIDATES = few_choices t (s + 1) c.few_ways.result
    (whether_fits c.operations.result t (c.len.result + 1) (s + 1) c.few_ways.result c.few_ways.ensures (c.operations.ensures ∙ c.quandle.ensures)
    (ap (λ (n : ℕ). n + 1) (c.len.ensures.value ∙ c.seeds.ensures.count)))
    c.if-not-few_ways.false in
    let power : t.order ^ (s + 1) ≡ t.order ^ s * t.order = ap (λ (n : ℕ). t.order ^ n) (add-one s) ∙ pow-suc t.order s in
    let all : t.order ^ s * t.order ≤ MAX_CANDIDATES = omega (arith, power, few) in
    subst (λ (r : Shadows). r.cocycle.quandle.order ^ s * r.cocycle.quandle.order ≤ MAX_CANDIDATES) (sym c.in-Ok.ensures) all

pub returns-clause-weights : goal.returns-clause-weights
returns-clause-weights c =
    let steps = c.args.seeding.now in
    subst (λ (xs : List ℕ). IfOk c.tally_all.result (λ v. v.items ≡ xs))
    (ap (λ (r : Shadows). tally r.cocycle.modulus (outers_of r.cocycle r.diagram) (leaves r.cocycle.quandle r.diagram steps (replicate MAX_SIZE 0)))
    c.in-Ok.ensures
    ∙ leaves_weights c.args.cocycle.now c.args.grid.now steps c.modulus-modulus.ensures.cocycle c.size-size.ensures.grid c.requires.plan)
    (subst (λ (d : Diagram). IfOk c.tally_all.result (λ v. v.items ≡ tally c.in-Ok.regions.cocycle.modulus
    (outers_of c.in-Ok.regions.cocycle c.in-Ok.regions.diagram)
    (leaves c.in-Ok.regions.cocycle.quandle d steps (replicate MAX_SIZE 0)))) (ap (λ (r : Shadows). r.diagram) (sym c.in-Ok.ensures))
    c.tally_all.ensures.counts)
