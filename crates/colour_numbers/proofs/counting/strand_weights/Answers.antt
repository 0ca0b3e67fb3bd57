use Rattle.std.proofs.Common.{◌≡◌, ◌⊎◌, false, Err, IfOk, IfErr, subst}
use Rattle.cocycle_core.specs.Cocycle.{Cochain}
use Rattle.colour_seeds.specs.declared.counting.CountFault.TheVariants as fault
use Rattle.colour_seeds.specs.FewWays.{few_ways}
use Rattle.colour_seeds.specs.Plan.{seeds_in}
use Rattle.colour_weights.specs.Weights.{weights}
use Rattle.colour_numbers.proofs.counting.strand_weights.Goals as goal

pub returns-clause-weights : goal.returns-clause-weights
returns-clause-weights c =
    subst (λ (w : Cochain). IfOk c.weights_by_seeds.result (λ v. v.items ≡ weights w c.args.grid.now)) c.values-values.ensures
    c.weights_by_seeds.ensures.weights

pub returns-clause-wide : goal.returns-clause-wide
returns-clause-wide c =
    subst (λ (w : Cochain). few_ways w.quandle (seeds_in c.args.seeding.now) ≡ false → c.weights_by_seeds.result ≡ Err (fault.TooWide)) c.values-values.ensures
    c.weights_by_seeds.ensures.wide

pub returns-clause-fault : goal.returns-clause-fault
returns-clause-fault c =
    subst (λ (w : Cochain). IfErr c.weights_by_seeds.result (λ e. e ≡ fault.OutOfMemory ⊎ (few_ways w.quandle (seeds_in c.args.seeding.now) ≡ false) ×
    (e ≡ fault.TooWide)))
    c.values-values.ensures c.weights_by_seeds.ensures.fault
