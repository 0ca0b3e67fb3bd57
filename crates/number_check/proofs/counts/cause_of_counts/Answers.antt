use Rattle.std.proofs.Common.{subst}
use Rattle.colour_seeds.specs.declared.seeding.SeedFault.{SeedFault}
use Rattle.colour_seeds.specs.Seeded.{IsFault}
use Rattle.number_check.proofs.Causes.{unsettled_cause}
use Rattle.number_check.proofs.counts.cause_of_counts.Goals as goal

pub returns-in-Err-Unsettled-clause-some : goal.returns-in-Err-Unsettled-clause-some
returns-in-Err-Unsettled-clause-some c =
    let fault = subst (λ (e : SeedFault). IsFault c.as_slice.result.now c.args.said.now.grid.now e) c.in-Err-Unsettled.field-0-is
    c.in-Err-Unsettled.ensures.fault in
    rw c.in-Err-Unsettled.field-0-is (unsettled_cause c.args.block.now c.args.which c.args.said.now.grid.now c.args.said.now.counted.now c.as_slice.result.now _
    c.as_slice.ensures.value fault)
