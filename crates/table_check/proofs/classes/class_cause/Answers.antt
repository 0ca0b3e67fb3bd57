use Rattle.std.proofs.Common.{subst}
use Rattle.colour_seeds.specs.declared.seeding.SeedFault.{SeedFault}
use Rattle.colour_seeds.specs.Seeded.{IsFault}
use Rattle.table_check.proofs.Causes.{unsettled_class}
use Rattle.table_check.proofs.classes.class_cause.Goals as goal

pub returns-in-Err-Unsettled-clause-some : goal.returns-in-Err-Unsettled-clause-some
returns-in-Err-Unsettled-clause-some c =
    let fault = subst (λ (e : SeedFault). IsFault c.as_slice.result.now c.grid-grid.result e) c.in-Err-Unsettled.field-0-is c.in-Err-Unsettled.ensures.fault in
    rw c.in-Err-Unsettled.field-0-is (unsettled_class c.args.blocks.now c.args.class.now c.as_slice.result.now c.grid-grid.result _ c.grid-grid.ensures
    c.as_slice.ensures.value fault)
