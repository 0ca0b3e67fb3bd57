use Rattle.std.proofs.Common.{◌∙◌}
use Rattle.colour_seeds.proofs.Ways.{memory_alone}
use Rattle.colour_seeds.proofs.seeking.by_all_columns.Goals as goal

pub returns-in-Err-clause-fault : goal.returns-in-Err-clause-fault
returns-in-Err-clause-fault c =
    memory_alone c.args.grid.now c.as_slice.result.now c.in-Err.fault (c.as_slice.ensures.value ∙ c.all_columns-all.ensures) c.in-Err.ensures.fault
