use Rattle.std.proofs.Common.{◌∙◌, sym}
use Rattle.quandle_core.specs.Quandle.{Table}
use Rattle.quandle_core.specs.declared.operations.TheConstants.{MAX_LARGE_ORDER}
use Rattle.quandle_core.proofs.Accepted.{quandle_within}
use Rattle.quandle_core.proofs.large.LargeQuandle.new.Goals as goal

pub of_table-requires-clause-laws : goal.of_table-requires-clause-laws
of_table-requires-clause-laws c =
    let t : Table = record { order = c.args.order; entries = c.args.table.now } in
    (quandle_within MAX_LARGE_ORDER t (sym c.table_fault.ensures ∙ c.in-None.is)).0

pub of_table-requires-clause-few : goal.of_table-requires-clause-few
of_table-requires-clause-few c =
    let t : Table = record { order = c.args.order; entries = c.args.table.now } in
    (quandle_within MAX_LARGE_ORDER t (sym c.table_fault.ensures ∙ c.in-None.is)).1
