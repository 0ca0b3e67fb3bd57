use Rattle.std.proofs.Common.{◌∙◌, sym, ap, subst}
use Rattle.quandle_core.specs.Quandle.{Table, IsQuandle, back}
use Rattle.quandle_core.specs.Columns.{operation_columns}
use Rattle.quandle_core.proofs.LargeColumns.{table_again, columns_again}
use Rattle.quandle_core.proofs.large.of_table.Goals as goal

pub over_columns-requires-clause-least : goal.over_columns-requires-clause-least
over_columns-requires-clause-least c = c.requires.laws.least

pub over_columns-requires-clause-square : goal.over_columns-requires-clause-square
over_columns-requires-clause-square c = c.requires.laws.square

pub back_columns-requires-clause-least : goal.back_columns-requires-clause-least
back_columns-requires-clause-least c = c.requires.laws.least

pub invariant_of-result : goal.invariant_of-result
invariant_of-result c =
    let t : Table = record { order = c.args.order; entries = c.args.table.now } in
    let again = table_again t c.requires.laws c.in_ok-forward.forward.items c.in_ok-forward.ensures in (
      subst IsQuandle (sym again) c.requires.laws,
      c.requires.few,
      columns_again t c.in_ok-forward.forward.items c.in_ok-forward.ensures,
      c.in_ok-backward.ensures ∙ ap (λ (u : Table). operation_columns c.args.order (back u)) (sym again),
    )

pub returns : goal.returns
returns c =
    let t : Table = record { order = c.args.order; entries = c.args.table.now } in
    table_again t c.requires.laws c.in_ok-forward.forward.items c.in_ok-forward.ensures
