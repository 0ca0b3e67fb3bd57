use Rattle.std.proofs.Common.{None, List, subst}
use Rattle.braid_closure.specs.declared.columns.Column.{Column}
use Rattle.braid_closure.specs.Columns.{ColumnStandsAt}
use Rattle.braid_closure.proofs.Places.{end_columns, end_open}
use Rattle.braid_closure.proofs.columns.end.Goals as goal

abbrev none : Column
none = record { x = 0; o = None }

pub returns-clause-columns : goal.returns-clause-columns
returns-clause-columns c =
    let at =
    subst (λ (zs : List Column). ColumnStandsAt c.args.position c.place_of-place.result zs none) c.as_slice.ensures.value
    (c.place_of-place.ensures.stands none) in
    end_columns c.args.position c.place_of-place.result c.args.row c.args.columns.now.items c.deref.result.now c.deref_mut.result.now none c.deref.ensures.0 c.deref_mut.ensures.value at

pub returns-clause-count : goal.returns-clause-count
returns-clause-count c =
    let at =
    subst (λ (zs : List Column). ColumnStandsAt c.args.position c.place_of-place.result zs none) c.as_slice.ensures.value
    (c.place_of-place.ensures.stands none) in
    end_open c.args.position c.place_of-place.result c.args.row c.args.columns.now.items _ none
    (end_columns c.args.position c.place_of-place.result c.args.row c.args.columns.now.items c.deref.result.now c.deref_mut.result.now none c.deref.ensures.0 c.deref_mut.ensures.value at) at
