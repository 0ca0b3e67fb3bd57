use Rattle.std.proofs.Common.{◌∙◌, None, List, subst}
use Rattle.braid_closure.specs.declared.columns.Column.{Column}
use Rattle.braid_closure.specs.Columns.{ColumnStandsAt}
use Rattle.braid_closure.proofs.Places.{insert_left, begin_left_open}
use Rattle.braid_closure.proofs.columns.begin_left.Goals as goal

abbrev none : Column
none = record { x = 0; o = None }

pub returns-clause-columns : goal.returns-clause-columns
returns-clause-columns c =
    c.insert.ensures.items
    ∙ insert_left c.args.position c.place_of-place.result c.args.row c.args.columns.now.items none
    (subst (λ (zs : List Column). ColumnStandsAt c.args.position c.place_of-place.result zs none) c.as_slice.ensures.value
    (c.place_of-place.ensures.stands none))

pub returns-clause-count : goal.returns-clause-count
returns-clause-count c =
    let at =
    subst (λ (zs : List Column). ColumnStandsAt c.args.position c.place_of-place.result zs none) c.as_slice.ensures.value
    (c.place_of-place.ensures.stands none) in
    begin_left_open c.args.position c.place_of-place.result c.args.row c.args.columns.now.items c.insert.new.self.items none
    (c.insert.ensures.items ∙ insert_left c.args.position c.place_of-place.result c.args.row c.args.columns.now.items none at) at
