use Rattle.std.proofs.Common.{◌<◌, sym, subst}
use Rattle.grid_core.specs.Diagram.{size}
use Rattle.grid_core.specs.Parts.{column_span}
use Rattle.crossing_codes.proofs.Tables.{column_within}
use Rattle.crossing_codes.proofs.layout.Layout.column_span.Goals as goal

pub returns-clause-within : goal.returns-clause-within
returns-clause-within c =
    let d = c.self.inside.grid in
    let k = c.args.column in
    let lt : k < size d = subst (λ g. k < size g) (sym c.self.view_is) c.requires in
    rw c.column_span.ensures
    (subst (λ g. ((column_span d k).low < (column_span d k).high) × ((column_span d k).high < size g)) c.self.view_is
    (column_within d c.size-size.ensures.grid k lt))
