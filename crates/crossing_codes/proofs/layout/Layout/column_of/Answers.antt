use Rattle.std.proofs.Common.{◌<◌, sym, subst, get_or}
use Rattle.grid_core.specs.declared.mark.Kind.TheVariants.{Cross, Ring}
use Rattle.grid_core.specs.Diagram.{size}
use Rattle.grid_core.proofs.Marks.{column_mark}
use Rattle.crossing_codes.proofs.layout.Layout.column_of.Goals as goal

pub returns-in-Cross-clause-inside : goal.returns-in-Cross-clause-inside
returns-in-Cross-clause-inside c =
    let d = c.self.inside.grid in
    let lt : c.args.row < size d = subst (λ g. c.args.row < size g) (sym c.self.view_is) c.requires in
    subst (λ g. get_or c.self.inside.crosses c.args.row 0 < size g) c.self.view_is
    (subst (λ z. z < size d) (sym (c.self.invariant.0 c.args.row lt)) (column_mark d c.size-size.ensures.grid Cross c.args.row lt).inside)

pub returns-in-Ring-clause-inside : goal.returns-in-Ring-clause-inside
returns-in-Ring-clause-inside c =
    let d = c.self.inside.grid in
    let lt : c.args.row < size d = subst (λ g. c.args.row < size g) (sym c.self.view_is) c.requires in
    subst (λ g. get_or c.self.inside.rings c.args.row 0 < size g) c.self.view_is
    (subst (λ z. z < size d) (sym (c.self.invariant.1 c.args.row lt)) (column_mark d c.size-size.ensures.grid Ring c.args.row lt).inside)
