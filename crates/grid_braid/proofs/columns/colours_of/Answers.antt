use Rattle.std.proofs.Common.{ℕ, List, ◌∙◌, map, ap, sym, subst, refl}
use Rattle.std.specs.Prelude.{slice_index}
use Rattle.colour_rows.specs.Colouring.{IsColouring}
use Rattle.grid_braid.specs.Strands.{down_columns}
use Rattle.grid_braid.specs.Feet.{at_feet}
use Rattle.grid_braid.specs.Columns.{column_colours}
use Rattle.grid_braid.proofs.Law.{feet_acted, feet_coloured, lists_same, lists_differ}
use Rattle.grid_braid.proofs.columns.colours_of.Goals as goal

pub returns-then-ne-clause-none : goal.returns-then-ne-clause-none
returns-then-ne-clause-none c =
    let t = c.args.quandle.now in
    let d = c.args.grid.now in
    let tuple = c.args.feet.now in
    let read = c.as_slice-2.ensures.value ∙ (c.down_colours.ensures
    ∙ ap (λ (ys : List ℕ). map (slice_index ys) (down_columns d)) (c.as_slice.ensures.value ∙ c.strands_from-strands.ensures.strands)) in (
      λ e fixed. lists_differ c.ne.result c.as_slice-2.result.now tuple c.ne.ensures c.if-ne.true
          (read ∙ (sym (feet_acted t d c.size-size.ensures.grid tuple c.requires.0) ∙ fixed)),
      λ moved. refl,
    )

pub returns-clause-none : goal.returns-clause-none
returns-clause-none c =
    let t = c.args.quandle.now in
    let d = c.args.grid.now in
    let tuple = c.args.feet.now in
    let read = c.as_slice-2.ensures.value ∙ (c.down_colours.ensures
    ∙ ap (λ (ys : List ℕ). map (slice_index ys) (down_columns d)) (c.as_slice.ensures.value ∙ c.strands_from-strands.ensures.strands)) in (
      λ e. absurd (cc),
      λ moved. absurd (moved (feet_acted t d c.size-size.ensures.grid tuple c.requires.0
          ∙ (sym read ∙ lists_same c.ne.result c.as_slice-2.result.now tuple c.ne.ensures c.if-ne.false))),
    )

pub returns-clause-colouring : goal.returns-clause-colouring
returns-clause-colouring c =
    let t = c.args.quandle.now in
    let d = c.args.grid.now in
    let tuple = c.args.feet.now in
    let read = c.as_slice-2.ensures.value ∙ (c.down_colours.ensures
    ∙ ap (λ (ys : List ℕ). map (slice_index ys) (down_columns d)) (c.as_slice.ensures.value ∙ c.strands_from-strands.ensures.strands)) in
    subst (IsColouring t d) (sym (c.columns_from.ensures ∙ ap (column_colours t d) c.strands_from-strands.ensures.strands))
    (feet_coloured t c.order-order.ensures.quandle d c.size-size.ensures.grid tuple c.requires
    (sym read ∙ lists_same c.ne.result c.as_slice-2.result.now tuple c.ne.ensures c.if-ne.false)).0

pub returns-clause-feet : goal.returns-clause-feet
returns-clause-feet c =
    let t = c.args.quandle.now in
    let d = c.args.grid.now in
    let tuple = c.args.feet.now in
    let read = c.as_slice-2.ensures.value ∙ (c.down_colours.ensures
    ∙ ap (λ (ys : List ℕ). map (slice_index ys) (down_columns d)) (c.as_slice.ensures.value ∙ c.strands_from-strands.ensures.strands)) in
    ap (at_feet t d) (c.columns_from.ensures ∙ ap (column_colours t d) c.strands_from-strands.ensures.strands)
    ∙ (feet_coloured t c.order-order.ensures.quandle d c.size-size.ensures.grid tuple c.requires
    (sym read ∙ lists_same c.ne.result c.as_slice-2.result.now tuple c.ne.ensures c.if-ne.false)).1
