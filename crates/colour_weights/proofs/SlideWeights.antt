-- Slides keep the weight by rows: from the steps to the lists of columns.
use Rattle.std.proofs.Common.{◌<◌, ◌≡◌, ◌∙◌, ℕ, suc, List, map, ap, sym, subst, arith}
use Rattle.std.proofs.lemmas.List.{length-map}
use Rattle.grid_core.specs.Diagram.{Diagram, size}
use Rattle.grid_moves.specs.declared.step.Move.TheVariants.{SlideColumns, SlideRows}
use Rattle.grid_moves.specs.Step.{Step}
use Rattle.grid_moves.specs.Exchange.{exchanged}
use Rattle.grid_moves.proofs.OneResult.{step_moved}
use Rattle.colour_rows.specs.Colouring.{IsColouring}
use Rattle.colour_laws.specs.Carried.{carried}
use Rattle.colour_laws.proofs.ColumnLists.{Column, swapped}
use Rattle.colour_laws.proofs.ColouredColumns.{act, columns, IsMarked, HasBoth, neighbours_traded}
use Rattle.colour_laws.proofs.Tables.{act_acts}
use Rattle.colour_laws.proofs.Marked.{marked_columns, ys_of_columns}
use Rattle.colour_laws.proofs.Walks.{by_columns}
use Rattle.colour_laws.proofs.Steps.{step_carries}
use Rattle.colour_laws.proofs.ExchangeSteps.{exchanged_swapped, map_same}
use Rattle.colour_laws.proofs.ColumnExchangeSteps.{marks_traded}
use Rattle.colour_laws.proofs.ColumnSlides.{kept_colours, traded_of}
use Rattle.colour_laws.proofs.RowSlides.{same_both}
use Rattle.colour_laws.proofs.SlideSteps.{sharing, both}
use Rattle.cocycle_core.specs.ShadowCocycle.{ShadowCochain, IsShadowCocycle}
use Rattle.colour_weights.specs.ShadowWalkSum.{shadow_weight_by_rows}
use Rattle.colour_weights.proofs.RowSums.{HaveSameWeight}
use Rattle.colour_weights.proofs.SlidColumns.{columns_slid_weight}
use Rattle.colour_weights.proofs.TradedRows.{inner_of_both}
use Rattle.colour_laws.proofs.Rows.{row_at, row_walk}
use Rattle.std.specs.Prelude.{true}
use Rattle.colour_weights.proofs.Earned.{earned, earned_weighs}
use Rattle.colour_weights.proofs.ShiftWeights.{coloured_columns, by_new_columns}
use Rattle.colour_weights.proofs.ExchangeWeights.{by_traded_rows}

-- a slide of columns
pub slide_of_columns : (w : ShadowCochain) → IsShadowCocycle w → (z : ℕ) → z < w.quandle.order → (d e : Diagram) (c : ℕ) → Step d (SlideColumns c) e
    → (f : List ℕ) → IsColouring w.quandle d f
    → shadow_weight_by_rows w e (carried w.quandle d (SlideColumns c) f) z ≡ shadow_weight_by_rows w d f z
slide_of_columns w cocycle z lz d e c step f colouring =
    let q = cocycle.quandle in
    let grid = step.before in
    let m = step.marks in
    let old = by_columns w.quandle q d grid f colouring in
    let new = by_columns w.quandle q e step.after f ((step_carries w.quandle q d e (SlideColumns c) step).into f colouring) in
    let traded = marks_traded c d e grid step.after m.inside m.renumbered in
    let same_size : size e ≡ size d = m.renumbered.same_size in
    let row = sharing d c grid m.inside m.may_slide.shared in
    let marked = marked_columns d f grid old.size in
    let coloured = coloured_columns w.quandle d grid f old in
    let stays = kept_colours w.quandle d grid row.0 c row.1 row.2 (columns d.x d.o f) marked coloured in
    let same = columns_slid_weight w.modulus (act w.quandle) (earned w) (act_acts w.quandle q) (earned_weighs w cocycle) z (size d) c
    (columns d.x d.o f) stays coloured in
    let marked' : IsMarked e (neighbours_traded c (columns d.x d.o f)) = record {
      crosses = traded_of (λ (l : Column). l.x) c (columns d.x d.o f) ∙ ap (neighbours_traded c) marked.crosses ∙ sym traded.0;
      rings = traded_of (λ (l : Column). l.o) c (columns d.x d.o f) ∙ ap (neighbours_traded c) marked.rings ∙ sym traded.1;
    } in
    by_new_columns w cocycle z lz d e grid step.after f f old new (neighbours_traded c (columns d.x d.o f)) marked'
    (sym (traded_of (λ (l : Column). l.y) c (columns d.x d.o f) ∙ stays ∙ ys_of_columns d.x d.o f grid.same old.size))
    (subst (λ (n : ℕ). HaveSameWeight w.modulus (act w.quandle) (earned w) z (size d) (columns d.x d.o f) n (neighbours_traded c (columns d.x d.o f)))
    (sym same_size) same)

-- a slide of rows
pub slide_of_rows : (w : ShadowCochain) → IsShadowCocycle w → (z : ℕ) → z < w.quandle.order → (d e : Diagram) (r : ℕ) → Step d (SlideRows r) e → (f : List ℕ)
    → IsColouring w.quandle d f
    → shadow_weight_by_rows w e (carried w.quandle d (SlideRows r) f) z ≡ shadow_weight_by_rows w d f z
slide_of_rows w cocycle z lz d e r step f colouring =
    let q = cocycle.quandle in
    let grid = step.before in
    let old = by_columns w.quandle q d grid f colouring in
    let new = by_columns w.quandle q e step.after f ((step_carries w.quandle q d e (SlideRows r) step).into f colouring) in
    let is = step_moved d (SlideRows r) e step in
    let marked = marked_columns d f grid old.size in
    let blank = marked_columns d (map (λ m. 0) d.x) grid (length-map d.x (λ m. 0)) in
    let here : HasBoth r (suc r) (columns d.x d.o f) =
    same_both r (suc r) (columns d.x d.o (map (λ m. 0) d.x)) (columns d.x d.o f) (blank.crosses ∙ sym marked.crosses) (blank.rings ∙ sym marked.rings)
    (both d r grid step.marks.inside step.marks.may_slide.shared) in
    let coloured = coloured_columns w.quandle d grid f old in
    let high : suc r < size d = omega (arith, step.marks.inside) in
    let low : r < size d = omega arith in
    let row : row_at (act w.quandle) r r (columns d.x d.o f) ≡ true = sym (row_walk (act w.quandle) r (columns d.x d.o f)) ∙ coloured.walks r low in
    let inner = inner_of_both (act w.quandle) r (suc r) (columns d.x d.o f) row (omega (arith, coloured.crosses r low, coloured.rings r low))
    (omega (arith, coloured.crosses (suc r) high, coloured.rings (suc r) high)) here in
    by_traded_rows w cocycle z lz d e grid step.after r high
    (ap (λ (g : Diagram). g.x) is ∙ map_same (exchanged r) (swapped r) (exchanged_swapped r) d.x)
    (ap (λ (g : Diagram). g.o) is ∙ map_same (exchanged r) (swapped r) (exchanged_swapped r) d.o)
    f old new inner
