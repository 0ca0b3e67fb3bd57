-- Exchanges keep the weight by rows: from the steps and the carried colours to the lists of columns.
use Rattle.std.proofs.Common.{◌≡◌, ◌∙◌, ◌<◌, ◌+◌, ◌++◌, ℕ, zero, suc, List, [], ◌∷◌, map, length, ap, sym, refl, subst, arith, inl, inr, append_assoc, add-one}
use Rattle.std.specs.Prelude.{Bool, true, slice_index, ◌⊎◌}
use Rattle.std.proofs.Math.Bool.{not}
use Rattle.std.proofs.lemmas.List.{length-map}
use Rattle.grid_core.specs.declared.mark.Kind.TheVariants.{Cross, Ring}
use Rattle.grid_core.specs.Diagram.{Diagram, IsGrid, size}
use Rattle.grid_core.specs.Parts.{column_of}
use Rattle.grid_moves.specs.declared.step.Move.TheVariants.{ExchangeColumns, ExchangeRows}
use Rattle.grid_moves.specs.Step.{Step}
use Rattle.grid_moves.specs.Exchange.{exchanged}
use Rattle.grid_moves.proofs.OneResult.{step_moved}
use Rattle.colour_rows.specs.Colouring.{IsColouring}
use Rattle.colour_laws.specs.Carried.{carried}
use Rattle.colour_laws.proofs.ColumnLists.{Acts, Column, IsColoured, IsInside, relabel, recolour, rises, swapped}
use Rattle.colour_laws.proofs.ColouredColumns.{act, columns, IsMarked, IsColouringByColumns, ys_of, across, AreRowsTradable, IsTradable, IsTradableAt}
use Rattle.colour_laws.proofs.ColouredColumns.{columns_traded, neighbours_traded, pair_traded, traded_colours}
use Rattle.colour_laws.proofs.Actions.{redo}
use Rattle.colour_laws.proofs.Tables.{act_acts}
use Rattle.colour_laws.proofs.Marked.{marked_columns, columns_marked, ys_of_columns, inside}
use Rattle.colour_laws.proofs.Walks.{by_columns}
use Rattle.colour_laws.proofs.Steps.{step_carries}
use Rattle.colour_laws.proofs.Rows.{row_at, row_walk}
use Rattle.colour_laws.proofs.Places.{together}
use Rattle.colour_laws.proofs.RowExchanges.{any_sym}
use Rattle.colour_laws.proofs.RowShifts.{xs_of_relabel, os_of_relabel, ys_of_relabel}
use Rattle.colour_laws.proofs.ByIndex.{coloured_at}
use Rattle.colour_laws.proofs.ByPlaces.{column_at, traded_at, tradable_at}
use Rattle.colour_laws.proofs.Exchanges.{pair_outer, pair_inner, pair_disjoint, traded_xs, traded_os, tradable_marked}
use Rattle.colour_laws.proofs.Exchanges as exchanges
use Rattle.colour_laws.proofs.ExchangeSteps.{AreFree, are_free, exchanged_swapped, map_same}
use Rattle.colour_laws.proofs.ColumnExchangeSteps.{exchanged_is, moved_row, to_right, to_left, stays}
use Rattle.cocycle_core.specs.ShadowCocycle.{ShadowCochain, IsShadowCocycle}
use Rattle.colour_weights.specs.ShadowWalkSum.{shadow_weight_by_rows}
use Rattle.colour_weights.proofs.RowSums.{Weighs, HaveSameWeight}
use Rattle.colour_weights.proofs.TradedRows.{rows_traded_weight, inner_of_together}
use Rattle.colour_weights.proofs.PairedRows.{is_inner}
use Rattle.colour_weights.proofs.ModSums.{turn}
use Rattle.colour_weights.proofs.TradedColumns.{nested_weight, disjoint_weight}
use Rattle.colour_weights.proofs.Earned.{earned, earned_weighs}
use Rattle.colour_weights.proofs.ShiftWeights.{coloured_columns, by_new_columns}

-- rows r and r + 1 trade their numbers, and every column keeps its colour
pub by_traded_rows : (w : ShadowCochain) → IsShadowCocycle w → (z : ℕ) → z < w.quandle.order → (d e : Diagram) → IsGrid d → IsGrid e → (r : ℕ)
    → suc r < size d → e.x ≡ map (swapped r) d.x → e.o ≡ map (swapped r) d.o
    → (f : List ℕ) → IsColouringByColumns w.quandle d f → IsColouringByColumns w.quandle e f
    → (is_inner r (suc r) (columns d.x d.o f) ≡ true) ⊎ (is_inner (suc r) r (columns d.x d.o f) ≡ true)
    → shadow_weight_by_rows w e f z ≡ shadow_weight_by_rows w d f z
by_traded_rows w cocycle z lz d e grid grid' r high hx ho f old new inner =
    let q = cocycle.quandle in
    let marked = marked_columns d f grid old.size in
    let same_size : size e ≡ size d = ap length hx ∙ length-map d.x (swapped r) in
    let marked' : IsMarked e (map (relabel (swapped r)) (columns d.x d.o f)) = record {
      crosses = xs_of_relabel (swapped r) (columns d.x d.o f) ∙ ap (map (swapped r)) marked.crosses ∙ sym hx;
      rings = os_of_relabel (swapped r) (columns d.x d.o f) ∙ ap (map (swapped r)) marked.rings ∙ sym ho;
    } in
    let colours : f ≡ ys_of (map (relabel (swapped r)) (columns d.x d.o f)) =
    sym (ys_of_relabel (swapped r) (columns d.x d.o f) ∙ ys_of_columns d.x d.o f grid.same old.size) in
    let are : columns e.x e.o f ≡ map (relabel (swapped r)) (columns d.x d.o f) =
    ap (columns e.x e.o) colours ∙ columns_marked e (map (relabel (swapped r)) (columns d.x d.o f)) marked' in
    let coloured' : IsColoured (act w.quandle) (size d) (map (relabel (swapped r)) (columns d.x d.o f)) =
    subst (λ (n : ℕ). IsColoured (act w.quandle) n (map (relabel (swapped r)) (columns d.x d.o f))) same_size
    (subst (IsColoured (act w.quandle) (size e)) are (coloured_columns w.quandle e grid' f new)) in
    let same = rows_traded_weight w.modulus (act w.quandle) (earned w) (act_acts w.quandle q) (earned_weighs w cocycle) z (size d) r (columns d.x d.o f) high
    inner (coloured_columns w.quandle d grid f old) coloured' in
    by_new_columns w cocycle z lz d e grid grid' f f old new (map (relabel (swapped r)) (columns d.x d.o f)) marked' colours
    (subst (λ (m : ℕ). HaveSameWeight w.modulus (act w.quandle) (earned w) z (size d) (columns d.x d.o f) m (map (relabel (swapped r)) (columns d.x d.o f)))
    (sym same_size) same)

-- an exchange of rows
pub exchange_of_rows : (w : ShadowCochain) → IsShadowCocycle w → (z : ℕ) → z < w.quandle.order → (d e : Diagram) (r : ℕ) → Step d (ExchangeRows r) e
    → (f : List ℕ) → IsColouring w.quandle d f
    → shadow_weight_by_rows w e (carried w.quandle d (ExchangeRows r) f) z ≡ shadow_weight_by_rows w d f z
exchange_of_rows w cocycle z lz d e r step f colouring =
    let q = cocycle.quandle in
    let grid = step.before in
    let old = by_columns w.quandle q d grid f colouring in
    let new = by_columns w.quandle q e step.after f ((step_carries w.quandle q d e (ExchangeRows r) step).into f colouring) in
    let is = step_moved d (ExchangeRows r) e step in
    let hx : e.x ≡ map (swapped r) d.x = ap (λ (f : Diagram). f.x) is ∙ map_same (exchanged r) (swapped r) (exchanged_swapped r) d.x in
    let ho : e.o ≡ map (swapped r) d.o = ap (λ (f : Diagram). f.o) is ∙ map_same (exchanged r) (swapped r) (exchanged_swapped r) d.o in
    let tradable : AreRowsTradable r d = (
      omega (arith, step.marks.inside),
      subst (λ (k : ℕ). AreFree (across r d) (across k d)) (add-one r) (are_free (column_of Cross d r) (column_of Ring d r) (column_of Cross d (r + 1))
          (column_of Ring d (r + 1)) 0 0 step.marks.may_exchange),
    ) in
    let marked = marked_columns d f grid old.size in
    let coloured = coloured_columns w.quandle d grid f old in
    let high : suc r < size d = tradable.0 in
    let low : r < size d = omega arith in
    let row : row_at (act w.quandle) r r (columns d.x d.o f) ≡ true = sym (row_walk (act w.quandle) r (columns d.x d.o f)) ∙ coloured.walks r low in
    let row' : row_at (act w.quandle) (suc r) (suc r) (columns d.x d.o f) ≡ true = sym (row_walk (act w.quandle) (suc r) (columns d.x d.o f))
    ∙ coloured.walks (suc r) high in
    let inner = inner_of_together (act w.quandle) r (suc r) (columns d.x d.o f) row (coloured.crosses r low) (coloured.rings r low) row'
    (coloured.crosses (suc r) high) (coloured.rings (suc r) high)
    (together (act w.quandle) d r (suc r) (columns d.x d.o f) marked row (coloured.crosses r low) (coloured.rings r low) (coloured.crosses (suc r) high)
    (coloured.rings (suc r) high) tradable.1)
    (together (act w.quandle) d (suc r) r (columns d.x d.o f) marked row' (coloured.crosses (suc r) high) (coloured.rings (suc r) high) (coloured.crosses r low)
    (coloured.rings r low) (any_sym (across r d) (across (suc r) d) tradable.1)) in
    by_traded_rows w cocycle z lz d e grid step.after r high hx ho f old new inner

-- columns c and c + 1 trade places
pair_weight : (k : ℕ) (p : Bool → ℕ → ℕ → ℕ) (G : Bool → ℕ → ℕ → ℕ → ℕ) → Acts p → Weighs k p G
    → (z n : ℕ) (front : List Column) (u v : Column) (rest : List Column)
    → (u.x < n) × (u.o < n) → (v.x < n) × (v.o < n) → IsTradable zero (u ∷ v ∷ rest)
    → IsColoured p n (front ++ u ∷ v ∷ rest) → IsColoured p n (front ++ pair_traded p u v rest)
    → HaveSameWeight k p G z n (front ++ u ∷ v ∷ rest) n (front ++ pair_traded p u v rest)
pair_weight k p G acts w z n front u v rest lu lv tradable old new = elim tradable [
  | inl nested ↦
      subst (λ (l : List Column). HaveSameWeight k p G z n (front ++ u ∷ v ∷ rest) n (front ++ l)) (sym (pair_outer p u v rest nested))
      (nested_weight k p G acts w z n front u v (p (not (rises u)) u.y v.y) rest lv.0 lv.1 nested (sym (redo p acts (rises u) u.y v.y)) old)
  | inr (inl nested) ↦
      let is = pair_inner p u v rest nested in
      let new' : IsColoured p n (front ++ v ∷ recolour u (p (rises v) v.y u.y) ∷ rest) = subst (λ (l : List Column). IsColoured p n (front ++ l)) is new in
      subst (λ (l : List Column). HaveSameWeight k p G z n (front ++ u ∷ v ∷ rest) n (front ++ l)) (sym is)
      (turn (nested_weight k p G acts w z n front v (recolour u (p (rises v) v.y u.y)) u.y rest lu.0 lu.1 (elim nested [
        | inl h ↦ inl h
        | inr h ↦ inr h
      ]) refl new'))
  | inr (inr disjoint) ↦
      subst (λ (l : List Column). HaveSameWeight k p G z n (front ++ u ∷ v ∷ rest) n (front ++ l)) (sym (pair_disjoint p u v rest disjoint))
      (disjoint_weight k p G acts w z n front u v rest disjoint)
]

traded_weight : (k : ℕ) (p : Bool → ℕ → ℕ → ℕ) (G : Bool → ℕ → ℕ → ℕ → ℕ) → Acts p → Weighs k p G → (z n : ℕ) (front : List Column) (c : ℕ) (cs : List Column)
    → IsInside n cs
    → IsTradable c cs
    → IsColoured p n (front ++ cs) → IsColoured p n (front ++ columns_traded p c cs) → HaveSameWeight k p G z n (front ++ cs) n (front ++ columns_traded p c cs)
traded_weight k p G acts w z n front zero [] within tradable old new = absurd tradable
traded_weight k p G acts w z n front zero (u ∷ []) within tradable old new = absurd tradable
traded_weight k p G acts w z n front zero (u ∷ v ∷ rest) within tradable old new =
    pair_weight k p G acts w z n front u v rest (within.0, within.1) (within.2.0, within.2.1) tradable old new
traded_weight k p G acts w z n front (suc c) [] within tradable old new = absurd tradable
traded_weight k p G acts w z n front (suc c) (u ∷ cs) within tradable old new =
    let one = append_assoc front (u ∷ []) cs in
    let two = append_assoc front (u ∷ []) (columns_traded p c cs) in
    let rest = traded_weight k p G acts w z n (front ++ u ∷ []) c cs within.2 tradable (subst (IsColoured p n) (sym one) old)
    (subst (IsColoured p n) (sym two) new) in
    subst (λ (l : List Column). HaveSameWeight k p G z n l n (front ++ u ∷ columns_traded p c cs)) one
    (subst (λ (l : List Column). HaveSameWeight k p G z n ((front ++ u ∷ []) ++ cs) n l) two rest)

-- an exchange of columns
pub exchange_of_columns : (w : ShadowCochain) → IsShadowCocycle w → (z : ℕ) → z < w.quandle.order → (d e : Diagram) (c : ℕ) → Step d (ExchangeColumns c) e
    → (f : List ℕ) → IsColouring w.quandle d f
    → shadow_weight_by_rows w e (carried w.quandle d (ExchangeColumns c) f) z ≡ shadow_weight_by_rows w d f z
exchange_of_columns w cocycle z lz d e c step f colouring =
    let q = cocycle.quandle in
    let grid = step.before in
    let grid' = step.after in
    let moved = step.marks.renumbered in
    let lt : c + 1 < size d = step.marks.inside in
    let free : AreFree (coloured_at c d.x d.o []) (coloured_at (c + 1) d.x d.o []) =
    are_free (slice_index d.x c) (slice_index d.o c) (slice_index d.x (c + 1)) (slice_index d.o (c + 1)) 0 0 step.marks.may_exchange in
    let next : c + 1 ≡ suc c = add-one c in
    let tradable : IsTradableAt c d.x d.o = tradable_at c d.x d.o (omega (arith, lt)) grid.same
    (subst (λ (k : ℕ). AreFree (column_at c d.x d.o) (column_at k d.x d.o)) next free) in
    let hx : e.x ≡ neighbours_traded c d.x = traded_at c e.x d.x (omega (arith, lt)) moved.same_size
    (moved_row c d e moved Cross (suc c) c (omega (arith, lt)) (to_left c)) (moved_row c d e moved Cross c (suc c) (omega (arith, lt)) (to_right c))
    (λ i at n m. moved_row c d e moved Cross i i at (stays c i n m)) in
    let ho : e.o ≡ neighbours_traded c d.o = traded_at c e.o d.o (omega (arith, lt, grid.same)) (grid'.same ∙ moved.same_size ∙ sym grid.same)
    (moved_row c d e moved Ring (suc c) c (omega (arith, lt)) (to_left c)) (moved_row c d e moved Ring c (suc c) (omega (arith, lt)) (to_right c))
    (λ i at n m. moved_row c d e moved Ring i i (omega (arith, at, grid.same)) (stays c i n m)) in
    let inverse = exchanges.columns_exchanged w.quandle q d e grid grid' c tradable hx ho in
    let old = by_columns w.quandle q d grid f colouring in
    let new = inverse.goes f old in
    let is = exchanged_is w.quandle d c lt grid free f old (new.size ∙ moved.same_size) in
    let cs : List Column = columns d.x d.o f in
    let ds : List Column = columns_traded (act w.quandle) c (columns d.x d.o f) in
    let marked = marked_columns d f grid old.size in
    let able = tradable_marked d c (columns d.x d.o f) grid marked tradable in
    let marked' : IsMarked e (columns_traded (act w.quandle) c (columns d.x d.o f)) = record {
      crosses = traded_xs (act w.quandle) c (columns d.x d.o f) able ∙ ap (neighbours_traded c) marked.crosses ∙ sym hx;
      rings = traded_os (act w.quandle) c (columns d.x d.o f) able ∙ ap (neighbours_traded c) marked.rings ∙ sym ho;
    } in
    let coloured' : IsColoured (act w.quandle) (size d) (columns_traded (act w.quandle) c (columns d.x d.o f)) =
    subst (λ (n : ℕ). IsColoured (act w.quandle) n (columns_traded (act w.quandle) c (columns d.x d.o f))) moved.same_size
    (subst (IsColoured (act w.quandle) (size e)) (columns_marked e (columns_traded (act w.quandle) c (columns d.x d.o f)) marked')
    (coloured_columns w.quandle e grid' (traded_colours w.quandle c d f) new)) in
    let same = traded_weight w.modulus (act w.quandle) (earned w) (act_acts w.quandle q) (earned_weighs w cocycle) z (size d) [] c (columns d.x d.o f)
    (inside d (columns d.x d.o f) grid marked) able (coloured_columns w.quandle d grid f old) coloured' in
    ap (λ c. shadow_weight_by_rows w e c z) (sym is)
    ∙ by_new_columns w cocycle z lz d e grid grid' f (traded_colours w.quandle c d f) old new
    (columns_traded (act w.quandle) c (columns d.x d.o f)) marked' refl
    (subst (λ (m : ℕ). HaveSameWeight w.modulus (act w.quandle) (earned w) z (size d) (columns d.x d.o f) m
    (columns_traded (act w.quandle) c (columns d.x d.o f))) (sym moved.same_size) same)
