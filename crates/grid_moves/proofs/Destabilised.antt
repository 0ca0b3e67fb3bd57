-- The list form of a destabilisation: its row of two marks is taken out, and a stabilisation puts it back.
use Rattle.std.proofs.Common.{◌≡◌, ◌≢◌, ◌<◌, ◌≤◌, ◌+◌, ◌-◌, ◌∙◌, ℕ, arith, sym, ap, subst, inl, inr}
use Rattle.grid_core.specs.declared.mark.Kind.{Kind}
use Rattle.grid_core.specs.declared.mark.Kind.TheVariants.{Cross, Ring}
use Rattle.grid_core.specs.declared.mark.Corner.{Corner}
use Rattle.grid_core.specs.Diagram.{Diagram, HasMark, IsGrid, size, row_of, other}
use Rattle.grid_core.specs.Corners.{corner_column, corner_row}
use Rattle.grid_core.specs.Places.{lifted}
use Rattle.grid_core.proofs.Gaps.{lifted-same}
use Rattle.grid_core.proofs.Marks.{row_below, row_once}
use Rattle.grid_moves.specs.declared.step.Move.TheVariants.{Destabilise}
use Rattle.grid_moves.specs.DoubleRows.{column_in_new_row, double_row, column_in_double_row}
use Rattle.grid_moves.specs.Stabilisation.{Stabilises}
use Rattle.grid_moves.specs.Destabilisation.{marks_in_block}
use Rattle.grid_moves.specs.Step.{Step}
use Rattle.grid_moves.proofs.Widened.{Widened, place_same, place_other, lifted_low, lifted_high, right_small, above_small, kinds, stabilises_from_widened}
use Rattle.grid_moves.proofs.Widened.{widened_along}
use Rattle.grid_moves.proofs.WidenedGrids.{narrowed, narrowed-widened, narrowed-lengths, narrowed_grid}
use Rattle.grid_moves.proofs.Stabilised.{columns_in_new_row-beside}
use Rattle.grid_moves.proofs.Blocks.{IsBlock, block_shape, double_row_is, column_in_double_row_is}

-- the diagram as lists
abbrev pub destabilised : ℕ → Diagram → Diagram
destabilised c d = narrowed (column_in_double_row d c) (double_row d c) d

module _ (c r : ℕ) (kind : Kind) (corner : Corner) (d : Diagram) (grid : IsGrid d) (inside : c + 1 < size d) (block : IsBlock c r kind corner d) where
  mark_of : (k : Kind) → HasMark d k (column_in_new_row c kind corner k) (r + corner_row corner)
  mark_of k = elim (kinds kind k) [
    | inl is ↦
        subst (λ z. HasMark d z (column_in_new_row c kind corner z) (r + corner_row corner)) (sym is)
        (record {
          inside = omega (arith, place_same c kind corner, right_small corner, inside);
          row = ap (λ (z : ℕ). row_of kind d z) (place_same c kind corner)
              ∙ block.in_its_row;
        })
    | inr is ↦
        subst (λ z. HasMark d z (column_in_new_row c kind corner z) (r + corner_row corner)) (sym is)
        (record {
          inside = omega (arith, place_other c kind corner, right_small corner, inside);
          row = ap (λ (z : ℕ). row_of (other kind) d z) (place_other c kind corner) ∙ block.at_corner;
        })
  ]

  pub double_row_mark : (k : Kind) → HasMark d k (column_in_double_row d c k) (double_row d c)
  double_row_mark k =
      let m = mark_of k in
      let q = double_row_is c r kind corner d block in
      let p = column_in_double_row_is c r kind corner d block k in
      record { inside = omega (arith, p, m.inside); row = ap (λ (z : ℕ). row_of k d z) p ∙ m.row ∙ sym q }

  pub destabilised-widened : Widened (column_in_new_row c kind corner) (r + corner_row corner) (destabilised c d) d
  destabilised-widened =
      widened_along (column_in_double_row d c) (column_in_new_row c kind corner) (double_row d c) (r + corner_row corner) (destabilised c d) d
      (column_in_double_row_is c r kind corner d block) (double_row_is c r kind corner d block)
      (narrowed-widened (column_in_double_row d c) (double_row d c) d grid double_row_mark)

  smaller : size d ≡ size (destabilised c d) + 1
  smaller = destabilised-widened.larger

  own_row : row_of kind (destabilised c d) c ≡ r
  own_row =
      let to : lifted (column_in_new_row c kind corner kind) c ≡ c + corner_column corner =
      ap (λ (z : ℕ). lifted z c) (place_same c kind corner) ∙ lifted_high c (corner_column corner) (right_small corner) in
      lifted-same (r + corner_row corner) (row_of kind (destabilised c d) c) r
      (sym (destabilised-widened.kept kind c (omega (arith, smaller, inside))) ∙ ap (λ (z : ℕ). row_of kind d z) to ∙ block.in_its_column
      ∙ sym (lifted_low r (corner_row corner) (above_small corner)))

  other_row : row_of (other kind) (destabilised c d) c ≢ r
  other_row e =
      let to : lifted (column_in_new_row c kind corner (other kind)) c ≡ c + 1 - corner_column corner =
      ap (λ (z : ℕ). lifted z c) (place_other c kind corner) ∙ lifted_low c (corner_column corner) (right_small corner) in
      block.empty (sym (ap (λ (z : ℕ). row_of (other kind) d z) to) ∙ destabilised-widened.kept (other kind) c (omega (arith, smaller, inside))
      ∙ ap (λ (z : ℕ). lifted (r + corner_row corner) z) e ∙ lifted_low r (corner_row corner) (above_small corner))

  free : row_of Cross (destabilised c d) c ≢ row_of Ring (destabilised c d) c
  free e = free_by kind own_row other_row e
    where
      free_by : (k : Kind) → row_of k (destabilised c d) c ≡ r → row_of (other k) (destabilised c d) c ≢ r
          → row_of Cross (destabilised c d) c ≢ row_of Ring (destabilised c d) c
      free_by Cross own far e = far (sym e ∙ own)
      free_by Ring own far e = far (e ∙ own)

  three_rows : r + 1 < size d → 3 ≤ size d
  three_rows low =
      let far = c + 1 - corner_column corner in
      let within : c + 1 - corner_column corner < size d = omega (arith, inside) in
      let row = row_below d grid (other kind) (c + 1 - corner_column corner) within in
      let not_here : row_of (other kind) d (c + 1 - corner_column corner) ≢ r + corner_row corner =
      λ e. absurd (omega (
        arith,
        right_small corner,
        row_once d grid (other kind) (c + 1 - corner_column corner) (c + corner_column corner) within (omega (arith, right_small corner, inside))
            (e ∙ sym block.at_corner),
      )) in
      omega (arith, row, not_here, block.empty, above_small corner, low)

  pub destabilised_grid : r + 1 < size d → IsGrid (destabilised c d)
  destabilised_grid low =
      narrowed_grid c (column_in_new_row c kind corner) (r + corner_row corner) (destabilised c d) d (columns_in_new_row-beside c kind corner)
      (omega (arith, above_small corner, low)) (three_rows low) free grid
      (narrowed-lengths (column_in_double_row d c) (double_row d c) d grid double_row_mark) destabilised-widened

  pub destabilised_undone : r + 1 < size d → Stabilises c kind corner r (destabilised c d) d
  destabilised_undone low =
      stabilises_from_widened c kind corner r (destabilised c d) d (destabilised_grid low)
      (record { inside = omega (arith, smaller, inside); row = own_row }) destabilised-widened

pub destabilised-grid : (c r : ℕ) (d : Diagram) → IsGrid d → c + 1 < size d → r + 1 < size d → marks_in_block d c r ≡ 3 → IsGrid (destabilised c d)
destabilised-grid c r d grid inside low three =
    let shape = block_shape c r d grid inside three in
    destabilised_grid c r shape.0 shape.1.0 d grid inside shape.1.1 low

pub destabilised-step : (c r : ℕ) (d : Diagram) → IsGrid d → c + 1 < size d → r + 1 < size d → marks_in_block d c r ≡ 3
    → Step d (Destabilise c r) (destabilised c d)
destabilised-step c r d grid inside low three =
    let shape = block_shape c r d grid inside three in
    record {
      before = grid;
      after = destabilised-grid c r d grid inside low three;
      marks = record {
        columns = inside;
        rows = low;
        three = three;
        kind = shape.0;
        corner = shape.1.0;
        undone = destabilised_undone c r shape.0 shape.1.0 d grid inside shape.1.1 low;
      };
    }

-- the row with two marks has the two in the columns taken out
pub destabilised-marks : (c r : ℕ) (d : Diagram) → IsGrid d → c + 1 < size d → marks_in_block d c r ≡ 3
    → (k : Kind) → HasMark d k (column_in_double_row d c k) (double_row d c)
destabilised-marks c r d grid inside three =
    let shape = block_shape c r d grid inside three in
    double_row_mark c r shape.0 shape.1.0 d grid inside shape.1.1
