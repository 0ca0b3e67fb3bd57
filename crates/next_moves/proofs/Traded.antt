-- A legal move by which two neighbours trade places leads to the diagram with the two in each other's place.
use Rattle.std.proofs.Common.{◌≡◌, ◌<◌, Option, Some, None, true, ℕ, arith, refl, sym, subst}
use Rattle.std.specs.Option.{is_none}
use Rattle.grid_core.specs.Diagram.{Diagram, IsGrid, size}
use Rattle.grid_moves.specs.declared.step.Move.{Move}
use Rattle.grid_moves.specs.declared.step.Move.TheVariants.{ExchangeColumns, ExchangeRows, SlideColumns, SlideRows}
use Rattle.grid_moves.specs.declared.step.MoveFault.{MoveFault}
use Rattle.grid_moves.specs.MoveFault.{first_move_fault}
use Rattle.grid_moves.specs.Exchanged.{columns_exchanged, rows_exchanged}
use Rattle.grid_moves.specs.Step.{Step}
use Rattle.grid_moves.proofs.OneResult.{moved, moved_step}
use Rattle.grid_keys.specs.Translation.{translate}
use Rattle.grid_keys.proofs.Translated.{translate-grid}
use Rattle.next_moves.specs.Tries.{Try, shift_before, place_after_shift, try_column_exchange, try_column_slide, try_row_exchange, try_row_slide}
use Rattle.next_moves.specs.Offers.{is_legal}
use Rattle.next_moves.proofs.Sides.{shift_before-below}

none_of : (fault : Option MoveFault) → is_none fault ≡ true → fault ≡ None
none_of None e = refl
none_of (Some fault) e = cc

legal_step : (d : Diagram) (try : Try) → IsGrid d → try.before.0 < size d → try.before.1 < size d → is_legal d try ≡ true
    → Step (translate d try.before.0 try.before.1) try.step (moved try.step (translate d try.before.0 try.before.1))
legal_step d try grid columns rows legal =
    moved_step (translate d try.before.0 try.before.1) try.step (translate-grid d try.before.0 try.before.1 grid columns rows)
    (none_of (first_move_fault (translate d try.before.0 try.before.1) try.step) legal)

module _ (d : Diagram) (c by place : ℕ) (grid : IsGrid d) (lt : c < size d) (shift : by ≡ shift_before (size d) c)
    (stands : place ≡ place_after_shift (size d) c) where
  shift_inside : shift_before (size d) c < size d
  shift_inside = shift_before-below (size d) c grid.least lt

  some : 0 < size d
  some = omega (arith, grid.least)

  columns_at : (step : ℕ → Move) → Step (translate d (shift_before (size d) c) 0) (step (place_after_shift (size d) c))
      (columns_exchanged (place_after_shift (size d) c) (translate d (shift_before (size d) c) 0))
      → Step (translate d by 0) (step place) (columns_exchanged place (translate d by 0))
  columns_at step is =
      subst (λ (z : ℕ). Step (translate d z 0) (step place) (columns_exchanged place (translate d z 0))) (sym shift)
      (subst (λ (z : ℕ). Step (translate d (shift_before (size d) c) 0) (step z) (columns_exchanged z (translate d (shift_before (size d) c) 0)))
      (sym stands) is)

  rows_at : (step : ℕ → Move) → Step (translate d 0 (shift_before (size d) c)) (step (place_after_shift (size d) c))
      (rows_exchanged (place_after_shift (size d) c) (translate d 0 (shift_before (size d) c)))
      → Step (translate d 0 by) (step place) (rows_exchanged place (translate d 0 by))
  rows_at step is =
      subst (λ (z : ℕ). Step (translate d 0 z) (step place) (rows_exchanged place (translate d 0 z))) (sym shift)
      (subst (λ (z : ℕ). Step (translate d 0 (shift_before (size d) c)) (step z) (rows_exchanged z (translate d 0 (shift_before (size d) c))))
      (sym stands) is)

  pub columns_exchanged_step : is_legal d (try_column_exchange (size d) c) ≡ true
      → Step (translate d by 0) (ExchangeColumns place) (columns_exchanged place (translate d by 0))
  columns_exchanged_step legal = columns_at (λ z. ExchangeColumns z) (legal_step d (try_column_exchange (size d) c) grid shift_inside some legal)

  pub columns_slid_step : is_legal d (try_column_slide (size d) c) ≡ true
      → Step (translate d by 0) (SlideColumns place) (columns_exchanged place (translate d by 0))
  columns_slid_step legal = columns_at (λ z. SlideColumns z) (legal_step d (try_column_slide (size d) c) grid shift_inside some legal)

  pub rows_exchanged_step : is_legal d (try_row_exchange (size d) c) ≡ true
      → Step (translate d 0 by) (ExchangeRows place) (rows_exchanged place (translate d 0 by))
  rows_exchanged_step legal = rows_at (λ z. ExchangeRows z) (legal_step d (try_row_exchange (size d) c) grid some shift_inside legal)

  pub rows_slid_step : is_legal d (try_row_slide (size d) c) ≡ true
      → Step (translate d 0 by) (SlideRows place) (rows_exchanged place (translate d 0 by))
  rows_slid_step legal = rows_at (λ z. SlideRows z) (legal_step d (try_row_slide (size d) c) grid some shift_inside legal)
