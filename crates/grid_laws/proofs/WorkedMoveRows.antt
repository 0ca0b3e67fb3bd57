-- Worked examples of faults and of tidy lists.
use Rattle.std.proofs.Common.{◌≡◌, ◌∷◌, [], refl, true, false, Some, None}
use Rattle.grid_core.specs.Trefoils.{right_trefoil}
use Rattle.grid_laws.proofs.WorkedDiagrams.{unknot}
use Rattle.grid_moves.specs.declared.step.Move.TheVariants.{ShiftColumns, ShiftRows, ExchangeColumns, ExchangeRows, SlideColumns, SlideRows, Stabilise}
use Rattle.grid_moves.specs.declared.step.Move.TheVariants.{Destabilise}
use Rattle.grid_core.specs.declared.mark.Kind.TheVariants.{Cross}
use Rattle.grid_core.specs.declared.mark.Corner.TheVariants.{LowLeft}
use Rattle.grid_moves.specs.declared.step.MoveFault.TheVariants.{Range, Touching, Interleaved, Block, Apart}
use Rattle.grid_moves.specs.MoveFault.{first_move_fault}
use Rattle.grid_moves.specs.Tidy.{is_tidy}

nested : first_move_fault (record { x = 0 ∷ 1 ∷ 2 ∷ 3 ∷ []; o = 3 ∷ 2 ∷ 0 ∷ 1 ∷ [] }) (ExchangeColumns 0) ≡ None
nested = refl

interleaved : first_move_fault right_trefoil (ExchangeColumns 0) ≡ Some Interleaved
interleaved = refl

touching : first_move_fault (record { x = 1 ∷ 0 ∷ 2 ∷ []; o = 0 ∷ 2 ∷ 1 ∷ [] }) (ExchangeColumns 0) ≡ Some Touching
touching = refl

past_the_end : first_move_fault unknot (ExchangeColumns 1) ≡ Some Range
past_the_end = refl

both_rows_shared : first_move_fault unknot (SlideColumns 0) ≡ Some Touching
both_rows_shared = refl

slide_past_the_end : first_move_fault unknot (SlideColumns 1) ≡ Some Range
slide_past_the_end = refl

no_column_shared : first_move_fault right_trefoil (SlideRows 0) ≡ Some Apart
no_column_shared = refl

two_marks : first_move_fault right_trefoil (Destabilise 0 1) ≡ Some (Block 2)
two_marks = refl

four_marks : first_move_fault unknot (Destabilise 0 0) ≡ Some (Block 4)
four_marks = refl

-- ---- tidy lists

columns_then_rows : is_tidy (ShiftColumns 1 ∷ ShiftRows 1 ∷ ExchangeColumns 0 ∷ ShiftRows 1 ∷ SlideRows 2 ∷ ShiftColumns 3 ∷ []) ≡ true
columns_then_rows = refl

rows_then_columns : is_tidy (ShiftRows 1 ∷ ShiftColumns 1 ∷ []) ≡ false
rows_then_columns = refl

columns_twice : is_tidy (ExchangeColumns 0 ∷ ShiftColumns 1 ∷ ShiftColumns 2 ∷ []) ≡ false
columns_twice = refl

rows_twice : is_tidy (ShiftColumns 1 ∷ ShiftRows 1 ∷ ShiftRows 1 ∷ []) ≡ false
rows_twice = refl

behind_each_kind : is_tidy (ExchangeColumns 0 ∷ ShiftColumns 1 ∷ ExchangeRows 0 ∷ ShiftColumns 1 ∷ SlideColumns 0 ∷ ShiftColumns 1 ∷ SlideRows 0 ∷ ShiftColumns 1
    ∷ Stabilise 0 Cross LowLeft ∷ ShiftColumns 1 ∷ Destabilise 0 0 ∷ ShiftColumns 1 ∷ []) ≡ true
behind_each_kind = refl

none_at_all : is_tidy [] ≡ true
none_at_all = refl
