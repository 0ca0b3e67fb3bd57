-- The kinds of moves.
use Rattle.std.specs.Prelude.{Bool, true, false}
use Rattle.grid_moves.specs.declared.step.Move.{Move}
use Rattle.grid_moves.specs.declared.step.Move.TheVariants.{ShiftColumns, ShiftRows, ExchangeColumns, ExchangeRows, SlideColumns, SlideRows, Destabilise}

abbrev pub is_column_shift : Move → Bool
is_column_shift (ShiftColumns k) = true
is_column_shift other = false

abbrev pub is_row_shift : Move → Bool
is_row_shift (ShiftRows k) = true
is_row_shift other = false

abbrev pub is_shift : Move → Bool
is_shift (ShiftColumns k) = true
is_shift (ShiftRows k) = true
is_shift other = false

abbrev pub is_exchange : Move → Bool
is_exchange (ExchangeColumns c) = true
is_exchange (ExchangeRows r) = true
is_exchange other = false

abbrev pub is_slide : Move → Bool
is_slide (SlideColumns c) = true
is_slide (SlideRows r) = true
is_slide other = false

abbrev pub is_destabilisation : Move → Bool
is_destabilisation (Destabilise c r) = true
is_destabilisation other = false
