-- The parts of a list of tries.
use Rattle.std.specs.Prelude.{ℕ}
use Rattle.grid_moves.specs.declared.step.Move.{Move}
use Rattle.grid_moves.specs.declared.step.Move.TheVariants.{ShiftColumns, ShiftRows, ExchangeColumns, ExchangeRows, SlideColumns, SlideRows, Stabilise}
use Rattle.grid_moves.specs.declared.step.Move.TheVariants.{Destabilise}

-- trades of columns, trades of rows, destabilisations, stabilisations; shifts are in none
abbrev pub part : Move → ℕ
part (ExchangeColumns c) = 0
part (SlideColumns c) = 0
part (ExchangeRows r) = 1
part (SlideRows r) = 1
part (Destabilise c r) = 2
part (Stabilise c kind corner) = 3
part (ShiftColumns k) = 4
part (ShiftRows k) = 4
