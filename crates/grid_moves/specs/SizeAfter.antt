-- What a move makes of the size.
use Rattle.std.specs.Prelude.{◌+◌, ◌-◌, ℕ}
use Rattle.grid_moves.specs.declared.step.Move.{Move}
use Rattle.grid_moves.specs.declared.step.Move.TheVariants.{ShiftColumns, ShiftRows, ExchangeColumns, ExchangeRows, SlideColumns, SlideRows, Stabilise}
use Rattle.grid_moves.specs.declared.step.Move.TheVariants.{Destabilise}

-- the size of the result of a move on a diagram of this size
abbrev pub size_after : Move → ℕ → ℕ
size_after (ShiftColumns k) n = n
size_after (ShiftRows k) n = n
size_after (ExchangeColumns c) n = n
size_after (ExchangeRows r) n = n
size_after (SlideColumns c) n = n
size_after (SlideRows r) n = n
size_after (Stabilise c kind corner) n = n + 1
size_after (Destabilise c r) n = n - 1
