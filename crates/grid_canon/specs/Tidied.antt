-- A list of moves, tidied: each run of shifts leads to one translate, and becomes the shifts to it.
use Rattle.std.specs.Prelude.{◌+◌, ◌-◌, ◌%◌, ◌++◌, ℕ, List, [], ◌∷◌}
use Rattle.grid_moves.specs.declared.step.Move.{Move}
use Rattle.grid_moves.specs.declared.step.Move.TheVariants.{ShiftColumns, ShiftRows, ExchangeColumns, ExchangeRows, SlideColumns, SlideRows, Stabilise}
use Rattle.grid_moves.specs.declared.step.Move.TheVariants.{Destabilise}
use Rattle.grid_keys.specs.Shifts.{shift_moves}

-- from n columns on, behind shifts of columns by a and of rows by b that are not written yet: in each run of shifts those of columns
-- are added, and those of rows, round the circle; a shift by 0 is left out
abbrev pub tidied : ℕ → ℕ → ℕ → List Move → List Move
tidied n a b [] = shift_moves a b
tidied n a b (ShiftColumns k ∷ moves) = tidied n ((a + k) % n) b moves
tidied n a b (ShiftRows k ∷ moves) = tidied n a ((b + k) % n) moves
tidied n a b (ExchangeColumns c ∷ moves) = shift_moves a b ++ ExchangeColumns c ∷ tidied n 0 0 moves
tidied n a b (ExchangeRows r ∷ moves) = shift_moves a b ++ ExchangeRows r ∷ tidied n 0 0 moves
tidied n a b (SlideColumns c ∷ moves) = shift_moves a b ++ SlideColumns c ∷ tidied n 0 0 moves
tidied n a b (SlideRows r ∷ moves) = shift_moves a b ++ SlideRows r ∷ tidied n 0 0 moves
tidied n a b (Stabilise c kind corner ∷ moves) = shift_moves a b ++ Stabilise c kind corner ∷ tidied (n + 1) 0 0 moves
tidied n a b (Destabilise c r ∷ moves) = shift_moves a b ++ Destabilise c r ∷ tidied (n - 1) 0 0 moves

-- by how many columns the shifts of columns in a list move a diagram, and by how many rows those of rows
abbrev pub column_sum : List Move → ℕ
column_sum [] = 0
column_sum (ShiftColumns k ∷ moves) = k + column_sum moves
column_sum (ShiftRows k ∷ moves) = column_sum moves
column_sum (ExchangeColumns c ∷ moves) = column_sum moves
column_sum (ExchangeRows r ∷ moves) = column_sum moves
column_sum (SlideColumns c ∷ moves) = column_sum moves
column_sum (SlideRows r ∷ moves) = column_sum moves
column_sum (Stabilise c kind corner ∷ moves) = column_sum moves
column_sum (Destabilise c r ∷ moves) = column_sum moves

abbrev pub row_sum : List Move → ℕ
row_sum [] = 0
row_sum (ShiftColumns k ∷ moves) = row_sum moves
row_sum (ShiftRows k ∷ moves) = k + row_sum moves
row_sum (ExchangeColumns c ∷ moves) = row_sum moves
row_sum (ExchangeRows r ∷ moves) = row_sum moves
row_sum (SlideColumns c ∷ moves) = row_sum moves
row_sum (SlideRows r ∷ moves) = row_sum moves
row_sum (Stabilise c kind corner ∷ moves) = row_sum moves
row_sum (Destabilise c r ∷ moves) = row_sum moves
