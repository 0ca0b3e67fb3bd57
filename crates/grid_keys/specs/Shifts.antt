-- The shifts of a translate as moves.
use Rattle.std.specs.Prelude.{ℕ, zero, suc, List, [], ◌∷◌, ◌++◌}
use Rattle.grid_moves.specs.declared.step.Move.{Move}
use Rattle.grid_moves.specs.declared.step.Move.TheVariants.{ShiftColumns, ShiftRows}

-- the shift of columns, which is left out where it is by 0
abbrev pub needed_column_shift : ℕ → List Move
needed_column_shift zero = []
needed_column_shift (suc k) = ShiftColumns (suc k) ∷ []

-- the shift of rows, likewise
abbrev pub needed_row_shift : ℕ → List Move
needed_row_shift zero = []
needed_row_shift (suc k) = ShiftRows (suc k) ∷ []

-- both: at most two moves
abbrev pub shift_moves : ℕ → ℕ → List Move
shift_moves a b = needed_column_shift a ++ needed_row_shift b
