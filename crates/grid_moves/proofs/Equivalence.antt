-- Lists of moves lead back, and one after another: equivalence is one.
use Rattle.std.proofs.Common.{◌-◌, ◌++◌, ◌∷◌, [], List, refl, sym}
use Rattle.grid_core.specs.Diagram.{Diagram, size, row_of}
use Rattle.grid_moves.specs.declared.step.Move.{Move}
use Rattle.grid_moves.specs.declared.step.Move.TheVariants.{ShiftColumns, ShiftRows, ExchangeColumns, ExchangeRows, SlideColumns, SlideRows, Stabilise}
use Rattle.grid_moves.specs.declared.step.Move.TheVariants.{Destabilise}
use Rattle.grid_moves.specs.BlockMarks.{block_kind, block_corner}
use Rattle.grid_moves.specs.Step.{Step}
use Rattle.grid_moves.specs.Joining.{Joins, Equivalent}
use Rattle.grid_moves.proofs.Undone.{shift_columns_back, shift_rows_back, exchange_columns_back, exchange_rows_back, slide_columns_back, slide_rows_back}
use Rattle.grid_moves.proofs.Undone.{stabilise_back, destabilise_back}
use Rattle.grid_moves.proofs.Joined.{joins_append}

-- each step has a step back
pub step_back : (move : Move) (d e : Diagram) → Step d move e → (back : Move) × Step e back d
step_back (ShiftColumns k) d e step = (ShiftColumns (size d - k), shift_columns_back k d e step)
step_back (ShiftRows k) d e step = (ShiftRows (size d - k), shift_rows_back k d e step)
step_back (ExchangeColumns c) d e step = (ExchangeColumns c, exchange_columns_back c d e step)
step_back (ExchangeRows r) d e step = (ExchangeRows r, exchange_rows_back r d e step)
step_back (SlideColumns c) d e step = (SlideColumns c, slide_columns_back c d e step)
step_back (SlideRows r) d e step = (SlideRows r, slide_rows_back r d e step)
step_back (Stabilise c kind corner) d e step = (Destabilise c (row_of kind d c), stabilise_back c kind corner d e step)
step_back (Destabilise c r) d e step = (Stabilise c (block_kind d c r) (block_corner d c r), destabilise_back c r d e step)

joins_back : (moves : List Move) (d e : Diagram) → Joins d moves e → Equivalent e d
joins_back [] d e same = ([], sym same)
joins_back (move ∷ moves) d e joined =
    let last = step_back move d joined.0 joined.1.0 in
    let rest = joins_back moves joined.0 e joined.1.1 in
    (rest.0 ++ last.0 ∷ [], joins_append rest.0 (last.0 ∷ []) e joined.0 d rest.1 (d, (last.1, refl)))

pub equivalent_back : (d e : Diagram) → Equivalent d e → Equivalent e d
equivalent_back d e same = joins_back same.0 d e same.1

pub equivalent_after : (d e f : Diagram) → Equivalent d e → Equivalent e f → Equivalent d f
equivalent_after d e f one two = (one.0 ++ two.0, joins_append one.0 two.0 d e f one.1 two.1)

pub equivalent_same : (d : Diagram) → Equivalent d d
equivalent_same d = ([], refl)
