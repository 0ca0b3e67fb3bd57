-- The first reason why a move is not legal on a grid.
use Rattle.std.specs.Prelude.{◌+◌, ◌==◌, ◌&&◌, ◌||◌, ℕ, if◌then◌else◌, nat_lt, Option, Some, None}
use Rattle.grid_core.specs.declared.grid.TheConstants.{MAX_SIZE}
use Rattle.grid_core.specs.declared.span.Span.{Span}
use Rattle.grid_core.specs.Diagram.{Diagram, size}
use Rattle.grid_core.specs.Span.{share_an_end, share_both_ends, are_disjoint, are_nested}
use Rattle.grid_core.specs.Parts.{column_span, ends}
use Rattle.grid_moves.specs.declared.step.Move.{Move}
use Rattle.grid_moves.specs.declared.step.Move.TheVariants.{ShiftColumns, ShiftRows, ExchangeColumns, ExchangeRows, SlideColumns, SlideRows, Stabilise}
use Rattle.grid_moves.specs.declared.step.Move.TheVariants.{Destabilise}
use Rattle.grid_moves.specs.declared.step.MoveFault.{MoveFault}
use Rattle.grid_moves.specs.declared.step.MoveFault.TheVariants.{Range, Touching, Interleaved, Block, Full, Apart}
use Rattle.grid_moves.specs.Destabilisation.{marks_in_block}

-- of a shift by k
abbrev pub shift_fault : ℕ → ℕ → Option MoveFault
shift_fault n k = if nat_lt 0 k && nat_lt k n then None else Some Range

-- of two neighbours, for an exchange
abbrev pub exchange_fault : Span → Span → Option MoveFault
exchange_fault s t =
    if share_an_end s t then Some Touching else if are_disjoint s t || are_nested s t then None else Some Interleaved

-- of two neighbours, for a slide
abbrev pub slide_fault : Span → Span → Option MoveFault
slide_fault s t = if share_both_ends s t then Some Touching else if share_an_end s t then None else Some Apart

-- of a block that holds so many marks
abbrev pub block_fault : ℕ → Option MoveFault
block_fault marks = if marks == 3 then None else Some (Block marks)

-- out of range first, then the neighbours, the block, the size
abbrev pub first_move_fault : Diagram → Move → Option MoveFault
first_move_fault d (ShiftColumns k) = shift_fault (size d) k
first_move_fault d (ShiftRows k) = shift_fault (size d) k
first_move_fault d (ExchangeColumns c) =
    if nat_lt (c + 1) (size d) then exchange_fault (column_span d c) (column_span d (c + 1)) else Some Range
first_move_fault d (ExchangeRows r) = if nat_lt (r + 1) (size d) then exchange_fault (ends d r) (ends d (r + 1)) else Some Range
first_move_fault d (SlideColumns c) = if nat_lt (c + 1) (size d) then slide_fault (column_span d c) (column_span d (c + 1)) else Some Range
first_move_fault d (SlideRows r) = if nat_lt (r + 1) (size d) then slide_fault (ends d r) (ends d (r + 1)) else Some Range
first_move_fault d (Stabilise c kind corner) =
    if nat_lt c (size d) then if nat_lt (size d) MAX_SIZE then None else Some Full else Some Range
first_move_fault d (Destabilise c r) =
    if nat_lt (c + 1) (size d) && nat_lt (r + 1) (size d) then block_fault (marks_in_block d c r) else Some Range
