-- The move that undoes a legal one.
use Rattle.std.specs.Prelude.{◌-◌}
use Rattle.grid_core.specs.Diagram.{Diagram, size, row_of}
use Rattle.grid_moves.specs.declared.step.Move.{Move}
use Rattle.grid_moves.specs.declared.step.Move.TheVariants.{ShiftColumns, ShiftRows, ExchangeColumns, ExchangeRows, SlideColumns, SlideRows, Stabilise}
use Rattle.grid_moves.specs.declared.step.Move.TheVariants.{Destabilise}
use Rattle.grid_moves.specs.BlockMarks.{block_kind, block_corner}

-- the rest of a shift, an exchange or a slide itself, the block of a stabilisation, the stabilisation that a block shows
abbrev pub inverse_of : Diagram → Move → Move
inverse_of d (ShiftColumns k) = ShiftColumns (size d - k)
inverse_of d (ShiftRows k) = ShiftRows (size d - k)
inverse_of d (ExchangeColumns c) = ExchangeColumns c
inverse_of d (ExchangeRows r) = ExchangeRows r
inverse_of d (SlideColumns c) = SlideColumns c
inverse_of d (SlideRows r) = SlideRows r
inverse_of d (Stabilise c kind corner) = Destabilise c (row_of kind d c)
inverse_of d (Destabilise c r) = Stabilise c (block_kind d c r) (block_corner d c r)
