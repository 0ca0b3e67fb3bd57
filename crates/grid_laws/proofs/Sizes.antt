-- The size of a result.
use Rattle.std.proofs.Common.{◌≡◌, arith}
use Rattle.grid_core.specs.Diagram.{Diagram, size}
use Rattle.grid_moves.specs.declared.step.Move.{Move}
use Rattle.grid_moves.specs.declared.step.Move.TheVariants.{ShiftColumns, ShiftRows, ExchangeColumns, ExchangeRows, SlideColumns, SlideRows, Stabilise}
use Rattle.grid_moves.specs.declared.step.Move.TheVariants.{Destabilise}
use Rattle.grid_moves.specs.SizeAfter.{size_after}
use Rattle.grid_moves.specs.Step.{Step, Moves}

moved_size : (move : Move) (d e : Diagram) → Moves move d e → size e ≡ size_after move (size d)
moved_size (ShiftColumns k) d e m = m.renumbered.same_size
moved_size (ShiftRows k) d e m = m.renumbered.same_size
moved_size (ExchangeColumns c) d e m = m.renumbered.same_size
moved_size (ExchangeRows r) d e m = m.renumbered.same_size
moved_size (SlideColumns c) d e m = m.renumbered.same_size
moved_size (SlideRows r) d e m = m.renumbered.same_size
moved_size (Stabilise c kind corner) d e m = m.1.1.larger
moved_size (Destabilise c r) d e m = omega (arith, m.undone.larger)

pub step_size : (move : Move) (d e : Diagram) → Step d move e → size e ≡ size_after move (size d)
step_size move d e step = moved_size move d e step.marks
