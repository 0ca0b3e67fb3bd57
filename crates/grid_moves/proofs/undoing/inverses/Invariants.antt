use Rattle.std.proofs.Common.{take, reverse}
use Rattle.grid_moves.specs.Undoing.{Undone}
use Rattle.grid_moves.proofs.undoing.inverses.Given as goal

abbrev pub invariant-loop-step : goal.invariant-loop-step
invariant-loop-step l = Undone l.grid (take l.step-index l.moves) l.here (reverse l.list.items)
