use Rattle.std.proofs.Common.{◌≡◌, ◌++◌, map, take}
use Rattle.grid_core.specs.Places.{lowered}
use Rattle.grid_moves.proofs.destabilisation.push_lowered.Given as goal

abbrev pub invariant-loop-r : goal.invariant-loop-r
invariant-loop-r l = l.rows.items ≡ l.fn.rows.items ++ map (lowered l.row) (take l.r-index l.more)
