use Rattle.std.proofs.Common.{◌≡◌, ◌++◌, map, take, drop}
use Rattle.grid_moves.specs.Shift.{shifted}
use Rattle.grid_keys.proofs.translation.lower_all.Given as goal

abbrev pub invariant-loop-place : goal.invariant-loop-place
invariant-loop-place l = l.rows ≡ map (shifted l.size l.by) (take l.place l.fn.rows) ++ drop l.place l.fn.rows
